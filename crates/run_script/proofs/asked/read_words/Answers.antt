use Rattle.std.proofs.Common.{ap, map, option_map, string_bytes, sym, ◌∙◌}
use Rattle.std.specs.Prelude.{option_and_then}
use Rattle.command_words.specs.Parting.{texts_of}
use Rattle.run_script.specs.Words.{task_by}
use Rattle.run_script.proofs.WordLemmas.{task_parted}
use Rattle.run_script.proofs.asked.read_words.Goals as goal

pub returns-in-Some : goal.returns-in-Some
returns-in-Some c = c.task_at.ensures ∙ (ap (option_and_then task_by)
    (sym (ap (option_map texts_of) c.in-Some.is) ∙ c.in_ok-words.ensures)
    ∙ task_parted (map string_bytes c.args.words.now))
