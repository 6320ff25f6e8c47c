use Rattle.std.specs.Option.{option_copied}
use Rattle.object_form.specs.Forms.{pairs_text}
use Rattle.walk_law.proofs.FrontLemmas.{behind_told, whole_just}
use Rattle.walk_law.proofs.could_say.is_pairs_of.Goals as goal

pub returns-in-Some : goal.returns-in-Some
returns-in-Some c =
    let pairs = pairs_text c.args.pairs.now in
    behind_told c.args.front.now pairs c.args.text.now c.in-Some.rest.now c.is_whole.result c.in-Some.ensures
    (whole_just pairs c.in-Some.rest.now (option_copied c.behind_pairs.result) c.is_whole.result c.behind_pairs.ensures
    c.is_whole.ensures)
