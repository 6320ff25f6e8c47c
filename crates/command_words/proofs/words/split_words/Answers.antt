use Rattle.std.proofs.Common.{rules, tests, map, string_bytes}
use Rattle.command_words.proofs.Parses.{found_words, no_words}
use Rattle.command_words.proofs.words.split_words.Goals as goal

pub returns-in-Ok : goal.returns-in-Ok
returns-in-Ok c =
    found_words _ c.in_ok-command.ensures (map string_bytes c.args.words.now) (search (rules, tests))
    c.in-Ok.ensures.kinds c.in-Ok.matches c.in-Ok.ensures.matches c.words_of.result c.words_of.ensures

pub returns : goal.returns
returns c =
    no_words _ c.in_ok-command.ensures (map string_bytes c.args.words.now) (search (rules, tests))
    c.in-Err-2.field-0 c.in-Err-2.ensures.kinds (search (rules, tests))
