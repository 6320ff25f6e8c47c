use Rattle.std.proofs.Common.{get_or, rules, tests, true, ◌≡◌}
use Rattle.script_text.specs.Pieces.{is_between}
use Rattle.run_script.proofs.WordLemmas.{rounds_found, rounds_too_many, rounds_unread}
use Rattle.run_script.proofs.asked.rounds.Goals as goal

pub returns-in-Ok : goal.returns-in-Ok
returns-in-Ok c =
    let begins : is_between 49 57 (get_or c.args.word.now 0 0) ≡ true = search (rules, tests) in
    rounds_found c.args.word.now c.parse.result begins c.parse.ensures.value.0 c.in-Ok.count c.in-Ok.is
    c.if-count-le-MAX_LOAD.true

pub returns-in_default : goal.returns-in_default
returns-in_default c =
    let begins : is_between 49 57 (get_or c.args.word.now 0 0) ≡ true = search (rules, tests) in
    rounds_too_many c.args.word.now c.parse.result begins c.parse.ensures.value.0 c.in-Ok.count c.in-Ok.is
    c.if-count-le-MAX_LOAD.false

pub returns-in_default-2 : goal.returns-in_default-2
returns-in_default-2 c =
    let begins : is_between 49 57 (get_or c.args.word.now 0 0) ≡ true = search (rules, tests) in
    rounds_unread c.args.word.now c.parse.result begins c.parse.ensures.value.0 c.in_default.field-0 c.in_default.is
