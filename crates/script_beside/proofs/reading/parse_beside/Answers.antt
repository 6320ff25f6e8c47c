use Rattle.std.proofs.Common.{subst, rules}
use Rattle.script_text.specs.declared.script.Script.{Script}
use Rattle.script_beside.specs.Dealt.{IsDealt}
use Rattle.script_beside.proofs.PartLemmas.{are_callers, not_given, only_dealt}
use Rattle.script_beside.proofs.reading.parse_beside.Goals as goal

pub returns-in-Some-clause-only : goal.returns-in-Some-clause-only
returns-in-Some-clause-only g c = only_dealt c.args.bytes.now c.in-Some.dealt (rw c.in-Some.is at c.in_ok-dealt.ensures)

pub returns-in_err-script-in-None-clause-only : goal.returns-in_err-script-in-None-clause-only
returns-in_err-script-in-None-clause-only g c = λ script is.
    not_given c.in_err-script-in-None.field-0.0 c.from_residual-in_err-script-in-None.result script (search rules)
    (c.in_err-script-in-None.ensures.only script is)

pub deal-requires : goal.deal-requires
deal-requires g c = are_callers c.args.bytes.now c.in_ok-script-in-None.script c.in_ok-script-in-None.ensures.accepted

pub returns-in_ok-deal-in-None-clause-only : goal.returns-in_ok-deal-in-None-clause-only
returns-in_ok-deal-in-None-clause-only g c = λ script is.
    subst (λ (s : Script). IsDealt s c.in_ok-deal-in-None.field-0) (c.in_ok-script-in-None.ensures.only script is) c.in_ok-deal-in-None.ensures
