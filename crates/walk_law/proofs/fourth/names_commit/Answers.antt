use Rattle.lawful_run.specs.Callers.{caller_of}
use Rattle.run_rules.specs.Told.{kept_after_append}
use Rattle.walk_law.proofs.FourthLemmas.{and_told, both_told, then_not, then_so}
use Rattle.walk_law.proofs.fourth.names_commit.Goals as goal

pub returns-then-not-branch : goal.returns-then-not-branch
returns-then-not-branch c = λ kept untold stamp s ids left_out points raises syncs named.
    then_not _ _ c.in_ok-names_append.field-0 (c.in_ok-names_append.ensures kept untold stamp s ids left_out points)
    c.if-not-branch.true named.0

pub returns : goal.returns
returns c = λ kept untold stamp s ids left_out points raises syncs.
    let caller = caller_of c.args.subject.now.script c.args.seen.now.client in
    let append = then_so _ _ c.in_ok-names_append.field-0 (c.in_ok-names_append.ensures kept untold stamp s ids left_out points)
    c.if-not-branch.false in
    both_told _ _ c.names_read.result append.0
    (and_told _ _ c.names_read.result
    (c.names_read.ensures caller (kept_after_append untold caller kept stamp c.args.row c.args.points.now) stamp append.1 raises syncs))
