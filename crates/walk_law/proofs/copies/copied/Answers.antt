use Rattle.std.proofs.Common.{subst, Option, ℕ}
use Rattle.col_core.specs.Cuts.{carried}
use Rattle.walk_law.specs.Proposals.{PassesHeads, line_heads}
use Rattle.walk_law.proofs.CopiesLemmas.{copied_end, copied_more, copied_not}
use Rattle.walk_law.proofs.copies.copied.Goals as goal

pub returns-in_default : goal.returns-in_default
returns-in_default c =
    copied_not (line_heads c.args.origin c.args.journal.now) c.args.origin c.args.copier.now c.loop-entry.entry-index c.entry-item.result
    c.loop-entry-test.true c.entry-item.is c.loop-entry.held c.loop-entry.invariant.0 c.loop-entry.invariant.1
    (subst (λ (o : Option ℕ). PassesHeads (line_heads c.args.origin c.args.journal.now) c.loop-entry.held
    (carried c.args.origin c.entry-item.result.event) o) c.in_default.is c.past_carried.ensures)

pub loop-entry-preserved : goal.loop-entry-preserved
loop-entry-preserved c =
    copied_more (line_heads c.args.origin c.args.journal.now) c.args.origin c.args.copier.now c.loop-entry.entry-index c.entry-item.result
    c.loop-entry-test.true c.entry-item.is c.loop-entry.held c.loop-entry.invariant.0 c.loop-entry.invariant.1 c.in-Some.next
    (subst (λ (o : Option ℕ). PassesHeads (line_heads c.args.origin c.args.journal.now) c.loop-entry.held
    (carried c.args.origin c.entry-item.result.event) o) c.in-Some.is c.past_carried.ensures)

pub returns : goal.returns
returns c =
    copied_end (line_heads c.args.origin c.args.journal.now) c.args.origin c.args.copier.now c.loop-entry.entry-index c.loop-entry.held
    c.loop-entry-test.false c.loop-entry.invariant.0 c.loop-entry.invariant.1
