use Rattle.std.proofs.Common.{ℕ, ◌≤◌, subst}
use Rattle.col_core.specs.declared.Entry.{Entry}
use Rattle.col_core.specs.Cuts.{noted_from}
use Rattle.walk_law.proofs.Lists.{all_end, all_next}
use Rattle.walk_law.proofs.copies.notes_within.Goals as goal

pub loop-entry-preserved : goal.loop-entry-preserved
loop-entry-preserved c =
    all_next (λ (e : Entry). noted_from c.args.region e.event ≤ c.args.held) c.args.journal.now c.loop-entry.entry-index c.entry-item.result
    c.loop-entry-test.true c.entry-item.is c.loop-entry.invariant
    (subst (λ (n : ℕ). n ≤ c.args.held) c.noted_from.ensures c.if-noted_from-held.false)

pub returns : goal.returns
returns c =
    all_end (λ (e : Entry). noted_from c.args.region e.event ≤ c.args.held) c.args.journal.now c.loop-entry.entry-index
    c.loop-entry-test.false c.loop-entry.invariant
