use Rattle.std.proofs.Common.{◌∙◌, ◌∷◌, ◌++◌, [], ap, subst}
use Rattle.column_track.specs.Doing.{Goes}
use Rattle.column_track.specs.declared.marks.Mark.{Mark}
use Rattle.column_track.proofs.NextLemmas.{so_far_next, so_far_stops}
use Rattle.column_track.proofs.doing.entries_again.Goals as goal

pub returns-then-not-branch : goal.returns-then-not-branch
returns-then-not-branch c =
    let e = c.entry-item.result in
    so_far_stops c.args.column.now c.loop-entry.column c.args.journal.now c.loop-entry.entry-index c.loop-entry.marks.items
    c.loop-entry.invariant e c.loop-entry-test.true c.entry-item.is
    (subst (Goes c.loop-entry.column c.entry_again.new.column e.by e.event e.stamp) c.if-not-branch.true c.in_ok-entry_again.ensures)

pub loop-entry-preserved : goal.loop-entry-preserved
loop-entry-preserved c =
    let e = c.entry-item.result in
    so_far_next c.args.column.now c.loop-entry.column c.args.journal.now c.loop-entry.entry-index c.loop-entry.marks.items
    c.loop-entry.invariant e c.loop-entry-test.true c.entry-item.is c.entry_again.new.column c.push-in-loop-entry.new.self.items
    (subst (Goes c.loop-entry.column c.entry_again.new.column e.by e.event e.stamp) c.if-not-branch.false c.in_ok-entry_again.ensures)
    (c.in_ok-push-2.ensures.items ∙ ap (λ (m : Mark). c.loop-entry.marks.items ++ m ∷ []) c.mark_of-in-loop-entry.ensures)
