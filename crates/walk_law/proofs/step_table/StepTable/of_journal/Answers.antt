use Rattle.std.proofs.Common.{◌∙◌, ◌+◌, sym, subst, take}
use Rattle.walk_law.specs.PlaceTables.{AreSteps}
use Rattle.walk_law.proofs.PlaceLemmas.{steps_less, steps_more}
use Rattle.walk_law.proofs.step_table.StepTable.of_journal.Goals as goal
use Rattle.walk_law.proofs.step_table.StepTable.of_journal.Goals.{in-Some+in_ok-add, in_default}

pub loop-at-preserved : goal.loop-at-preserved
loop-at-preserved c =
    let journal = c.args.journal.now in
    let at = c.loop-at.at in
    let e = c.index-journal-at.result in
    elim c.match-step_made.branch [
      | in-Some+in_ok-add w ↦
          subst (AreSteps (take (at + 1) journal)) (sym w.table-is)
          (steps_more journal at e c.loop-at-test.true c.index-journal-at.is c.loop-at.table w.add.new.self
          _ (sym w.in-Some.is ∙ c.step_made.ensures) w.in_ok-add.ensures c.loop-at.invariant)
      | in_default w ↦
          subst (AreSteps (take (at + 1) journal)) (sym w.table-is)
          (steps_less journal at e c.loop-at-test.true c.index-journal-at.is c.loop-at.table
          (sym w.in_default.is ∙ c.step_made.ensures) c.loop-at.invariant)
    ]
