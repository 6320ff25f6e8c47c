use Rattle.std.proofs.Common.{take}
use Rattle.walk_law.specs.PlaceTables.{AreSteps}
use Rattle.walk_law.proofs.step_table.StepTable.of_journal.Given as goal

-- the own steps so far
abbrev pub invariant-loop-at : goal.invariant-loop-at
invariant-loop-at l = AreSteps (take l.at l.journal) l.table
