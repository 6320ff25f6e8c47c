use Rattle.std.proofs.Common.{take}
use Rattle.walk_law.specs.Journals.{AreMakers}
use Rattle.walk_law.proofs.journals.are_makers.Given as goal

abbrev pub invariant-loop-entry : goal.invariant-loop-entry
invariant-loop-entry l = AreMakers l.clients (take l.entry-index l.journal)
