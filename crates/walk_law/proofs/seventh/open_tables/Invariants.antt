use Rattle.std.proofs.Common.{take}
use Rattle.walk_law.specs.Seventh.{AreOpenTables}
use Rattle.walk_law.proofs.seventh.open_tables.Given as goal

-- those of the columns so far
abbrev pub invariant-loop-column : goal.invariant-loop-column
invariant-loop-column l = AreOpenTables (take l.column-index l.columns) l.tables.items
