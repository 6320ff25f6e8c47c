use Rattle.std.proofs.Common.{◌≡◌, take}
use Rattle.std.specs.List.{fold}
use Rattle.run_picture.specs.Marks.{later_clock}
use Rattle.run_picture.proofs.marks.greatest_clock.Given as goal

-- the greatest clock so far
abbrev pub invariant-loop-column : goal.invariant-loop-column
invariant-loop-column l = l.last ≡ fold later_clock 0 (take l.column-index l.report.columns)
