use Rattle.std.proofs.Common.{take}
use Rattle.std.specs.List.{All}
use Rattle.std.proofs.Common.{◌<◌}
use Rattle.col_core.specs.Keeping.{Kept}
use Rattle.report_text.specs.declared.report.PointPiece.{PointPiece}
use Rattle.lawful_run.specs.Callers.{caller_of}
use Rattle.run_rules.specs.Telling.{replies_to}
use Rattle.walk_law.specs.Keepings.{IsCounted}
use Rattle.walk_law.specs.Twelfth.{WasFirst, open_in}
use Rattle.walk_law.specs.Walking.{log_walked}
use Rattle.walk_law.proofs.twelfth.Guards.were_first.Given as goal

-- all points so far
abbrev pub invariant-loop-point : goal.invariant-loop-point
invariant-loop-point l = (kept : Kept) → IsCounted (replies_to l.subject.report l.client) kept l.keeping
    → All (λ (p : PointPiece). p.colour < l.subject.script.shape.colours) l.points
    → All (WasFirst (open_in l.subject.script.shape.colours l.self.opens.by_column.items) (log_walked l.subject)
    (caller_of l.subject.script l.client) kept) (take l.point-index l.points)
