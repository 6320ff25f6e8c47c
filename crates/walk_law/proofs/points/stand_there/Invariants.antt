use Rattle.std.proofs.Common.{take}
use Rattle.std.specs.List.{All}
use Rattle.col_core.specs.Keeping.{Kept}
use Rattle.lawful_run.specs.Callers.{caller_of}
use Rattle.run_rules.specs.Telling.{replies_to}
use Rattle.walk_law.specs.Keepings.{IsCounted}
use Rattle.walk_law.specs.Sixth.{StandsThere}
use Rattle.walk_law.specs.Walking.{log_walked}
use Rattle.walk_law.proofs.points.stand_there.Given as goal

-- at all points so far
abbrev pub invariant-loop-point : goal.invariant-loop-point
invariant-loop-point l = (kept : Kept) → IsCounted (replies_to l.subject.report l.client) kept l.keeping
    → All (StandsThere (log_walked l.subject) (caller_of l.subject.script l.client) kept l.stamp l.row) (take l.point-index l.points)
