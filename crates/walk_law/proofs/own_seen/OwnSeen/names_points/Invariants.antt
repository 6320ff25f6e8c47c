use Rattle.std.proofs.Common.{take}
use Rattle.std.specs.List.{All}
use Rattle.col_core.specs.Keeping.{Kept}
use Rattle.lawful_run.specs.Callers.{Caller}
use Rattle.run_rules.specs.Naming.{NamesPoint}
use Rattle.walk_law.specs.Fourth.{ArePointsLow, Sees}
use Rattle.walk_law.specs.Walking.{log_walked}
use Rattle.walk_law.proofs.own_seen.OwnSeen.names_points.Given as goal

-- all so far
abbrev pub invariant-loop-point : goal.invariant-loop-point
invariant-loop-point l = (caller : Caller) (kept : Kept) → Sees caller kept l.self → ArePointsLow l.points
    → All (NamesPoint (log_walked l.subject) caller kept) (take l.point-index l.points)
