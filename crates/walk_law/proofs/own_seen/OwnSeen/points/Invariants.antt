use Rattle.std.proofs.Common.{take}
use Rattle.col_core.specs.Keeping.{Kept}
use Rattle.lawful_run.specs.Appends.{kept_after_points}
use Rattle.lawful_run.specs.Callers.{Caller}
use Rattle.walk_law.specs.Fourth.{Sees}
use Rattle.walk_law.proofs.own_seen.OwnSeen.points.Given as goal

-- behind the points so far
abbrev pub invariant-loop-point : goal.invariant-loop-point
invariant-loop-point l = (caller : Caller) (kept : Kept) → Sees caller kept l.initial.self
    → Sees caller (kept_after_points kept caller.own (take l.point-index l.points)) l.self
