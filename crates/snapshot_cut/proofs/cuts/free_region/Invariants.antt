use Rattle.std.proofs.Common.{◌≡◌, ℕ, ◌<◌, false}
use Rattle.std.specs.Prelude.{slice_get}
use Rattle.log_node.specs.Vectors.{at}
use Rattle.log_node.specs.Reach.{is_covered}
use Rattle.snapshot_cut.proofs.cuts.free_region.Given as goal

-- none of the regions so far is free
abbrev pub invariant-loop-region : goal.invariant-loop-region
invariant-loop-region g l =
    (r : ℕ) → r < l.region → is_covered l.v (slice_get (g.V.NeedsView.chains l.view r) (at l.v r)) ≡ false
