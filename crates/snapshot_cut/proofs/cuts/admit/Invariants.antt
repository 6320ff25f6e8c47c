use Rattle.log_node.specs.Vectors.{IsWithin}
use Rattle.log_node.specs.Reach.{Reachable}
use Rattle.snapshot_cut.specs.Stuck.{left}
use Rattle.snapshot_cut.proofs.cuts.admit.Given as goal

abbrev pub invariant-loop-region : goal.invariant-loop-region
invariant-loop-region g l =
    Reachable (g.V.NeedsView.chains l.view) l.cut × IsWithin (g.V.NeedsView.bases l.view) l.cut

abbrev pub decreases-loop-region : goal.decreases-loop-region
decreases-loop-region g l = left (g.V.NeedsView.chains l.view) l.cut
