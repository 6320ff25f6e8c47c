use Rattle.std.proofs.Common.{◌-◌, ◌≡◌, ◌≤◌, ℕ}
use Rattle.object_law.specs.ObjectPlays.{HoldsFirst}
use Rattle.object_law.proofs.region_play.RegionPlay.go_on.Given as goal

-- the object is what the nodes up to this one leave
abbrev pub invariant-loop-self : goal.invariant-loop-self
invariant-loop-self g l =
    HoldsFirst g.F.NodeFold.Holds l.nodes l.keys l.self.fold l.self.count × (l.self.count ≤ l.count)

abbrev pub decreases-loop-self : goal.decreases-loop-self
decreases-loop-self g l = l.count - l.self.count
