use Rattle.std.proofs.Common.{◌-◌, ◌≡◌, ◌≤◌, ℕ}
use Rattle.object_law.specs.ObjectPlays.{HoldsFirst}
use Rattle.object_law.proofs.line_play.LinePlay.go_on.Given as goal

-- the object is what the nodes up to this one leave
abbrev pub invariant-loop-self : goal.invariant-loop-self
invariant-loop-self g l =
    HoldsFirst g.F.LineFold.Holds l.nodes l.line l.self.fold l.self.count × (l.self.count ≤ l.count)
    × (g.F.LineFold.opened l.self.fold ≡ g.F.LineFold.opened l.initial.self.fold)

abbrev pub decreases-loop-self : goal.decreases-loop-self
decreases-loop-self g l = l.count - l.self.count
