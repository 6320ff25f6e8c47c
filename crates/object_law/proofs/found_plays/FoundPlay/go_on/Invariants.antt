use Rattle.std.proofs.Common.{◌≡◌, ◌-◌, ◌≤◌}
use Rattle.object_law.specs.Found.{IsFoundPlay}
use Rattle.object_law.proofs.found_plays.FoundPlay.go_on.Given as goal

-- the nodes up to this one are fed
abbrev pub invariant-loop-self : goal.invariant-loop-self
invariant-loop-self l = IsFoundPlay l.subject l.self × (l.self.count ≤ l.count) × (l.self.order ≡ l.initial.self.order)

abbrev pub decreases-loop-self : goal.decreases-loop-self
decreases-loop-self l = l.count - l.self.count
