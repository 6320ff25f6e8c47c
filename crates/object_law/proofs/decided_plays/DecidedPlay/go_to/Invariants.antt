use Rattle.std.proofs.Common.{◌≡◌, ◌-◌}
use Rattle.object_law.specs.Decided.{IsDecidedPlay}
use Rattle.object_law.proofs.decided_plays.DecidedPlay.go_to.Given as goal

-- the nodes up to this one are fed
abbrev pub invariant-loop-self : goal.invariant-loop-self
invariant-loop-self l = IsDecidedPlay l.subject l.self × (l.self.shard ≡ l.initial.self.shard)

abbrev pub decreases-loop-self : goal.decreases-loop-self
decreases-loop-self l = l.count - l.self.count
