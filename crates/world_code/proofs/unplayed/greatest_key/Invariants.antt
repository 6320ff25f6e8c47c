use Rattle.std.proofs.Common.{◌≡◌, take, map}
use Rattle.log_node.specs.declared.ids.Key.{Key}
use Rattle.log_node.specs.Outcomes.{greatest}
use Rattle.world_code.proofs.unplayed.greatest_key.Given as goal

-- the greatest stamp so far
abbrev pub invariant-loop-key : goal.invariant-loop-key
invariant-loop-key l = l.most ≡ greatest (map (λ (k : Key). k.stamp) (take l.key-index l.key-items))
