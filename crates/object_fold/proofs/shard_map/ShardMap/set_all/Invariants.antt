use Rattle.std.proofs.Common.{◌≡◌, ◌≤◌, ◌+◌, ℕ, List, length}
use Rattle.log_node.specs.declared.forms.Pair.{Pair}
use Rattle.log_node.specs.declared.forms.Form.TheVariants.{PutAll}
use Rattle.object_fold.specs.declared.shard_map.ShardMap.{ShardMap}
use Rattle.object_fold.specs.Tables.{value_at}
use Rattle.object_fold.specs.States.{HasShardOf, mine_with}
use Rattle.object_fold.proofs.shard_map.ShardMap.set_all.Given as goal

-- the pairs so far are set
pub record SetsPairs (old new : ShardMap) (pairs : List Pair) (set : List Pair) : Type 0 where
  pub shard : HasShardOf old new
  pub room : length pairs ≤ new.values.spare + length set
  pub values : (other : List ℕ) → value_at new.values.entries other ≡ mine_with old other (PutAll set)

abbrev pub invariant-loop-key : goal.invariant-loop-key
invariant-loop-key l = SetsPairs l.fn.self l.self l.fn.pairs l.yielded
