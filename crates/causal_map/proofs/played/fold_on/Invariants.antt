use Rattle.std.proofs.Common.{◌≤◌, length, take}
use Rattle.object_fold.specs.CausalStates.{IsCausalMap}
use Rattle.causal_map.specs.Played.{chain_nodes}
use Rattle.causal_map.proofs.played.fold_on.Given as goal

-- the map was fed the nodes so far
abbrev pub invariant-loop-place : goal.invariant-loop-place
invariant-loop-place l = record {
  within : l.place ≤ length l.nodes;
  folds : IsCausalMap l.map (take l.place (chain_nodes l.nodes));
}
