use Rattle.std.proofs.Common.{◌≡◌, take}
use Rattle.object_fold.specs.CausalStates.{not_followed}
use Rattle.object_fold.proofs.causal_map.not_followed.Given as goal

abbrev pub invariant-loop-write : goal.invariant-loop-write
invariant-loop-write l = l.left ≡ not_followed l.past (take l.write-index l.writes)
