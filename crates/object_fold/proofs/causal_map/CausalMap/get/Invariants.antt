use Rattle.std.proofs.Common.{◌≡◌, map, take}
use Rattle.object_fold.specs.declared.causal_map.LatestWrite.{LatestWrite}
use Rattle.object_fold.proofs.causal_map.CausalMap.get.Given as goal

abbrev pub invariant-loop-write : goal.invariant-loop-write
invariant-loop-write l = l.values.items ≡ map (λ (w : LatestWrite). w.value) (take l.write-index l.write-items)
