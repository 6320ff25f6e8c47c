use Rattle.std.proofs.Common.{◌≡◌}
use Rattle.object_fold.specs.Maps.{set_pairs}
use Rattle.object_fold.proofs.several_keys.set_pairs.Given as goal

abbrev pub invariant-loop-pair : goal.invariant-loop-pair
invariant-loop-pair l = l.value ≡ set_pairs l.key l.fn.old l.yielded
