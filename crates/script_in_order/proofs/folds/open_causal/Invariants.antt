use Rattle.std.proofs.Common.{◌≡◌, ℕ, Some, length}
use Rattle.std.specs.Prelude.{slice_get}
use Rattle.world_laws.specs.Worlds.{World}
use Rattle.object_fold.specs.declared.causal_map.CausalMap.{CausalMap}
use Rattle.script_in_order.specs.CausalFolds.{IsCausalFold}
use Rattle.script_in_order.proofs.folds.open_causal.Given as goal

-- the folds so far are of no node
abbrev pub invariant-loop : goal.invariant-loop
invariant-loop l = record {
  many : length l.folds.items ≡ l.counter;
  each : (n : ℕ) (fold : CausalMap) → slice_get l.folds.items n ≡ Some fold
      → (w : World) (own colour : ℕ) → IsCausalFold w own colour fold;
}
