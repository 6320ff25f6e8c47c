use Rattle.std.proofs.Common.{◌≡◌, ◌<◌, ◌≤◌, ℕ, Some, slice_get, length}
use Rattle.chain_store.specs.Passes.{ColumnPass}
use Rattle.chain_store.specs.Holds.{HasPasses, history_seen}
use Rattle.chain_store.specs.Telling.{Heard}
use Rattle.chain_store.proofs.telling.meet_all.Given as goal

-- what is left to hear are the first ones; the passes of the others have heard
abbrev pub invariant-loop-other : goal.invariant-loop-other
invariant-loop-other l = record {
  left : (k : ℕ) (t : ColumnPass) → slice_get l.told.items k ≡ Some t → slice_get l.initial.told.items k ≡ Some t;
  short : length l.told.items ≤ length l.initial.told.items;
  passes : HasPasses l.cells l.initial.passes.number l.passes.items.items;
  number : l.passes.number ≡ l.initial.passes.number;
  early : (k : ℕ) → k < length l.told.items
      → slice_get l.passes.items.items k ≡ slice_get l.initial.passes.items.items k;
  heard : (k : ℕ) → length l.told.items ≤ k → Heard l.initial.passes.number
      (history_seen (slice_get l.initial.passes.items.items k)) (history_seen (slice_get l.initial.told.items k))
      (history_seen (slice_get l.passes.items.items k));
}

abbrev pub decreases-loop-other : goal.decreases-loop-other
decreases-loop-other l = length l.told.items
