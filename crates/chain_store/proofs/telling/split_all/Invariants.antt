use Rattle.std.proofs.Common.{◌≡◌, ◌<◌, ℕ, Some, slice_get, length}
use Rattle.chain_store.specs.Passes.{ColumnCell, ColumnPass}
use Rattle.chain_store.specs.Holds.{HasPasses, history_seen}
use Rattle.chain_store.specs.Telling.{IsTold, SeenAlike}
use Rattle.chain_store.proofs.telling.split_all.Given as goal

-- the passes of the first colours were split, and know what they knew
abbrev pub invariant-loop-colour : goal.invariant-loop-colour
invariant-loop-colour l = record {
  passes : HasPasses l.cells l.initial.passes.number l.passes.items.items;
  number : l.passes.number ≡ l.initial.passes.number;
  same : SeenAlike l.initial.passes.items.items l.passes.items.items;
  count : length l.all.items ≡ l.colour;
  told : (k : ℕ) (c : ColumnCell) (p : ColumnPass) → slice_get l.cells k ≡ Some c → slice_get l.all.items k ≡ Some p
      → IsTold c p;
  alike : (k : ℕ) → k < l.colour
      → history_seen (slice_get l.all.items k) ≡ history_seen (slice_get l.initial.passes.items.items k);
}
