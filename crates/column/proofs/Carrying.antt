-- What a carry of any nodes keeps true of a column.
use Rattle.std.proofs.Common.{◌≡◌, ◌≢◌, ℕ, suc, ◌+◌, ◌<◌, ◌≤◌, List, [], ◌∷◌, ◌++◌, length, refl, arith}
use Rattle.std.specs.Prelude.{map, slice_set, ◌==◌, if◌then◌else◌}
use Rattle.log_node.specs.declared.ids.Counts.{Counts}
use Rattle.log_node.specs.Seen.{PlacedNode}
use Rattle.log_node.specs.Vectors.{at, vector}
use Rattle.col_core.specs.declared.Event.TheVariants as events
use Rattle.col_core.specs.declared.Entry.{Entry}
use Rattle.column.specs.Columns.{ColumnState, held_of, copy_of, with_items}
use Rattle.column.specs.Inside.{IsColumn, AreNumbers, IsRoomFor, IsKept, IsStillReached}
use Rattle.column.proofs.Steps.{next_column, still_reached, reached_yet}
use Rattle.column.proofs.Entering.{event-room}
use Rattle.column.proofs.Moving.{carrying, carry_next, carry_is, carry_numbers}

-- the entry by which these nodes are carried
abbrev pub carry_entry : ColumnState → ℕ → ℕ → List PlacedNode → Entry
carry_entry column by region items = record {
  by = by;
  event = events.Carry region (held_of column region) (map (λ (i : PlacedNode). i.head) items);
  stamp = 0;
}

abbrev pub with_carried : ColumnState → ℕ → ℕ → List PlacedNode → ColumnState
with_carried column by region items = next_column column (carry_entry column by region items) column.queue
    (slice_set column.copies region (copy_of column region ++ items))

module _ (column : ColumnState) (by region : ℕ) (h : IsColumn column) (other : region ≢ column.region)
    (in_range : region < column.regions) where
  pub carried_kept : (items : List PlacedNode) → 0 < length items → (counted notes base : Counts) (end : ℕ)
      → AreNumbers column counted notes base → end ≡ at counted region + length items
      → (opens spare capacity capacity' : ℕ) → IsRoomFor column opens spare capacity
      → length column.journal + (opens + spare + spare + 1) ≤ capacity'
      → IsKept (with_carried column by region items) (vector (λ here. if here == region then end else at counted here))
      notes base opens spare capacity'
  carried_kept [] some = absurd (let f : ⊥ = omega (arith, some) in f)
  carried_kept (item ∷ items) some = λ counted notes base end n is_end opens spare capacity capacity' r room. record {
    column_is = carry_is column by region item items h other in_range;
    numbers_are = carry_numbers column by region item items h other in_range counted notes base end n is_end;
    room_is = event-room column (carry_entry column by region (item ∷ items)) column.queue
        (slice_set column.copies region (copy_of column region ++ item ∷ items)) opens spare capacity capacity' r refl refl
        room;
  }

  pub carried_reached : (items : List PlacedNode) → 0 < length items
      → IsStillReached column (with_carried column by region items)
  carried_reached [] some = absurd (let f : ⊥ = omega (arith, some) in f)
  carried_reached (item ∷ items) some = still_reached column (carrying column by region item items h other in_range) h
      (carry_next column by region item items h other in_range) column.queue
      (slice_set column.copies region (copy_of column region ++ item ∷ items))

-- a carry leaves all else as it is
pub carry_region : (column : ColumnState) (by region : ℕ) (items : List PlacedNode)
    → (with_items column by region items).region ≡ column.region
carry_region column by region [] = refl
carry_region column by region (item ∷ items) = refl
