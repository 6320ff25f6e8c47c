-- What clients of a region tell one another.
use Rattle.std.specs.Prelude.{◌≡◌, ℕ, List, length, Some, slice_get}
use Rattle.stamp_board.specs.declared.view.View.{View}
use Rattle.stamp_board.specs.Views.{Learns}
use Rattle.stamp_board.specs.Seats.{IsSeatOf, IsLater, seen as seat_seen}
use Rattle.turn_cell.specs.Histories.{IsLonger, made_by}
use Rattle.turn_cell.specs.Cells.{seen, IsReady}
use Rattle.chain_store.specs.declared.told.Told.{Told}
use Rattle.chain_store.specs.declared.hold.Hold.{Hold}
use Rattle.chain_store.specs.declared.region.Region.{Region}
use Rattle.chain_store.specs.declared.telling.HoldNote.{HoldNote}
use Rattle.chain_store.specs.Histories.{maker, HasIds}
use Rattle.chain_store.specs.Columns.{tag_of}
use Rattle.chain_store.specs.Passes.{ColumnCell, ColumnPass, IsLawfulTold, tag_in}
use Rattle.chain_store.specs.Holds.{history_seen, seen_in, made_in, view_of}

-- the history of a colour's column that the note tells of
abbrev pub told_in : HoldNote → ℕ → List Told
told_in note colour = history_seen (slice_get note.passes.items colour)

-- what it tells of the board
abbrev pub view_told : HoldNote → View
view_told note = seat_seen note.seat

-- a pass of the cell, at rest, that has seen a lawful history, with ids that there may be
pub record IsTold (c : ColumnCell) (p : ColumnPass) : Type 0 where
  pub ready : IsReady tag_of c p
  pub lawful : IsLawfulTold (tag_in c) (seen p)
  pub ids : HasIds (seen p)

-- such a pass of each column, by colour
abbrev pub AreTold : List ColumnCell → List ColumnPass → Type 0
AreTold cells ps =
    (length ps ≡ length cells)
    × ((colour : ℕ) (c : ColumnCell) (p : ColumnPass)
    → slice_get cells colour ≡ Some c → slice_get ps colour ≡ Some p → IsTold c p)

-- the note is one of the region
pub record IsHoldNote (r : Region) (note : HoldNote) : Type 0 where
  pub passes : AreTold r.columns.items note.passes.items
  pub seat : IsSeatOf r.board note.seat

-- the passes have seen the same, by colour
abbrev pub SeenAlike : List ColumnPass → List ColumnPass → Type 0
SeenAlike ps qs = (colour : ℕ) → history_seen (slice_get qs colour) ≡ history_seen (slice_get ps colour)

-- the hold has seen, made and begun what it had, and knows what it knew
pub record KnowsSame (g h : Hold) : Type 0 where
  pub number : h.passes.number ≡ g.passes.number
  pub seen : (colour : ℕ) → seen_in h colour ≡ seen_in g colour
  pub seat : IsLater g.seat h.seat
  pub view : view_of h ≡ view_of g
  pub next : h.next ≡ g.next

-- the note tells all that the hold has seen and knows
pub record Tells (h : Hold) (note : HoldNote) : Type 0 where
  pub seen : (colour : ℕ) → told_in note colour ≡ seen_in h colour
  pub known : (view_told note).known ≡ (view_of h).known
  pub begun : (view_told note).begun ≡ (view_of h).begun

-- the client n has seen the longer of two histories, and has made nothing of it
pub record Heard (n : ℕ) (old told new : List Told) : Type 0 where
  pub longer : IsLonger old told new
  pub none : made_by maker n new ≡ made_by maker n old

-- the same of each colour
abbrev pub HeardAll : ℕ → List ColumnPass → List ColumnPass → List ColumnPass → Type 0
HeardAll n ps ts qs =
    (colour : ℕ)
    → Heard n (history_seen (slice_get ps colour)) (history_seen (slice_get ts colour)) (history_seen (slice_get qs colour))

-- The hold has seen of each column the longer of what it had and what the note tells, knows what both knew, and has made
-- and begun nothing.
pub record Hears (g : Hold) (note : HoldNote) (h : Hold) : Type 0 where
  pub number : h.passes.number ≡ g.passes.number
  pub seen : (colour : ℕ) → IsLonger (seen_in g colour) (told_in note colour) (seen_in h colour)
  pub made : (colour : ℕ) → made_in h colour ≡ made_in g colour
  pub seat : IsLater g.seat h.seat
  pub learns : Learns (view_told note) (view_of h)
  pub next : h.next ≡ g.next
