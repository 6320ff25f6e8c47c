-- What holds of what the clients have while the columns are opened, the last one first.
use Rattle.std.specs.Prelude.{◌≡◌, ℕ, ◌+◌, ◌<◌, ◌≤◌, List, [], ◌∷◌, length, None, Some, slice_get}
use Rattle.stamp_board.specs.declared.seats.Seat.{Seat}
use Rattle.turn_cell.specs.Cells.{Pass, seen}
use Rattle.chain_store.specs.declared.read_view.name.ColumnName.{ColumnName}
use Rattle.chain_store.specs.declared.read_view.copies.Copies.{Copies}
use Rattle.chain_store.specs.declared.read_view.desk.Share.{Share}
use Rattle.chain_store.specs.declared.hold.Hold.{Hold}
use Rattle.chain_store.specs.declared.opening.Client.{Client}
use Rattle.chain_store.specs.Passes.{ColumnCell, ColumnPass, IsHolder}
use Rattle.chain_store.specs.Desks.{HasDesks, IsDesk}
use Rattle.chain_store.specs.Holds.{HasPasses}

-- a pass of the turns of a column's copies
abbrev pub CopiesPass : Type 0
CopiesPass = Pass Copies (Unit {0}) ColumnName

-- the clients, by number, have nothing
abbrev pub AreEmpty : List Client → Type 0
AreEmpty clients =
    (n : ℕ) (c : Client) → slice_get clients n ≡ Some c
    → (c.passes.number ≡ n) × (c.passes.items.items ≡ []) × (c.desks.items ≡ [])

-- d is c with this pass, and a desk with this pass of the copies, in front
pub record Got (c d : Client) (p : ColumnPass) (q : CopiesPass) : Type 0 where
  pub number : d.passes.number ≡ c.passes.number
  pub passes : d.passes.items.items ≡ p ∷ c.passes.items.items
  pub desks : d.desks.items ≡ record { pass = q; reader = None } ∷ c.desks.items

-- the clients from the number i on got the passes of their number
pub record Dealt (old new : List Client) (ps : List ColumnPass) (qs : List CopiesPass) (i : ℕ) : Type 0 where
  pub same : length new ≡ length old
  pub got : (n : ℕ) (d : Client) → i ≤ n → slice_get new n ≡ Some d
      → (c : Client) × (p : ColumnPass) × (q : CopiesPass)
      × (slice_get old n ≡ Some c) × (slice_get ps n ≡ Some p) × (slice_get qs n ≡ Some q) × Got c d p q
  pub early : (n : ℕ) → n < i → slice_get new n ≡ slice_get old n

-- d is c with a pass of this column in front that has seen nothing, of the client n, and a desk at its copies
pub record GotNew (cell : ColumnCell) (share : Share) (n : ℕ) (c d : Client) : Type 0 where
  pub pass : ColumnPass
  pub copies : CopiesPass
  pub got : Got c d pass copies
  pub holder : IsHolder cell n pass
  pub none : seen pass ≡ []
  pub desk : IsDesk share (record { pass = copies; reader = None })

-- so did each of the clients, by number
pub record AllGotNew (cell : ColumnCell) (share : Share) (old new : List Client) : Type 0 where
  pub same : length new ≡ length old
  pub each : (n : ℕ) (d : Client) → slice_get new n ≡ Some d
      → (c : Client) × (slice_get old n ≡ Some c) × GotNew cell share n c d

-- passes of each of the cells, of the client n, that have seen nothing
abbrev pub HasNew : List ColumnCell → ℕ → List ColumnPass → Type 0
HasNew cells n ps = HasPasses cells n ps × ((k : ℕ) (p : ColumnPass) → slice_get ps k ≡ Some p → seen p ≡ [])

-- the clients, by number, have such passes, and desks at the copies
abbrev pub HaveAll : List ColumnCell → List Share → List Client → Type 0
HaveAll cells shares clients =
    (n : ℕ) (c : Client) → slice_get clients n ≡ Some c
    → (c.passes.number ≡ n) × HasNew cells n c.passes.items.items × HasDesks shares c.desks.items

-- what a client has, of which its hold is made
abbrev pub client_of : Hold → Client
client_of h = record { passes = h.passes; desks = h.desks }

-- the holds are those of the clients from the number i on, and have given out no count
abbrev pub Zipped : List Client → List Seat → ℕ → List Hold → Type 0
Zipped cs ss i hs =
    (n : ℕ) (h : Hold) → slice_get hs n ≡ Some h
    → (slice_get cs (i + n) ≡ Some (client_of h)) × (slice_get ss (i + n) ≡ Some h.seat) × (h.next ≡ 0)
