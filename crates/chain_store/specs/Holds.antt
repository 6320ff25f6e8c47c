-- What a client has seen, made and begun in a region.
use Rattle.std.specs.Prelude.{◌≡◌, ◌≢◌, ℕ, ◌<◌, List, [], length, Option, Some, None, slice_get}
use Rattle.log_node.specs.declared.ids.Counts.{Counts}
use Rattle.log_node.specs.declared.node.At.{At}
use Rattle.log_node.specs.Seen.{BegunAppend}
use Rattle.col_core.specs.declared.Entry.{Entry}
use Rattle.stamp_board.specs.declared.view.View.{View}
use Rattle.stamp_board.specs.Seats.{IsSeatOf, IsClients, seen as seat_seen}
use Rattle.turn_cell.specs.Histories.{made_by}
use Rattle.turn_cell.specs.Cells.{seen}
use Rattle.chain_store.specs.declared.told.Tag.{Tag}
use Rattle.chain_store.specs.declared.told.Told.{Told}
use Rattle.chain_store.specs.declared.hold.Hold.{Hold}
use Rattle.chain_store.specs.declared.region.Region.{Region}
use Rattle.chain_store.specs.Histories.{entries_in, maker}
use Rattle.chain_store.specs.Passes.{ColumnCell, ColumnPass, IsHolder, SeesMore, MakesOne}
use Rattle.chain_store.specs.Moves.{LooksAt, RaisesAt, GivesAt, CarriesAt, WaitsAt, TrimsAt}
use Rattle.chain_store.specs.Owning.{Owns}
use Rattle.chain_store.specs.Rows.{KnowsRow}
use Rattle.chain_store.specs.Desks.{HasDesks}

-- the history that a pass has seen; nothing without a pass
abbrev pub history_seen : Option ColumnPass → List Told
history_seen None = []
history_seen (Some p) = seen p

-- its passes, by colour
abbrev pub passes_of : Hold → List ColumnPass
passes_of h = h.passes.items.items

-- the history of a colour's column as of the last turn that the hold has taken there or was told of
abbrev pub turned_in : Hold → ℕ → List Told
turned_in h colour = history_seen (slice_get (passes_of h) colour)

-- the history of a colour's column that the hold has seen
abbrev pub seen_in : Hold → ℕ → List Told
seen_in h colour = turned_in h colour

-- the entries of it
abbrev pub entries_seen : Hold → ℕ → List Entry
entries_seen h colour = entries_in (seen_in h colour)

-- what the hold made there
abbrev pub made_in : Hold → ℕ → List Told
made_in h colour = made_by maker h.passes.number (turned_in h colour)

-- what it knows of the board
abbrev pub view_of : Hold → View
view_of h = seat_seen h.seat

-- a pass of each column, at rest, of the client n
abbrev pub HasPasses : List ColumnCell → ℕ → List ColumnPass → Type 0
HasPasses cells n ps =
    (length ps ≡ length cells)
    × ((colour : ℕ) (c : ColumnCell) (p : ColumnPass)
    → slice_get cells colour ≡ Some c → slice_get ps colour ≡ Some p → IsHolder c n p)

-- a client's hold of the region, at rest
pub record IsHold (r : Region) (h : Hold) : Type 0 where
  pub passes : HasPasses r.columns.items h.passes.number (passes_of h)
  pub seat : IsSeatOf r.board h.seat
  pub clients : IsClients r.board h.seat
  pub number : h.seat.client ≡ h.passes.number
  pub owns : Owns r.board.size r.number (view_of h) h.passes.number h.seat.used h.next (made_in h)
  pub desks : HasDesks r.shares.items h.desks.items

-- it is the hold of the same client, and knows of the other columns what it knew
pub record SameBut (colour : ℕ) (g h : Hold) : Type 0 where
  pub number : h.passes.number ≡ g.passes.number
  pub others : (c : ℕ) → c ≢ colour → turned_in h c ≡ turned_in g c

-- what the hold has of an append that it helps: it knows the row's node, and has begun the row where it is its own
pub record KnowsAppend (r : Region) (h : Hold) (b : BegunAppend) : Type 0 where
  pub knows : KnowsRow r.board.size r.number (view_of h) b
  pub own : b.row.client ≡ h.passes.number → b.row.number < h.seat.used

-- a call of the hold on the colour's column: what it had seen there before the call, and has seen after it
module _ (colour : ℕ) (g h : Hold) where
  -- it has seen more, and made nothing of it
  abbrev pub SeesMoreIn : Type 0
  SeesMoreIn = SeesMore g.passes.number (seen_in g colour) (seen_in h colour)

  -- it has seen more, and last made this entry, which stands where the answer says
  abbrev pub MakesOneIn : Told → At → Type 0
  MakesOneIn t at = MakesOne g.passes.number t (seen_in g colour) (seen_in h colour) at

  -- it has seen more, and made nothing of it, after so many events as the answer says
  abbrev pub LooksIn : At → Type 0
  LooksIn at = LooksAt g.passes.number (seen_in g colour) (seen_in h colour) at

  -- it has raised the clock, by an event exactly where it was smaller
  abbrev pub RaisesIn : ℕ → At → Type 0
  RaisesIn to at = RaisesAt g.passes.number to (seen_in g colour) (seen_in h colour) at

  -- it has given the own line, which is so long, to a region, which has then asked past the number
  abbrev pub GivesIn : ℕ → ℕ → At → ℕ → Type 0
  GivesIn region from at lined =
      GivesAt g.passes.number region from (seen_in g colour) (seen_in h colour) at lined

  -- it has carried what was received, so many nodes, by an event exactly where there is something
  abbrev pub CarriesIn : Tag → ℕ → ℕ → At → ℕ → Type 0
  CarriesIn t region least at nodes =
      CarriesAt t g.passes.number region least (seen_in g colour) (seen_in h colour) at nodes

  -- it has carried nothing, since fewer than the least are there
  abbrev pub WaitsIn : Tag → ℕ → ℕ → Type 0
  WaitsIn t region least = WaitsAt t g.passes.number region least (seen_in g colour) (seen_in h colour)

  -- it has trimmed nodes, and the answer is the base afterwards
  abbrev pub TrimsIn : Tag → Counts → At → Counts → Type 0
  TrimsIn t counts at answer = TrimsAt t g.passes.number counts (seen_in g colour) (seen_in h colour) at answer
