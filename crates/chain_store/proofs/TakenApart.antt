-- What a region ends with, from the lists into which it was taken apart.
use Rattle.std.proofs.Common.{◌≡◌, ℕ, List, length, map, Some, slice_get, ap, subst, ◌∙◌, arith}
use Rattle.std.proofs.lemmas.Option.{slice_get_within}
use Rattle.column.specs.Columns.{ColumnState}
use Rattle.ring_ends.specs.declared.rings.Rings.{Rings}
use Rattle.stamp_board.specs.declared.view.Size.{Size}
use Rattle.stamp_board.specs.declared.view.View.{View}
use Rattle.stamp_board.specs.declared.seats.Seat.{Seat}
use Rattle.stamp_board.specs.declared.seats.ColumnSeat.{ColumnSeat}
use Rattle.stamp_board.specs.declared.rows.ClosedRow.{ClosedRow}
use Rattle.stamp_board.specs.Rows.{IsSize}
use Rattle.stamp_board.specs.Seats.{IsColumnOf}
use Rattle.stamp_board.specs.Closing.{Closes, all_begun, closed_row}
use Rattle.chain_store.specs.declared.told.Tag.{Tag}
use Rattle.chain_store.specs.declared.hold.Hold.{Hold}
use Rattle.chain_store.specs.declared.hold.ColumnPasses.{ColumnPasses}
use Rattle.chain_store.specs.declared.seated.Seated.{Seated}
use Rattle.chain_store.specs.declared.region.Region.{Region}
use Rattle.chain_store.specs.declared.closed.ClosedRegion.{ClosedRegion}
use Rattle.chain_store.specs.Closings.{AreOfColour, AreClosed}
use Rattle.chain_store.specs.Closing.{AreHoldsOf, Closed}
use Rattle.chain_store.proofs.Tagged.{tagged_at}
use Rattle.chain_store.proofs.Places.{got, choose}
use Rattle.chain_store.proofs.Ending.{HoldOf, ColumnEnd, region_closes}

-- the seat of a closed column is its colour's
pub closed_seat : (r : Region) (clients : List ColumnPasses) (closed : List Seated)
    → length closed ≡ length r.columns.items
    → AreClosed r.columns.items clients closed
    → (c : ℕ) (s : Seated) → slice_get closed c ≡ Some s → IsColumnOf r.board s.seat × (s.seat.colour ≡ c)
closed_seat r clients closed many shut c s at =
    let near = slice_get_within closed c s at in
    let cell = got r.columns.items c (omega (arith, near, many)) in
    let e = (shut c cell.0 s cell.1 at).ends.tagged ∙ tagged_at r c cell.0 cell.1 in
    ((ap (λ (t : Tag). t.board) e, ap (λ (t : Tag). t.size) e), s.same ∙ ap (λ (t : Tag). t.colour) e)

-- what the board says of its end
abbrev pub CloseOf : Size → List Seat → List ColumnSeat → List ClosedRow → Type 0
CloseOf k seats columns rows =
    (ws : List ℕ) × (v : View) × Closes k ws v seats columns × (rows ≡ map (closed_row k ws) (all_begun seats))

-- the end of a region, from the lists into which it was taken apart
pub ends_region : (r : Region) (hs : List Hold) (clients : List ColumnPasses) (seats : List Seat) (closed : List Seated)
    (columns : List ColumnState) (rings : List Rings) (column_seats : List ColumnSeat) (rows : List ClosedRow)
    (closes : ClosedRegion)
    → length r.columns.items ≡ r.board.size.colours
    → IsSize r.board.size
    → AreHoldsOf r hs
    → clients ≡ map (λ (h : Hold). h.passes) hs
    → seats ≡ map (λ (h : Hold). h.seat) hs
    → columns ≡ map (λ (s : Seated). s.column) closed
    → rings ≡ map (λ (s : Seated). s.rings) closed
    → column_seats ≡ map (λ (s : Seated). s.seat) closed
    → length closed ≡ length r.columns.items
    → AreClosed r.columns.items clients closed
    → CloseOf r.board.size seats column_seats rows
    → closes.columns ≡ columns → closes.ends.items ≡ rings → closes.rows ≡ rows
    → Closed r hs closes
ends_region r hs clients seats closed columns rings column_seats rows closes cells size holds cs ss ds ns ts many shut z
    ec en er =
    let holder = choose (λ (n : ℕ) (x : HoldOf r). (slice_get hs n ≡ Some x.hold) × (x.hold.passes.number ≡ n))
    r.board.size.clients size.some_clients
    (λ n lt. let count = holds.0 in let t = got hs n (omega (arith, lt, count)) in let h = holds.1 n t.0 t.1 in
    (record { hold = t.0; good = h.0 }, (t.1, h.1))) in
    let end = choose (λ (c : ℕ) (x : ColumnEnd). (slice_get r.columns.items c ≡ Some x.cell)
    × (slice_get closed c ≡ Some x.seated) × AreOfColour (map (λ (h : Hold). h.passes) hs) c x.passes)
    r.board.size.colours size.some_colours
    (λ c lt. let cell = got r.columns.items c (omega (arith, lt, cells)) in
    let s = got closed c (omega (arith, lt, cells, many)) in
    let e = shut c cell.0 s.0 cell.1 s.1 in (
      record { cell = cell.0; seated = s.0; passes = e.passes; ends = e.ends },
      (
        cell.1,
        s.1,
        subst (λ (l : List ColumnPasses). AreOfColour l c e.passes) cs e.of_colour,
      ),
    )) in
    let closing : Closes r.board.size z.0 z.1 (map (λ (h : Hold). h.seat) hs) (map (λ (s : Seated). s.seat) closed) =
    subst (λ (l : List Seat × List ColumnSeat). Closes r.board.size z.0 z.1 l.0 l.1) (λ i. (ss i, ts i)) z.2 in
    region_closes r hs closed z.0 z.1 holds.0 size.few_colours closing holder.0 holder.1 end.0 end.1 closes
    (many ∙ cells) (ec ∙ ds) (en ∙ ns) (er ∙ z.3 ∙ ap (λ l. map (closed_row r.board.size z.0) (all_begun l)) ss)
