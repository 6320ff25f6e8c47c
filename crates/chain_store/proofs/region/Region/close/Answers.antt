use Rattle.std.proofs.Common.{Vec, Global, ◌≡◌, ◌<◌, List, length, map, set, get_or, refl, ap, sym, subst, ◌∙◌, slice_get, arith}
use Rattle.std.proofs.lemmas.Option.{slice_get_read}
use Rattle.stamp_board.specs.declared.seats.Seat.{Seat}
use Rattle.stamp_board.specs.declared.seats.ColumnSeat.{ColumnSeat}
use Rattle.stamp_board.specs.Seats.{IsSeatOf, IsClients, IsColumnOf}
use Rattle.chain_store.specs.declared.hold.Hold.{Hold}
use Rattle.chain_store.specs.declared.hold.ColumnPasses.{ColumnPasses}
use Rattle.chain_store.specs.declared.seated.Seated.{Seated}
use Rattle.chain_store.specs.declared.read_view.desk.Desk.{Desk}
use Rattle.chain_store.specs.Holds.{HasPasses}
use Rattle.chain_store.proofs.RingsChecked.{alike_set}
use Rattle.chain_store.proofs.TakenApart.{CloseOf, closed_seat, ends_region}
use Rattle.chain_store.proofs.Places.{image_at}
use Rattle.chain_store.proofs.region.Region.close.Goals as goal

-- the first hold, whose desks are others now
module _ (hs given : List Hold) (is : hs ≡ given) (h : Hold) (first : h ≡ get_or hs 0 h) (desks : Vec Desk Global) where
  abbrev left : List Hold
  left = set hs 0 (record { passes = h.passes; seat = h.seat; next = h.next; desks = desks })

  same_passes : map (λ (x : Hold). x.passes) left ≡ map (λ (x : Hold). x.passes) given
  same_passes =
      alike_set (λ (x : Hold). x.passes) hs hs 0 (record { passes = h.passes; seat = h.seat; next = h.next; desks = desks }) h
      refl first refl ∙ ap (map (λ (x : Hold). x.passes)) is

  same_seats : map (λ (x : Hold). x.seat) left ≡ map (λ (x : Hold). x.seat) given
  same_seats =
      alike_set (λ (x : Hold). x.seat) hs hs 0 (record { passes = h.passes; seat = h.seat; next = h.next; desks = desks }) h
      refl first refl ∙ ap (map (λ (x : Hold). x.seat)) is

pub close_shares-requires : goal.close_shares-requires
close_shares-requires g c =
    let hs = c.into_vec-holds.result.items in
    let is = c.into_vec-holds.ensures in
    let long = ap length is in
    let many = c.requires.holds.0 in
    let some = c.args.self.board.is_size.some_clients in
    let near : 0 < length hs = omega (arith, long, many, some) in
    (c.requires.holds.1 0 c.index_mut.result.now
    (ap (λ l. slice_get l 0) (sym is)
    ∙ slice_get_read hs (length hs) 0 c.index_mut.result.now refl near c.index_mut.ensures.value)).0.desks

pub close_columns-requires-clause-passes : goal.close_columns-requires-clause-passes
close_columns-requires-clause-passes g c = λ n clients at.
    let kept = same_passes c.into_vec-holds.result.items c.args.holds c.into_vec-holds.ensures c.index_mut.result.now
    c.index_mut.ensures.value c.close_shares.new.desks in
    let t = image_at (λ (h : Hold). h.passes) c.args.holds n clients
    (ap (λ l. slice_get l n) (sym kept ∙ sym c.in_ok-clients.ensures.0) ∙ at) in
    let h = c.requires.holds.1 n t.0 t.1 in
    subst (λ (p : ColumnPasses). HasPasses c.args.self.columns.items n p.items.items) t.2
    (subst (λ k. HasPasses c.args.self.columns.items k t.0.passes.items.items) h.1 h.0.passes)

pub close-requires-clause-seats : goal.close-requires-clause-seats
close-requires-clause-seats g c = λ n s at.
    let kept = same_seats c.into_vec-holds.result.items c.args.holds c.into_vec-holds.ensures c.index_mut.result.now
    c.index_mut.ensures.value c.close_shares.new.desks in
    let t = image_at (λ (h : Hold). h.seat) c.args.holds n s
    (ap (λ l. slice_get l n) (sym kept ∙ sym c.in_ok-clients.ensures.1 ∙ sym c.into.ensures) ∙ at) in
    let h = c.requires.holds.1 n t.0 t.1 in
    subst (λ (z : Seat). IsSeatOf c.args.self.board z × IsClients c.args.self.board z × (z.client ≡ n)) t.2
    (h.0.seat, h.0.clients, h.0.number ∙ h.1)

pub close-requires-clause-columns : goal.close-requires-clause-columns
close-requires-clause-columns g c = λ n s at.
    let t = image_at (λ (z : Seated). z.seat) c.in_ok-closed.closed.items n s
    (ap (λ l. slice_get l n) (sym c.in_ok-columns.ensures.2 ∙ sym c.into-2.ensures) ∙ at) in
    subst (λ (z : ColumnSeat). IsColumnOf c.args.self.board z × (z.colour ≡ n)) t.2
    (closed_seat c.args.self c.in_ok-clients.clients.items c.in_ok-closed.closed.items
    c.in_ok-closed.ensures.count c.in_ok-closed.ensures.closed n t.0 t.1)

pub returns : goal.returns
returns g c =
    let hs = c.into_vec-holds.result.items in
    let is = c.into_vec-holds.ensures in
    let h = c.index_mut.result.now in
    let first = c.index_mut.ensures.value in
    ends_region c.args.self c.args.holds c.in_ok-clients.clients.items c.in_ok-clients.seats.items
    c.in_ok-closed.closed.items c.in_ok-columns.columns.items c.in_ok-columns.ends.items
    c.in_ok-columns.column_seats.items c.in_ok-rows.rows
    (record { columns = c.into-3.result; rows = c.in_ok-rows.rows; ends = c.in_ok-columns.ends }) c.args.self.count
    c.args.self.board.is_size c.requires.holds
    (c.in_ok-clients.ensures.0 ∙ same_passes hs c.args.holds is h first c.close_shares.new.desks)
    (c.in_ok-clients.ensures.1 ∙ same_seats hs c.args.holds is h first c.close_shares.new.desks)
    c.in_ok-columns.ensures.0 c.in_ok-columns.ensures.1 c.in_ok-columns.ensures.2
    c.in_ok-closed.ensures.count c.in_ok-closed.ensures.closed
    (subst (λ (l : List Seat × List ColumnSeat). CloseOf c.args.self.board.size l.0 l.1 c.in_ok-rows.rows) (λ i. (c.into.ensures i, c.into-2.ensures i))
    c.in_ok-rows.ensures)
    c.into-3.ensures refl refl
