use Rattle.std.proofs.Common.{◌∙◌, ap, sym, subst, List, length, slice_get, arith}
use Rattle.std.proofs.lemmas.Option.{slice_get_within}
use Rattle.stamp_board.specs.declared.view.Size.{Size}
use Rattle.stamp_board.specs.declared.seats.Seat.{Seat}
use Rattle.stamp_board.specs.Seats.{AreFreshClients}
use Rattle.chain_store.specs.Regions.{rings_in}
use Rattle.chain_store.proofs.Dealing.{new_holds}
use Rattle.chain_store.proofs.Places.{got}
use Rattle.chain_store.proofs.region.Region.open.Goals as goal

pub returns-clause-holds : goal.returns-clause-holds
returns-clause-holds c =
    let b = c.in_ok-board.ensures.seats in
    let e = c.into_vec-3.ensures in
    new_holds _ _ c.into_vec-3.result.items c.in_ok-holds.holds.items c.into.result c.into.ensures
    (c.in_ok-holds.ensures.0 ∙ ap (λ (ss : List Seat). length ss) e ∙ b.0
    ∙ sym (ap (λ (z : Size). z.clients) c.in_ok-board.ensures.size))
    (subst (AreFreshClients c.in_ok-board.board) (sym e) b.1) c.in_ok-columns.ensures.clients.1 c.in_ok-holds.ensures.1

pub returns-clause-rings : goal.returns-clause-rings
returns-clause-rings c k x at =
    let e = c.into_vec-2.ensures in
    let here = ap (λ l. slice_get l k) e ∙ at in
    let near = slice_get_within c.into_vec-2.result.items k x here in
    let ends = ap length e in
    let given = c.requires.ends.0 in
    let seats = ap length c.into_vec.ensures in
    let many = c.in_ok-board.ensures.columns.0 in
    let cells = c.in_ok-columns.ensures.cells.0 in
    let cell = got c.in_ok-columns.columns.items k (omega (arith, near, ends, given, seats, many, cells)) in
    ap rings_in cell.1 ∙ c.in_ok-columns.ensures.rings k x cell.0 here cell.1
