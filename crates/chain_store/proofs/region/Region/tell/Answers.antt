use Rattle.std.proofs.Common.{List, refl, ap, subst, sym}
use Rattle.stamp_board.specs.declared.view.View.{View}
use Rattle.chain_store.specs.declared.hold.Hold.{Hold}
use Rattle.chain_store.specs.Passes.{ColumnCell}
use Rattle.chain_store.specs.Holds.{HasPasses}
use Rattle.chain_store.specs.Telling.{AreTold}
use Rattle.chain_store.proofs.Holding.{same_seat}
use Rattle.chain_store.proofs.Notes.{hold_stays, made_alike}
use Rattle.chain_store.proofs.region.Region.tell.Goals as goal

pub split_all-requires : goal.split_all-requires
split_all-requires c =
    let p = c.args.hold.now.passes in
    subst (λ (cells : List ColumnCell). HasPasses cells p.number p.items.items) (sym c.deref.ensures.value)
    c.requires.passes

pub returns-in_err-passes-clause-hold : goal.returns-in_err-passes-clause-hold
returns-in_err-passes-clause-hold c =
    let h = c.args.hold.now in
    let g : Hold = record { passes = c.split_all.new.passes; seat = h.seat; next = h.next; desks = h.desks } in
    let o = c.split_all.ensures in
    hold_stays c.args.self.now h g c.requires o.number
    (subst (λ (cells : List ColumnCell). HasPasses cells h.passes.number g.passes.items.items) c.deref.ensures.value
    o.passes)
    (made_alike h g o.number o.same) refl refl (same_seat h.seat)

pub returns-clause-hold : goal.returns-clause-hold
returns-clause-hold c =
    let h = c.args.hold.now in
    let g : Hold = record {
      passes = c.split_all.new.passes;
      seat = c.tell-seat.new.seat;
      next = h.next;
      desks =
          h.desks;
    } in
    let o = c.split_all.ensures in
    hold_stays c.args.self.now h g c.requires o.number
    (subst (λ (cells : List ColumnCell). HasPasses cells h.passes.number g.passes.items.items) c.deref.ensures.value
    o.passes)
    (made_alike h g o.number o.same) refl refl c.tell-seat.ensures.seat.0

pub returns-clause-note : goal.returns-clause-note
returns-clause-note c =
    let told = c.in_ok-passes.ensures.told in
    let note = c.tell-seat.ensures.note in (
      record {
        passes = subst (λ (cells : List ColumnCell). AreTold cells c.in_ok-passes.passes.items) c.deref.ensures.value told.0;
        seat = note.0;
      },
      record {
        seen = told.1;
        known = ap (λ (v : View). v.known) note.1;
        begun = ap (λ (v : View). v.begun) note.1;
      },
    )
