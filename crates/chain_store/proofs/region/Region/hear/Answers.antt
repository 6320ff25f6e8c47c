use Rattle.std.proofs.Common.{List, refl, subst, sym}
use Rattle.chain_store.specs.declared.hold.Hold.{Hold}
use Rattle.chain_store.specs.Passes.{ColumnCell}
use Rattle.chain_store.specs.Holds.{HasPasses}
use Rattle.chain_store.specs.Telling.{AreTold}
use Rattle.chain_store.proofs.Notes.{hold_stays, made_heard}
use Rattle.chain_store.proofs.region.Region.hear.Goals as goal

pub meet_all-requires-clause-passes : goal.meet_all-requires-clause-passes
meet_all-requires-clause-passes c =
    let p = c.args.hold.now.passes in
    subst (λ (cells : List ColumnCell). HasPasses cells p.number p.items.items) (sym c.deref.ensures.value)
    c.requires.hold.passes

pub meet_all-requires-clause-told : goal.meet_all-requires-clause-told
meet_all-requires-clause-told c =
    subst (λ (cells : List ColumnCell). AreTold cells c.args.note.passes.items) (sym c.deref.ensures.value)
    c.requires.note.passes

pub returns-clause-hold : goal.returns-clause-hold
returns-clause-hold c =
    let h = c.args.hold.now in
    let g : Hold = record { passes = c.meet_all.new.passes; seat = c.hear.new.seat; next = h.next; desks = h.desks } in
    let o = c.meet_all.ensures in
    hold_stays c.args.self.now h g c.requires.hold o.number
    (subst (λ (cells : List ColumnCell). HasPasses cells h.passes.number g.passes.items.items) c.deref.ensures.value
    o.passes)
    (made_heard h g c.args.note.passes.items o.number o.heard) refl refl c.hear.ensures.seat

pub returns-clause-hears : goal.returns-clause-hears
returns-clause-hears c =
    let h = c.args.hold.now in
    let g : Hold = record { passes = c.meet_all.new.passes; seat = c.hear.new.seat; next = h.next; desks = h.desks } in
    let o = c.meet_all.ensures in
    record {
      number = o.number;
      seen = λ k. (o.heard k).longer;
      made = made_heard h g c.args.note.passes.items o.number o.heard;
      seat = c.hear.ensures.seat;
      learns = c.hear.ensures.learns;
      next = refl;
    }
