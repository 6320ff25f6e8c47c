use Rattle.std.proofs.Common.{refl, ap, sym, subst, ◌+◌}
use Rattle.log_node.specs.declared.node.Node.{Node}
use Rattle.stamp_board.specs.declared.seats.Seat.{Seat}
use Rattle.chain_store.specs.Holds.{IsHold}
use Rattle.chain_store.proofs.Beginning.{next_node, hold_began, begins}
use Rattle.chain_store.proofs.region.Region.begin.Goals as goal

pub begin-requires-clause-next : goal.begin-requires-clause-next
begin-requires-clause-next c lt =
    next_node c.args.self.now c.args.hold.now c.args.node.now.value c.requires.hold c.requires.id.0 c.requires.id.1

pub returns-in_err-row-clause-hold : goal.returns-in_err-row-clause-hold
returns-in_err-row-clause-hold c =
    let h = c.args.hold.now in
    subst (λ (s : Seat). IsHold c.args.self.now (record {
      passes = h.passes;
      seat = s;
      next = h.next;
      desks = h.desks;
    }))
    (sym c.in_err-row.ensures.begun) c.requires.hold

pub returns-clause-hold : goal.returns-clause-hold
returns-clause-hold c =
    let h = c.args.hold.now in
    let e = c.in_ok-row.ensures in
    hold_began c.args.self.now h
    (record { passes = h.passes; seat = c.begin.new.seat; next = c.deref.result.now.id.count + 1; desks = h.desks })
    c.args.node.now.value
    c.in_ok-row.row c.requires.hold refl refl (ap (λ (z : Node). z.id.count + 1) c.deref.ensures) e.row e.begun
    c.requires.id.0
    c.requires.id.1 c.requires.count c.requires.row c.requires.region c.requires.colours c.requires.floor

pub returns-clause-begun : goal.returns-clause-begun
returns-clause-begun c =
    let h = c.args.hold.now in
    let e = c.in_ok-row.ensures in
    begins c.args.self.now h
    (record { passes = h.passes; seat = c.begin.new.seat; next = c.deref.result.now.id.count + 1; desks = h.desks })
    c.args.node.now.value
    c.in_ok-row.row c.requires.hold refl refl (ap (λ (z : Node). z.id.count + 1) c.deref.ensures) e.row e.begun
    c.requires.id.0
    c.requires.id.1 c.requires.count c.requires.row c.requires.region c.requires.colours c.requires.floor
