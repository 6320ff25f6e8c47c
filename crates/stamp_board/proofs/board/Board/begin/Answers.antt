use Rattle.std.proofs.Common.{◌≡◌, ◌+◌, ◌<◌, ◌≤◌, sym, refl, ap, subst, arith}
use Rattle.log_node.specs.declared.node.Node.{Node}
use Rattle.stamp_board.specs.declared.view.Size.{Size}
use Rattle.stamp_board.specs.Rows.{AreColours}
use Rattle.stamp_board.specs.Views.{KnowsBegun}
use Rattle.stamp_board.specs.Law.{IsNewTo}
use Rattle.stamp_board.specs.Seats.{next_row_of}
use Rattle.stamp_board.proofs.CallerLemmas.{rows_below_more}
use Rattle.stamp_board.proofs.Marking.{next_begun, new_to}
use Rattle.stamp_board.proofs.board.Board.begin.Goals as goal

pub set_row-requires-clause-node : goal.set_row-requires-clause-node
set_row-requires-clause-node c = subst (λ (z : Node). AreColours c.args.self.now.size z.colours)
    (sym c.deref-node.ensures) c.requires.node

pub invariant_of-seat-clause-few : goal.invariant_of-seat-clause-few
invariant_of-seat-clause-few c = let b = c.args.self.now in let s = c.args.seat.now in let t = c.set_row in
    let e : s.inner.me.0.size.rows ≡ b.size.rows = ap (λ (z : Size). z.rows) c.requires.seat.0.1 in
    let few : s.used ≤ s.inner.me.0.size.rows = s.few in
    let apart = c.if-seat-self.false in
    let room : s.used < b.size.rows = omega (arith, apart) in
    let high = (let h = c.requires.seat.1.2 in let l = c.requires.seat.1.1 in
    let i : s.inner.me.0.high ≡ s.inner.me.0.low + 1 = omega arith in i) in
    let next = next_begun b.size s.inner.me.0 t.new.seat.me.0 s.client s.used t.result c.deref-node.result.now
    c.requires.seat.0.1 room c.requires.seat.1.1 high s.begun s.all
    t.ensures.told (subst (λ (z : Node). AreColours b.size z.colours) (sym c.deref-node.ensures) c.requires.node)
    t.ensures.view in
    next.few

pub invariant_of-seat-clause-begun : goal.invariant_of-seat-clause-begun
invariant_of-seat-clause-begun c = let b = c.args.self.now in let s = c.args.seat.now in let t = c.set_row in
    let e : s.inner.me.0.size.rows ≡ b.size.rows = ap (λ (z : Size). z.rows) c.requires.seat.0.1 in
    let few : s.used ≤ s.inner.me.0.size.rows = s.few in
    let apart = c.if-seat-self.false in
    let room : s.used < b.size.rows = omega (arith, apart) in
    let high = (let h = c.requires.seat.1.2 in let l = c.requires.seat.1.1 in
    let i : s.inner.me.0.high ≡ s.inner.me.0.low + 1 = omega arith in i) in
    let next = next_begun b.size s.inner.me.0 t.new.seat.me.0 s.client s.used t.result c.deref-node.result.now
    c.requires.seat.0.1 room c.requires.seat.1.1 high s.begun s.all
    t.ensures.told (subst (λ (z : Node). AreColours b.size z.colours) (sym c.deref-node.ensures) c.requires.node)
    t.ensures.view in
    next.rows

pub invariant_of-seat-clause-all : goal.invariant_of-seat-clause-all
invariant_of-seat-clause-all c = let b = c.args.self.now in let s = c.args.seat.now in let t = c.set_row in
    let e : s.inner.me.0.size.rows ≡ b.size.rows = ap (λ (z : Size). z.rows) c.requires.seat.0.1 in
    let few : s.used ≤ s.inner.me.0.size.rows = s.few in
    let apart = c.if-seat-self.false in
    let room : s.used < b.size.rows = omega (arith, apart) in
    let high = (let h = c.requires.seat.1.2 in let l = c.requires.seat.1.1 in
    let i : s.inner.me.0.high ≡ s.inner.me.0.low + 1 = omega arith in i) in
    let next = next_begun b.size s.inner.me.0 t.new.seat.me.0 s.client s.used t.result c.deref-node.result.now
    c.requires.seat.0.1 room c.requires.seat.1.1 high s.begun s.all
    t.ensures.told (subst (λ (z : Node). AreColours b.size z.colours) (sym c.deref-node.ensures) c.requires.node)
    t.ensures.view in
    next.all

pub returns-clause-begun : goal.returns-clause-begun
returns-clause-begun c = let b = c.args.self.now in let s = c.args.seat.now in let t = c.set_row in
    let e : s.inner.me.0.size.rows ≡ b.size.rows = ap (λ (z : Size). z.rows) c.requires.seat.0.1 in
    let few : s.used ≤ s.inner.me.0.size.rows = s.few in
    let apart = c.if-seat-self.false in
    let room : s.used < b.size.rows = omega (arith, apart) in
    let high = (let h = c.requires.seat.1.2 in let l = c.requires.seat.1.1 in
    let i : s.inner.me.0.high ≡ s.inner.me.0.low + 1 = omega arith in i) in
    let next = next_begun b.size s.inner.me.0 t.new.seat.me.0 s.client s.used t.result c.deref-node.result.now
    c.requires.seat.0.1 room c.requires.seat.1.1 high s.begun s.all
    t.ensures.told (subst (λ (z : Node). AreColours b.size z.colours) (sym c.deref-node.ensures) c.requires.node)
    t.ensures.view in
    record {
      board = t.ensures.seat.0;
      client = refl;
      used = refl;
      grows = next.grows;
      knows = subst (KnowsBegun t.new.seat.me.0 record { client = s.client; number = s.used }) c.deref-node.ensures
          next.knows;
    }

pub set_row-requires-clause-new : goal.set_row-requires-clause-new
set_row-requires-clause-new c = let b = c.args.self.now in let s = c.args.seat.now in
    let e : s.inner.me.0.size.rows ≡ b.size.rows = ap (λ (z : Size). z.rows) c.requires.seat.0.1 in
    let few : s.used ≤ s.inner.me.0.size.rows = s.few in
    let apart = c.if-seat-self.false in
    let next = c.requires.next (omega (arith, apart)) in
    subst (λ (z : Node). IsNewTo s.inner.me.0 s.client z.id) (sym c.deref-node.ensures)
    (new_to s.inner.me.0 s.client s.used c.args.node.now.value.id s.begun next.1)

pub returns-clause-counts : goal.returns-clause-counts
returns-clause-counts c =
    let b = c.args.self.now in let s = c.args.seat.now in
    let e : s.inner.me.0.size.rows ≡ b.size.rows = ap (λ (z : Size). z.rows) c.requires.seat.0.1 in
    let few : s.used ≤ s.inner.me.0.size.rows = s.few in
    let apart = c.if-seat-self.false in
    rows_below_more s _ (next_row_of s) c.args.node.now.value refl (returns-clause-begun c)
    (c.requires.next (omega (arith, apart))).1
