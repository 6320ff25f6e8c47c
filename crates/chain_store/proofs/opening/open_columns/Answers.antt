use Rattle.std.proofs.Common.{◌≡◌, ◌+◌, ◌∷◌, [], ℕ, rules, length, slice_get, ap, sym, subst, ◌∙◌, arith, length-append}
use Rattle.chain_store.specs.Passes.{IsCellOf}
use Rattle.chain_store.proofs.Entering.{get_last, get_old}
use Rattle.chain_store.proofs.Dealing.{have_more, rings_more, shares_more, tied_more}
use Rattle.chain_store.proofs.opening.open_columns.Goals as goal

pub open_shared-requires-clause-seat : goal.open_shared-requires-clause-seat
open_shared-requires-clause-seat c =
    let rest = c.pop.new.self.items in
    let s = c.in-Some.seat in
    let f = c.requires.seats.1 (length rest) s (c.loop-seat.invariant.left (length rest) s
    (ap (λ l. slice_get l (length rest)) c.in-Some.ensures.items ∙ get_last rest s)) in
    search rules

pub open_shared-requires-clause-rings : goal.open_shared-requires-clause-rings
open_shared-requires-clause-rings c =
    let rest = c.pop-in-Some.new.self.items in
    let x = c.in-Some-pop.rings in
    (c.requires.ends.1 (length rest) x (c.loop-seat.invariant.ends (length rest) x
    (ap (λ l. slice_get l (length rest)) c.in-Some-pop.ensures.items ∙ get_last rest x))).0

pub open_shared-requires-clause-unused : goal.open_shared-requires-clause-unused
open_shared-requires-clause-unused c =
    let rest = c.pop-in-Some.new.self.items in
    let x = c.in-Some-pop.rings in
    (c.requires.ends.1 (length rest) x (c.loop-seat.invariant.ends (length rest) x
    (ap (λ l. slice_get l (length rest)) c.in-Some-pop.ensures.items ∙ get_last rest x))).1

pub loop-seat-preserved : goal.loop-seat-preserved
loop-seat-preserved c =
    let i = c.loop-seat.invariant in
    let rest = c.pop.new.self.items in
    let s = c.in-Some.seat in
    let e = c.in-Some.ensures.items in
    let left = c.pop-in-Some.new.self.items in
    let x = c.in-Some-pop.rings in
    let f = c.in-Some-pop.ensures.items in
    let wide : length c.loop-seat.seats.items ≡ length rest + 1 = ap length e ∙ length-append rest (s ∷ []) in
    let many : length c.loop-seat.ends.items ≡ length left + 1 = ap length f ∙ length-append left (x ∷ []) in
    let even = i.even in
    let both : length left ≡ length rest = omega (arith, wide, many, even) in
    let here : c.len-colour.result ≡ length rest = search rules in
    let new = c.in_ok-insert-in-Some-pop.ensures.items in
    let all = c.in_ok-insert-in-Some-pop-2.ensures.items in
    let long = ap length new in
    let count = i.count in
    let o = c.in_ok-cell-in-Some-pop.ensures in
    let cell = c.in_ok-cell-in-Some-pop.cell in
    let share = c.in_ok-cell-in-Some-pop.share in
    record {
      left = λ n x at. i.left n x (ap (λ l. slice_get l n) e ∙ get_old rest (s ∷ []) n x at);
      ends = λ n y at. i.ends n y (ap (λ l. slice_get l n) f ∙ get_old left (x ∷ []) n y at);
      even = both;
      count = omega (arith, wide, long, count);
      tied = tied_more c.args.board.now c.args.region c.args.shape.now.regions (length c.loop-seat.seats.items) (length rest)
          cell c.loop-seat.cells.items c.insert.new.self.items wide new
          (subst (λ (z : ℕ). IsCellOf c.args.board.now c.args.region z c.args.shape.now.regions cell) here o.cell) i.tied;
      rings = rings_more c.args.ends.items (length c.loop-seat.seats.items) (length rest) x cell c.loop-seat.cells.items
          c.insert.new.self.items wide new
          (ap (slice_get c.args.ends.items) (sym both)
          ∙ i.ends (length left) x (ap (λ l. slice_get l (length left)) f ∙ get_last left x)) o.rings i.rings;
      shared = shares_more c.loop-seat.cells.items c.insert.new.self.items cell c.loop-seat.shares.items
          c.insert-in-Some-pop.new.self.items share i.shared o.share new all;
      many = o.clients.same ∙ i.many;
      all = have_more c.loop-seat.cells.items c.insert.new.self.items cell c.loop-seat.shares.items
          c.insert-in-Some-pop.new.self.items share c.loop-seat.clients.items c.open_shared.new.clients.items i.all o.clients
          new all;
    }

pub returns-clause-rings : goal.returns-clause-rings
returns-clause-rings c =
    let i = c.loop-seat.invariant in
    let none : length c.loop-seat.seats.items ≡ 0 = search rules in
    λ k x cell at cat.
    let w : length c.loop-seat.seats.items + k ≡ k = omega (arith, none) in
    i.rings k x cell (ap (slice_get c.args.ends.items) w ∙ at) cat
