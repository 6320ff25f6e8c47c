use Rattle.std.proofs.Common.{◌≡◌, ◌+◌, [], ◌∷◌, length, slice_get, ap, ◌∙◌, arith, length-append}
use Rattle.atomic_table.specs.Table.{Me}
use Rattle.log_node.specs.declared.node.Node.{Node}
use Rattle.stamp_board.specs.declared.view.View.{View}
use Rattle.stamp_board.proofs.Gathering.{got_end, got_front, gathers_one, only_column, only_client, parts_fit}
use Rattle.stamp_board.proofs.Gathering.{parts_low, low_of}
use Rattle.stamp_board.proofs.board.Board.gather_all.Goals as goal

pub gather-requires-clause-seat : goal.gather-requires-clause-seat
gather-requires-clause-seat c =
    let rest = c.pop.new.self.items in let col = c.in-Some.column in let e = c.in-Some.ensures.items in
    let at = c.loop-column.invariant.left (length rest) col (ap (λ l. slice_get l (length rest)) e ∙ got_end rest col) in
    c.load.ensures.seat.0 ∙ (c.requires.columns (length rest) col at).0.0

pub gather-requires-clause-parts : goal.gather-requires-clause-parts
gather-requires-clause-parts c = let i = c.loop-column.invariant in let k = c.args.self.now.size in
    let rest = c.pop.new.self.items in let col = c.in-Some.column in let e = c.in-Some.ensures.items in
    let wide : length c.loop-column.columns.items ≡ length rest + 1 = ap length e ∙ length-append rest (col ∷ []) in
    let at = i.left (length rest) col (ap (λ l. slice_get l (length rest)) e ∙ got_end rest col) in
    let q = c.requires.columns (length rest) col at in let p = low_of k col (length rest) q.0.1 q.1 in
    let low = i.low in
    let p0 : col.inner.me.0.low ≡ 1 + k.clients + length rest = p.0 in
    let p1 : col.inner.me.0.high ≡ 1 + k.clients + (length rest + 1) = p.1 in
    parts_fit c.loop-column.all.me.0 col.inner.me.0 c.load.new.seat.me.0 c.load.result c.load.ensures.view
    (omega arith) (omega arith) i.gathered.up

pub loop-column-preserved : goal.loop-column-preserved
loop-column-preserved c = let i = c.loop-column.invariant in let b = c.args.self.now in let k = b.size in
    let rest = c.pop.new.self.items in let col = c.in-Some.column in let e = c.in-Some.ensures.items in
    let wide : length c.loop-column.columns.items ≡ length rest + 1 = ap length e ∙ length-append rest (col ∷ []) in
    let at = i.left (length rest) col (ap (λ l. slice_get l (length rest)) e ∙ got_end rest col) in
    let q = c.requires.columns (length rest) col at in let p = low_of k col (length rest) q.0.1 q.1 in
    let low = i.low in
    let p0 : col.inner.me.0.low ≡ 1 + k.clients + length rest = p.0 in
    let p1 : col.inner.me.0.high ≡ 1 + k.clients + (length rest + 1) = p.1 in
    let v = c.loop-column.all.me.0 in let u = col.inner.me.0 in let x = c.load.new.seat.me.0 in
    let w = c.gather.new.seat.me.0 in
    let new = ap (λ (m : Me Node View). m.0) c.gather.ensures.all in
    let z = parts_low v u x w c.load.result c.load.ensures.view new in record {
      table = c.gather.ensures.seat ∙ c.load.ensures.seat.0 ∙ q.0.0;
      held = ap (λ (m : Me Node View). m.1) c.gather.ensures.all ∙ c.load.ensures.seat.1 ∙ col.empty;
      left = λ n d here. i.left n d (ap (λ l. slice_get l n) e ∙ got_front rest col d n here);
      low = z.0 ∙ p0;
      high = z.1 ∙ i.high;
      gathered = gathers_one k c.args.seats.items c.args.columns.items v u x w c.load.result i.gathered q.0.1
          (omega arith) (omega arith) (omega arith)
          (λ u' h. only_column k c.args.seats.items c.args.columns.items c.requires.counts.0 (length rest) col at
          u.low p0 u' h) c.load.ensures.view c.load.ensures.told new;
    }

pub load-requires-in-Some-pop-clause-seat : goal.load-requires-in-Some-pop-clause-seat
load-requires-in-Some-pop-clause-seat c = let i = c.loop-client.invariant in
    let rest = c.pop-in-loop-client.new.self.items in let s = c.in-Some-pop.client in
    let e = c.in-Some-pop.ensures.items in
    let at = i.left (length rest) s (ap (λ l. slice_get l (length rest)) e ∙ got_end rest s) in
    (c.requires.seats (length rest) s at).0

pub gather-requires-in-Some-pop-clause-seat : goal.gather-requires-in-Some-pop-clause-seat
gather-requires-in-Some-pop-clause-seat c = let i = c.loop-client.invariant in
    let rest = c.pop-in-loop-client.new.self.items in let s = c.in-Some-pop.client in
    let e = c.in-Some-pop.ensures.items in
    let at = i.left (length rest) s (ap (λ l. slice_get l (length rest)) e ∙ got_end rest s) in
    c.load-in-Some-pop.ensures.seat.0 ∙ (c.requires.seats (length rest) s at).0.0

pub gather-requires-in-Some-pop-clause-parts : goal.gather-requires-in-Some-pop-clause-parts
gather-requires-in-Some-pop-clause-parts c = let i = c.loop-client.invariant in let k = c.args.self.now.size in
    let rest = c.pop-in-loop-client.new.self.items in let s = c.in-Some-pop.client in
    let e = c.in-Some-pop.ensures.items in
    let wide : length c.loop-client.seats.items ≡ length rest + 1 = ap length e ∙ length-append rest (s ∷ []) in
    let at = i.left (length rest) s (ap (λ l. slice_get l (length rest)) e ∙ got_end rest s) in
    let q = c.requires.seats (length rest) s at in let low = i.low in
    let q1 : s.inner.me.0.low ≡ 1 + s.client = q.1.1 in let q2 : s.inner.me.0.high ≡ 2 + s.client = q.1.2 in
    let q3 : s.client ≡ length rest = q.2 in
    parts_fit c.loop-client.all.me.0 s.inner.me.0 c.load-in-Some-pop.new.seat.me.0 c.load-in-Some-pop.result
    c.load-in-Some-pop.ensures.view (omega arith) (omega arith) i.gathered.up

pub loop-client-preserved : goal.loop-client-preserved
loop-client-preserved c = let i = c.loop-client.invariant in let b = c.args.self.now in let k = b.size in
    let rest = c.pop-in-loop-client.new.self.items in let s = c.in-Some-pop.client in
    let e = c.in-Some-pop.ensures.items in
    let wide : length c.loop-client.seats.items ≡ length rest + 1 = ap length e ∙ length-append rest (s ∷ []) in
    let at = i.left (length rest) s (ap (λ l. slice_get l (length rest)) e ∙ got_end rest s) in
    let q = c.requires.seats (length rest) s at in let low = i.low in
    let q1 : s.inner.me.0.low ≡ 1 + s.client = q.1.1 in let q2 : s.inner.me.0.high ≡ 2 + s.client = q.1.2 in
    let q3 : s.client ≡ length rest = q.2 in
    let v = c.loop-client.all.me.0 in let u = s.inner.me.0 in let x = c.load-in-Some-pop.new.seat.me.0 in
    let w = c.gather-in-Some-pop.new.seat.me.0 in
    let new = ap (λ (m : Me Node View). m.0) c.gather-in-Some-pop.ensures.all in
    let z = parts_low v u x w c.load-in-Some-pop.result c.load-in-Some-pop.ensures.view new in
    let p0 : u.low ≡ 1 + length rest = omega arith in record {
      table = c.gather-in-Some-pop.ensures.seat ∙ c.load-in-Some-pop.ensures.seat.0 ∙ q.0.0;
      held = ap (λ (m : Me Node View). m.1) c.gather-in-Some-pop.ensures.all ∙ c.load-in-Some-pop.ensures.seat.1
          ∙ s.empty;
      left = λ n d here. i.left n d (ap (λ l. slice_get l n) e ∙ got_front rest s d n here);
      low = z.0 ∙ p0;
      high = z.1 ∙ i.high;
      gathered = gathers_one k c.args.seats.items c.args.columns.items v u x w c.load-in-Some-pop.result i.gathered
          q.0.1 (omega arith) (omega arith) (omega arith)
          (λ u' h. only_client k c.args.seats.items c.args.columns.items c.requires.counts.0 (length rest) s at u.low
          p0 u' h) c.load-in-Some-pop.ensures.view c.load-in-Some-pop.ensures.told new;
    }
