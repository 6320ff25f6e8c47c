use Rattle.std.proofs.Common.{◌≡◌, ◌/◌, ◌%◌, ◌^◌, ◌<◌, true, false, [], length, take, sym, ap, ◌∙◌, subst}
use Rattle.std.proofs.Common.{arith, eq-eqb, ne_eqb}
use Rattle.stamp_board.proofs.Colours.{has_bit}
use Rattle.stamp_board.specs.declared.view.View.{View}
use Rattle.stamp_board.specs.Words.{row_at}
use Rattle.stamp_board.specs.Law.{Fits}
use Rattle.stamp_board.proofs.Deciding.{Taken, starts, goes_past, goes_on, misses, ended_marks, ended_some}
use Rattle.stamp_board.proofs.board.Board.take_marks.Goals as goal
use Rattle.stamp_board.proofs.board.Board.take_marks.Goals.{then-bits-colour-eq1+else-found-eq0, else-bits-colour-eq1}

pub loop-colour-init : goal.loop-colour-init
loop-colour-init c = let k = c.args.self.now.size in let v = c.args.seat.now.me.0 in let r = row_at k c.args.row in
    record {
      table = c.load-bits.ensures.seat.0;
      held = c.load-bits.ensures.seat.1;
      wide = c.requires.marks;
      taken = subst (λ (z : View). Taken k v z r c.load-bits.result 0 0 []) (sym c.load-bits.ensures.view)
          (starts k v c.word-first.result c.load-bits.result r c.requires.seat.1 c.word-first.ensures.word
          c.load-bits.ensures.told c.if-bits-eq0.false);
    }

pub returns-then-found-eq0-clause-none : goal.returns-then-found-eq0-clause-none
returns-then-found-eq0-clause-none c _ = let k = c.args.self.now.size in let u = c.args.seat.now.me.0 in
    let r = row_at k c.args.row in let l = c.loop-colour in let t = l.invariant.taken in
    let bit : has_bit c.load-bits.result l.colour ≡ true = eq-eqb (c.load-bits.result / 2 ^ l.colour % 2) 1
    c.if-bits-colour-eq1.true in
    let m = misses k u l.seat.me.0 r c.load-bits.result l.colour l.count (take l.count l.marks) t c.word-word.result
    c.load-found.result (t.grows.size
    ∙ c.requires.seat.1) c.word-word.ensures.word bit c.load-found.ensures.told
    c.args.self.now.is_size.few_colours c.if-found-eq0.true in
    (m.0, m.1, subst (Fits k m.0) (sym c.load-found.ensures.view) m.2, m.3)

pub loop-colour-preserved : goal.loop-colour-preserved
loop-colour-preserved c = let k = c.args.self.now.size in let u = c.args.seat.now.me.0 in let r = row_at k c.args.row in
    let l = c.loop-colour in let t = l.invariant.taken in let j = c.if-bits-colour-eq1 in
    elim c.if-bits-colour-eq1.branch [
      | then-bits-colour-eq1+else-found-eq0 w ↦
          let bit : has_bit c.load-bits.result l.colour ≡ true = eq-eqb (c.load-bits.result / 2 ^ l.colour % 2) 1
          w.if-bits-colour-eq1.true in
          let inside : l.count < length l.marks = (let few = t.few in let wide = l.invariant.wide in
          let most = c.args.self.now.is_size.few_colours in let lt = c.loop-colour-test.true in omega arith) in
          record {
            table = ap (λ z. z.table_id) w.seat-is ∙ w.load-found.ensures.seat.0 ∙ l.invariant.table;
            held = ap (λ z. z.me.1) w.seat-is ∙ w.load-found.ensures.seat.1 ∙ l.invariant.held;
            wide = j.auto.marks ∙ l.invariant.wide;
            taken = goes_on k u l.seat.me.0 j.seat.me.0 r c.load-bits.result l.colour l.count j.count l.marks j.marks
                t w.word-word.result w.load-found.result w.mark_of.result (t.grows.size ∙ c.requires.seat.1)
                w.word-word.ensures.word bit w.load-found.ensures.told w.if-found-eq0.false inside
                (ap (λ z. z.me.0) w.seat-is ∙ w.load-found.ensures.view) w.mark_of.ensures w.marks-is w.count-is;
          }
      | else-bits-colour-eq1 w ↦
          let unset : has_bit c.load-bits.result l.colour ≡ false = ne_eqb (c.load-bits.result / 2 ^ l.colour % 2) 1
          w.if-bits-colour-eq1.false in
          record {
            table = ap (λ z. z.table_id) w.seat-is ∙ l.invariant.table;
            held = ap (λ z. z.me.1) w.seat-is ∙ l.invariant.held;
            wide = j.auto.marks ∙ l.invariant.wide;
            taken = goes_past k u l.seat.me.0 j.seat.me.0 r c.load-bits.result l.colour l.count j.count l.marks
                j.marks t unset (ap (λ z. z.me.0) w.seat-is) w.marks-is w.count-is;
          }
    ]

pub returns-clause-none : goal.returns-clause-none
returns-clause-none c z = let k = c.args.self.now.size in let u = c.args.seat.now.me.0 in let r = row_at k c.args.row in
    let l = c.loop-colour in
    let a = l.auto.colour-end in let b = c.loop-colour-test.false in let e : l.colour ≡ k.colours = omega arith in
    absurd (ended_some k u l.seat.me.0 r c.load-bits.result l.count (take l.count l.marks)
    (subst (λ n. Taken k u l.seat.me.0 r c.load-bits.result n l.count (take l.count l.marks)) e
    l.invariant.taken) c.args.self.now.is_size.few_colours z)

pub returns-clause-some : goal.returns-clause-some
returns-clause-some c _ = let k = c.args.self.now.size in let u = c.args.seat.now.me.0 in let r = row_at k c.args.row in
    let l = c.loop-colour in
    let a = l.auto.colour-end in let b = c.loop-colour-test.false in let e : l.colour ≡ k.colours = omega arith in
    ended_marks k u l.seat.me.0 r c.load-bits.result l.count (take l.count l.marks)
    (subst (λ n. Taken k u l.seat.me.0 r c.load-bits.result n l.count (take l.count l.marks)) e
    l.invariant.taken) c.args.self.now.is_size.few_colours
