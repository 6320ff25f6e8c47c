use Rattle.std.proofs.Common.{sym, refl, subst, ◌∙◌, ◌<◌}
use Rattle.stamp_board.specs.declared.view.Size.{Size}
use Rattle.stamp_board.proofs.Telling.{joined_grows, joined_learns, joined_agree, joined_own}
use Rattle.stamp_board.proofs.board.Board.hear.Goals as goal

pub returns-clause-seat : goal.returns-clause-seat
returns-clause-seat c = let v = c.args.seat.now.inner.me.0 in let w = c.args.other.inner.me.0 in
    let u = c.join.new.seat.me.0 in let e = c.join.ensures.view in record {
      board = c.join.ensures.seat.0;
      client = refl;
      used = refl;
      grows = joined_grows v w u e.0 e.1 e.2;
    }

pub returns-clause-learns : goal.returns-clause-learns
returns-clause-learns c = let v = c.args.seat.now.inner.me.0 in let w = c.args.other.inner.me.0 in
    let u = c.join.new.seat.me.0 in let e = c.join.ensures.view in joined_learns v w u e.0 e.1 e.2

pub returns-clause-agree : goal.returns-clause-agree
returns-clause-agree c = let v = c.args.seat.now.inner.me.0 in let w = c.args.other.inner.me.0 in
    let u = c.join.new.seat.me.0 in let e = c.join.ensures.view in
    joined_agree v w u e.0 e.1 e.2 (c.requires.0.1 ∙ sym c.requires.1.1)

pub returns-clause-own : goal.returns-clause-own
returns-clause-own c = λ mine j x lt k.
    let s = c.args.seat.now in let v = s.inner.me.0 in let w = c.args.other.inner.me.0 in
    let u = c.join.new.seat.me.0 in let e = c.join.ensures.view in
    let size = c.requires.0.1 in
    s.begun j (joined_own v w u e.0 e.1 e.2 (size ∙ sym c.requires.1.1) (record { client = s.client; number = j }) x
    (subst (λ (z : Size). j < z.rows) (sym size) lt) mine.1 mine.2 k)
