use Rattle.std.proofs.Common.{sym, refl, ◌∙◌}
use Rattle.stamp_board.proofs.Telling.{joined_grows, joined_mine, joined_learns, joined_agree}
use Rattle.stamp_board.proofs.Marking.{same_own}
use Rattle.stamp_board.proofs.board.Board.learn.Goals as goal

pub returns-clause-seat : goal.returns-clause-seat
returns-clause-seat c = let v = c.args.seat.now.inner.me.0 in let w = c.args.other.inner.me.0 in
    let u = c.join.new.seat.me.0 in let e = c.join.ensures.view in record {
      board = c.join.ensures.seat.0;
      colour = refl;
      grows = joined_grows v w u e.0 e.1 e.2;
    }

pub returns-clause-none : goal.returns-clause-none
returns-clause-none c row = let s = c.args.seat.now in let v = s.inner.me.0 in let w = c.args.other.inner.me.0 in
    let u = c.join.new.seat.me.0 in let e = c.join.ensures.view in
    same_own v u (joined_mine v w u e.0 e.1 e.2) (joined_grows v w u e.0 e.1 e.2).size row s.colour

pub returns-clause-learns : goal.returns-clause-learns
returns-clause-learns c = let v = c.args.seat.now.inner.me.0 in let w = c.args.other.inner.me.0 in
    let u = c.join.new.seat.me.0 in let e = c.join.ensures.view in joined_learns v w u e.0 e.1 e.2

pub returns-clause-agree : goal.returns-clause-agree
returns-clause-agree c = let v = c.args.seat.now.inner.me.0 in let w = c.args.other.inner.me.0 in
    let u = c.join.new.seat.me.0 in let e = c.join.ensures.view in
    joined_agree v w u e.0 e.1 e.2 (c.requires.0.1 ∙ sym c.requires.1.1)
