use Rattle.std.proofs.Common.{◌≡◌, ◌+◌, length, [], ◌∷◌, length-append, sym, ap, ◌∙◌, subst, arith}
use Rattle.stamp_board.specs.Seats.{IsFreshColumn, AreFreshColumns}
use Rattle.stamp_board.specs.Inside.{HasParts}
use Rattle.stamp_board.proofs.Opening.{more_columns, dealt_first, dealt_column}
use Rattle.stamp_board.proofs.board.Board.column_seats.Goals as goal

pub loop-colour-preserved : goal.loop-colour-preserved
loop-colour-preserved c =
    let h = c.in_ok-push.ensures in let d = c.deal-inner.ensures in let s = c.column_seat.ensures in
    let l = c.loop-colour in let b = c.args.self.now in let new = c.column_seat.result in
    let low = 1 + b.size.clients + l.colour in
    let count : length l.seats ≡ l.colour = l.invariant.count in
    let fresh : IsFreshColumn b new l.colour = dealt_column b l.first c.deal-inner.result l.colour low new
    l.invariant.first d.new.0 d.new.1 s.0 s.1 in
    let next : low + 1 ≡ 1 + b.size.clients + (l.colour + 1) = omega arith in
    record {
      first = subst (HasParts b c.deal-inner.new.seat) next
          (dealt_first b l.first c.deal-inner.new.seat low l.invariant.first d.seat d.rest);
      count = ap length h.ok ∙ length-append l.seats (new ∷ []) ∙ ap (λ n. n + 1) count;
      seats = subst (AreFreshColumns b) (sym h.ok)
          (more_columns b l.seats new l.invariant.seats (subst (IsFreshColumn b new) (sym count) fresh));
    }
