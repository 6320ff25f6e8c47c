use Rattle.std.proofs.Common.{◌≡◌, ◌+◌, length, [], ◌∷◌, length-append, sym, ap, ◌∙◌, subst, arith}
use Rattle.stamp_board.specs.Seats.{IsFreshClient, AreFreshClients}
use Rattle.stamp_board.specs.Inside.{HasParts}
use Rattle.stamp_board.proofs.Opening.{more_clients, dealt_first, dealt_client}
use Rattle.stamp_board.proofs.board.Board.client_seats.Goals as goal

pub loop-client-preserved : goal.loop-client-preserved
loop-client-preserved c =
    let h = c.in_ok-push.ensures in let d = c.deal-inner.ensures in let s = c.client_seat.ensures in
    let l = c.loop-client in let b = c.args.self.now in let new = c.client_seat.result in
    let count : length l.seats ≡ l.client = l.invariant.count in
    let fresh : IsFreshClient b new l.client = dealt_client b l.first c.deal-inner.result l.client new
    l.invariant.first d.new.0 d.new.1 c.loop-client-test.true s.0 s.1 s.2 in
    let next : 1 + l.client + 1 ≡ 1 + (l.client + 1) = omega arith in
    record {
      first = subst (HasParts b c.deal-inner.new.seat) next
          (dealt_first b l.first c.deal-inner.new.seat (1 + l.client) l.invariant.first d.seat d.rest);
      count = ap length h.ok ∙ length-append l.seats (new ∷ []) ∙ ap (λ n. n + 1) count;
      seats = subst (AreFreshClients b) (sym h.ok)
          (more_clients b l.seats new l.invariant.seats (subst (IsFreshClient b new) (sym count) fresh));
    }
