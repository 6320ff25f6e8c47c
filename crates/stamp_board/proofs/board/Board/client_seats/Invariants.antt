use Rattle.std.proofs.Common.{◌≡◌, ◌+◌, length}
use Rattle.stamp_board.specs.Seats.{AreFreshClients}
use Rattle.stamp_board.specs.Inside.{HasParts}
use Rattle.stamp_board.proofs.board.Board.client_seats.Given as goal

abbrev pub invariant-loop-client : goal.invariant-loop-client
invariant-loop-client l = record {
  first : HasParts l.self l.first (1 + l.client);
  count : length l.seats ≡ l.client;
  seats : AreFreshClients l.self l.seats;
}
