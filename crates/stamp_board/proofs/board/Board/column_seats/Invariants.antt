use Rattle.std.proofs.Common.{◌≡◌, ◌+◌, length}
use Rattle.stamp_board.specs.Seats.{AreFreshColumns}
use Rattle.stamp_board.specs.Inside.{HasParts}
use Rattle.stamp_board.proofs.board.Board.column_seats.Given as goal

abbrev pub invariant-loop-colour : goal.invariant-loop-colour
invariant-loop-colour l = record {
  first : HasParts l.self l.first (1 + l.self.size.clients + l.colour);
  count : length l.seats ≡ l.colour;
  seats : AreFreshColumns l.self l.seats;
}
