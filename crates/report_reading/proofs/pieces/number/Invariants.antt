use Rattle.std.proofs.Common.{◌≡◌, length}
use Rattle.report_reading.specs.Pieces.{digits_at}
use Rattle.report_reading.proofs.pieces.number.Given as goal

-- the digits that are left go on with the number of those before them
abbrev pub invariant-loop-rest : goal.invariant-loop-rest
invariant-loop-rest l = digits_at l.value l.rest ≡ digits_at 0 l.bytes

abbrev pub decreases-loop-rest : goal.decreases-loop-rest
decreases-loop-rest l = length l.rest
