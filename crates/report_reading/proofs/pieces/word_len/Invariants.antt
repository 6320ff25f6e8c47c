use Rattle.std.proofs.Common.{◌≡◌, ◌+◌, length}
use Rattle.report_reading.specs.Pieces.{word_len}
use Rattle.report_reading.proofs.pieces.word_len.Given as goal

-- all bytes before the rest are letters and digits
abbrev pub invariant-loop-rest : goal.invariant-loop-rest
invariant-loop-rest l = (l.len + word_len l.rest ≡ word_len l.bytes) × (l.len + length l.rest ≡ length l.bytes)

abbrev pub decreases-loop-rest : goal.decreases-loop-rest
decreases-loop-rest l = length l.rest
