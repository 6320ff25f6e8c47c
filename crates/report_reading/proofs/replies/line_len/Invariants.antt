use Rattle.std.proofs.Common.{◌≡◌, ◌+◌, length}
use Rattle.report_reading.specs.ReplyReadings.{line_len}
use Rattle.report_reading.proofs.replies.line_len.Given as goal

-- all bytes before the rest are no line feed
abbrev pub invariant-loop-rest : goal.invariant-loop-rest
invariant-loop-rest l = (l.len + line_len l.rest ≡ line_len l.bytes) × (l.len + length l.rest ≡ length l.bytes)

abbrev pub decreases-loop-rest : goal.decreases-loop-rest
decreases-loop-rest l = length l.rest
