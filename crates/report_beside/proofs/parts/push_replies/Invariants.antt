use Rattle.std.proofs.Common.{length}
use Rattle.report_text.specs.Replies.{reply_lines}
use Rattle.report_beside.proofs.PartLemmas.{SoFar}
use Rattle.report_beside.proofs.parts.push_replies.Given as goal

-- the replies so far stand behind the parts
abbrev pub invariant-loop-rest : goal.invariant-loop-rest
invariant-loop-rest l = SoFar reply_lines l.replies l.rest l.initial.parts.items l.parts.items

abbrev pub decreases-loop-rest : goal.decreases-loop-rest
decreases-loop-rest l = length l.rest
