use Rattle.std.proofs.Common.{◌≡◌, ◌<◌, ◌≤◌, ℕ, length, Some}
use Rattle.std.specs.Prelude.{slice_get}
use Rattle.report_text.specs.declared.report.ClientReport.{ClientReport}
use Rattle.walk_law.specs.Replies.{Passed}
use Rattle.walk_law.proofs.replies.are_passed.Given as goal

-- those of the clients so far
abbrev pub invariant-loop-at : goal.invariant-loop-at
invariant-loop-at l = (n : ℕ) (c : ClientReport) (p : Passed) → n < l.at → slice_get l.clients n ≡ Some c → slice_get l.progress n ≡ Some p
    → length c.replies ≤ p.next
