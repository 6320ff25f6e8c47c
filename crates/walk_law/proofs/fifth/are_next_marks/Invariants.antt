use Rattle.std.proofs.Common.{take}
use Rattle.std.specs.List.{All}
use Rattle.col_core.specs.Keeping.{Kept}
use Rattle.lawful_run.specs.Callers.{caller_of}
use Rattle.run_rules.specs.Telling.{replies_to}
use Rattle.walk_law.specs.Fifth.{MarksNext}
use Rattle.walk_law.specs.Keepings.{IsCounted}
use Rattle.walk_law.specs.Walking.{log_walked}
use Rattle.walk_law.proofs.fifth.are_next_marks.Given as goal

-- all marks so far
abbrev pub invariant-loop-mark : goal.invariant-loop-mark
invariant-loop-mark l = (kept : Kept) → IsCounted (replies_to l.subject.report l.client) kept l.keeping
    → All (MarksNext l.subject.script.shape.colours (log_walked l.subject) (caller_of l.subject.script l.client) kept)
    (take l.mark-index l.marks)
