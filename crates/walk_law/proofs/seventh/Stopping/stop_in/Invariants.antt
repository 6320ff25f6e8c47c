use Rattle.std.proofs.Common.{length}
use Rattle.col_core.specs.Keeping.{Kept}
use Rattle.lawful_run.specs.Callers.{caller_of}
use Rattle.run_rules.specs.Telling.{replies_to}
use Rattle.walk_law.specs.Behind.{steps_untold}
use Rattle.walk_law.specs.Keepings.{IsCounted}
use Rattle.walk_law.specs.Seventh.{opening_in}
use Rattle.walk_law.specs.Walking.{log_walked}
use Rattle.walk_law.proofs.SeventhLemmas.{StopSo}
use Rattle.walk_law.proofs.seventh.Stopping.stop_in.Given as goal

-- all colours so far
abbrev pub invariant-loop-n : goal.invariant-loop-n
invariant-loop-n l = (kept : Kept) → IsCounted (replies_to l.subject.report l.client) kept l.keeping
    → StopSo (opening_in l.self.open.items l.subject.script.shape.colours) (log_walked l.subject)
    (caller_of l.subject.script l.client) kept (steps_untold l.subject l.client kept.ids) (length l.marks) l.steps l.marks l.n
