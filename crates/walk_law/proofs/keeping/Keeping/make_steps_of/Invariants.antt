use Rattle.std.proofs.Common.{List}
use Rattle.col_core.specs.Keeping.{Kept, with_made}
use Rattle.report_text.specs.declared.report.ReplyLine.{ReplyLine}
use Rattle.lawful_run.specs.Callers.{caller_of}
use Rattle.walk_law.specs.Behind.{steps_untold}
use Rattle.walk_law.specs.Keepings.{IsCounted, KeepsCount}
use Rattle.walk_law.proofs.MadeLemmas.{first_places}
use Rattle.walk_law.proofs.RowSteps.{past_marks}
use Rattle.walk_law.proofs.keeping.Keeping.make_steps_of.Given as goal

-- those of the colours up to the mark are made
abbrev pub invariant-loop-mark : goal.invariant-loop-mark
invariant-loop-mark l = record {
  kept : (replies : List ReplyLine) (kept : Kept) → IsCounted replies kept l.initial.self
      → IsCounted replies (with_made kept (caller_of l.subject.script l.client).own
      (first_places (past_marks 0 l.marks l.mark-index) (steps_untold l.subject l.client l.count))) l.self;
  count : KeepsCount l.initial.self l.self;
}
