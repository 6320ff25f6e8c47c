use Rattle.std.proofs.Common.{List, take}
use Rattle.col_core.specs.Keeping.{Kept}
use Rattle.report_text.specs.declared.report.ReplyLine.{ReplyLine}
use Rattle.lawful_run.specs.Callers.{caller_of}
use Rattle.run_rules.specs.Told.{kept_after_syncs}
use Rattle.walk_law.specs.Keepings.{IsCounted, KeepsCount}
use Rattle.walk_law.specs.Walking.{log_walked}
use Rattle.walk_law.proofs.keeping.Keeping.syncs.Given as goal

abbrev pub invariant-loop-sync : goal.invariant-loop-sync
invariant-loop-sync l = record {
  kept : (replies : List ReplyLine) (kept : Kept) → IsCounted replies kept l.initial.self → IsCounted replies
      (kept_after_syncs (log_walked l.subject) (caller_of l.subject.script l.client) kept (take l.sync-index l.syncs)) l.self;
  count : KeepsCount l.initial.self l.self;
}
