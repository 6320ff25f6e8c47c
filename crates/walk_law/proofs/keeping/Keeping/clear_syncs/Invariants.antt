use Rattle.std.proofs.Common.{ℕ, List, take}
use Rattle.log_node.specs.declared.node.Node.{Node}
use Rattle.col_core.specs.Keeping.{Kept}
use Rattle.report_text.specs.declared.report.SyncPiece.{SyncPiece}
use Rattle.lawful_run.specs.Callers.{caller_of}
use Rattle.lawful_run.specs.Reads.{ClearSyncs}
use Rattle.run_rules.specs.Told.{kept_after_syncs}
use Rattle.run_rules.specs.Telling.{log_of, replies_to}
use Rattle.walk_law.specs.Keepings.{IsCounted, KeepsCount}
use Rattle.walk_law.specs.Reading.{AreBelow}
use Rattle.walk_law.proofs.keeping.Keeping.clear_syncs.Given as goal

-- the syncs so far are so, and it counts what is kept behind them
abbrev pub invariant-loop-sync : goal.invariant-loop-sync
invariant-loop-sync l = record {
  kept : (nodes : ℕ → List Node) (kept : Kept) → AreBelow l.subject.script (λ (s : SyncPiece). s.colour) l.syncs
      → IsCounted (replies_to l.subject.report l.client) kept l.initial.self
      → ClearSyncs (log_of l.subject.report nodes) (caller_of l.subject.script l.client) l.stamp kept (take l.sync-index l.syncs)
      (kept_after_syncs (log_of l.subject.report nodes) (caller_of l.subject.script l.client) kept (take l.sync-index l.syncs))
      × IsCounted (replies_to l.subject.report l.client)
      (kept_after_syncs (log_of l.subject.report nodes) (caller_of l.subject.script l.client) kept (take l.sync-index l.syncs)) l.self;
  count : KeepsCount l.initial.self l.self;
}
