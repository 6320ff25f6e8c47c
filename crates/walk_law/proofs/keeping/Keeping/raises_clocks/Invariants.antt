use Rattle.std.proofs.Common.{ℕ, List, take}
use Rattle.log_node.specs.declared.node.Node.{Node}
use Rattle.col_core.specs.Keeping.{Kept}
use Rattle.report_text.specs.declared.report.RaisePiece.{RaisePiece}
use Rattle.lawful_run.specs.Callers.{caller_of}
use Rattle.lawful_run.specs.Reads.{Raises}
use Rattle.run_rules.specs.Told.{kept_after_raises}
use Rattle.run_rules.specs.Telling.{log_of, replies_to}
use Rattle.walk_law.specs.Keepings.{IsCounted, KeepsCount}
use Rattle.walk_law.specs.Reading.{AreBelow}
use Rattle.walk_law.proofs.keeping.Keeping.raises_clocks.Given as goal

-- the raises so far are so, and it counts what is kept behind them
abbrev pub invariant-loop-raise : goal.invariant-loop-raise
invariant-loop-raise l = record {
  kept : (nodes : ℕ → List Node) (kept : Kept) → AreBelow l.subject.script (λ (r : RaisePiece). r.colour) l.raises
      → IsCounted (replies_to l.subject.report l.client) kept l.initial.self
      → Raises (log_of l.subject.report nodes) (caller_of l.subject.script l.client) l.stamp kept (take l.raise-index l.raises)
      (kept_after_raises (caller_of l.subject.script l.client) kept (take l.raise-index l.raises))
      × IsCounted (replies_to l.subject.report l.client)
      (kept_after_raises (caller_of l.subject.script l.client) kept (take l.raise-index l.raises)) l.self;
  count : KeepsCount l.initial.self l.self;
}
