use Rattle.std.proofs.Common.{ℕ, List, take}
use Rattle.std.specs.List.{All}
use Rattle.log_node.specs.declared.node.Node.{Node}
use Rattle.col_core.specs.Keeping.{Kept}
use Rattle.report_text.specs.declared.report.RaisePiece.{RaisePiece}
use Rattle.lawful_run.specs.Callers.{caller_of}
use Rattle.run_rules.specs.Telling.{log_of, replies_to}
use Rattle.walk_law.specs.Keepings.{IsCounted}
use Rattle.walk_law.specs.Reading.{AreBelow, IsAboveClock}
use Rattle.walk_law.proofs.keeping.Keeping.is_above_clocks.Given as goal

-- all so far
abbrev pub invariant-loop-raise : goal.invariant-loop-raise
invariant-loop-raise l = (nodes : ℕ → List Node) (kept : Kept) → AreBelow l.subject.script (λ (r : RaisePiece). r.colour) l.raises
    → IsCounted (replies_to l.subject.report l.client) kept l.self
    → All (λ (r : RaisePiece). IsAboveClock (log_of l.subject.report nodes) (caller_of l.subject.script l.client) kept l.stamp r.colour)
    (take l.raise-index l.raises)
