use Rattle.std.proofs.Common.{List, take}
use Rattle.col_core.specs.Keeping.{Kept}
use Rattle.report_text.specs.declared.report.ReplyLine.{ReplyLine}
use Rattle.walk_law.specs.Keepings.{IsCounted, KeepsCount, kept_raised}
use Rattle.walk_law.proofs.keeping.Keeping.raises.Given as goal

abbrev pub invariant-loop-raise : goal.invariant-loop-raise
invariant-loop-raise l = record {
  kept : (replies : List ReplyLine) (kept : Kept) → IsCounted replies kept l.initial.self
      → IsCounted replies (kept_raised l.own kept (take l.raise-index l.raises)) l.self;
  count : KeepsCount l.initial.self l.self;
}
