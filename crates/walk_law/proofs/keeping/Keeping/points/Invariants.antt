use Rattle.std.proofs.Common.{List, take}
use Rattle.col_core.specs.Keeping.{Kept}
use Rattle.report_text.specs.declared.report.ReplyLine.{ReplyLine}
use Rattle.lawful_run.specs.Appends.{kept_after_points}
use Rattle.walk_law.specs.Keepings.{IsCounted, KeepsCount}
use Rattle.walk_law.proofs.keeping.Keeping.points.Given as goal

abbrev pub invariant-loop-point : goal.invariant-loop-point
invariant-loop-point l = record {
  kept : (replies : List ReplyLine) (kept : Kept) → IsCounted replies kept l.initial.self
      → IsCounted replies (kept_after_points kept l.own (take l.point-index l.points)) l.self;
  count : KeepsCount l.initial.self l.self;
}
