use Rattle.std.proofs.Common.{sym, subst, List, take, rules}
use Rattle.std.proofs.lemmas.List.Sums.{fold_more}
use Rattle.walk_law.proofs.PastLemmas.{take_all_of}
use Rattle.col_core.specs.Keeping.{Kept, kept_after_point}
use Rattle.report_text.specs.declared.report.PointPiece.{PointPiece}
use Rattle.lawful_run.specs.Appends.{kept_after_points}
use Rattle.walk_law.specs.Keepings.{IsCounted}
use Rattle.walk_law.proofs.keeping.Keeping.points.Goals as goal

pub loop-point-preserved : goal.loop-point-preserved
loop-point-preserved c = record {
  kept = λ replies kept s.
      subst (λ (k : Kept). IsCounted replies k c.point.new.self)
      (sym (fold_more (λ (k : Kept) (p : PointPiece). kept_after_point k c.args.own p.colour p.at p.position) kept
      c.args.points.now c.loop-point.point-index _ c.loop-point-test.true))
      (c.point.ensures.kept replies (kept_after_points kept c.args.own (take c.loop-point.point-index c.args.points.now))
      (c.loop-point.invariant.kept replies kept s));
  count = search rules;
}

pub returns-clause-kept : goal.returns-clause-kept
returns-clause-kept c replies kept s =
    subst (λ (l : List PointPiece). IsCounted replies (kept_after_points kept c.args.own l) c.loop-point.self)
    (take_all_of c.args.points.now c.loop-point.point-index c.loop-point-test.false)
    (c.loop-point.invariant.kept replies kept s)
