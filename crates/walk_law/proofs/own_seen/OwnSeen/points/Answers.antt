use Rattle.std.proofs.Common.{sym, subst, List, take}
use Rattle.std.proofs.lemmas.List.Sums.{fold_more}
use Rattle.col_core.specs.Keeping.{Kept, kept_after_point}
use Rattle.report_text.specs.declared.report.PointPiece.{PointPiece}
use Rattle.lawful_run.specs.Appends.{kept_after_points}
use Rattle.walk_law.specs.Fourth.{Sees}
use Rattle.walk_law.proofs.PastLemmas.{take_all_of}
use Rattle.walk_law.proofs.own_seen.OwnSeen.points.Goals as goal

pub loop-point-preserved : goal.loop-point-preserved
loop-point-preserved c = λ caller kept s.
    subst (λ (k : Kept). Sees caller k c.point.new.self)
    (sym (fold_more (λ (k : Kept) (p : PointPiece). kept_after_point k caller.own p.colour p.at p.position) kept c.args.points.now
    c.loop-point.point-index _ c.loop-point-test.true))
    (c.point.ensures caller (kept_after_points kept caller.own (take c.loop-point.point-index c.args.points.now))
    (c.loop-point.invariant caller kept s))

pub returns : goal.returns
returns c = λ caller kept s.
    subst (λ (l : List PointPiece). Sees caller (kept_after_points kept caller.own l) c.loop-point.self)
    (take_all_of c.args.points.now c.loop-point.point-index c.loop-point-test.false) (c.loop-point.invariant caller kept s)
