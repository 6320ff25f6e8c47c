use Rattle.std.proofs.Common.{ℕ, Option, subst, sym}
use Rattle.std.specs.Prelude.{OnOk}
use Rattle.col_core.specs.Keeping.{Kept, with_floor}
use Rattle.lawful_run.specs.Appends.{kept_after_points}
use Rattle.lawful_run.specs.Callers.{caller_of}
use Rattle.run_rules.specs.Told.{kept_after_append}
use Rattle.walk_law.specs.Behind.{LeavesOutSteps}
use Rattle.walk_law.specs.Keepings.{IsCounted}
use Rattle.walk_law.specs.Walking.{log_walked}
use Rattle.walk_law.proofs.WalkLemmas.{points_same}
use Rattle.walk_law.proofs.keeping.Keeping.append.Goals as goal

pub returns-in-Some-clause-kept : goal.returns-in-Some-clause-kept
returns-in-Some-clause-kept c replies kept untold leaves s =
    let walked = c.args.subject.now in
    let caller = caller_of walked.script c.args.client in
    let pointed : Kept = kept_after_points kept caller.own c.args.points.now in
    let high : Kept = with_floor pointed c.args.stamp in
    let same = (points_same (log_walked walked) caller kept c.args.points.now).ids in
    let points = subst (λ (o : ℕ). IsCounted replies (kept_after_points kept o c.args.points.now) c.points.new.self) c.own-own.ensures.own
    (c.points.ensures.kept replies kept s) in
    subst (λ (row : Option ℕ). OnOk c.begin_row.result (IsCounted replies
    (kept_after_append untold caller kept c.args.stamp row c.args.points.now) c.begin_row.new.self)) (sym c.in-Some.is)
    (c.begin_row.ensures.kept replies high untold
    (subst (λ (n : ℕ). LeavesOutSteps walked c.args.client n untold) (sym same) leaves)
    (c.raise_floor.ensures.kept replies pointed points))
