use Rattle.std.proofs.Common.{subst, List, None}
use Rattle.col_core.specs.Keeping.{Kept}
use Rattle.report_text.specs.declared.report.PointPiece.{PointPiece}
use Rattle.lawful_run.specs.Callers.{caller_of}
use Rattle.lawful_run.specs.Reads.{kept_after_piece}
use Rattle.run_rules.specs.Shown.{SyncsAsTold}
use Rattle.run_rules.specs.Told.{kept_after_append, stamp_told}
use Rattle.run_rules.specs.Telling.{log_of, replies_to}
use Rattle.walk_law.specs.Ninth.{PassesTo}
use Rattle.walk_law.specs.Walking.{log_walked}
use Rattle.walk_law.proofs.keeping.Keeping.shows_taken.Goals as goal

pub returns : goal.returns
returns c = λ told kept untold low leaves is.
    let caller = caller_of c.args.subject.now.script c.args.client in
    let log = log_of c.args.subject.now.report told in
    let replies = replies_to c.args.subject.now.report c.args.client in
    let behind : List PointPiece → Kept = λ points.
    kept_after_append untold caller kept (stamp_told (log_walked c.args.subject.now) caller kept None points) None points in
    subst (λ (points : List PointPiece). PassesTo replies (SyncsAsTold log caller (behind points) c.args.sync)
    (kept_after_piece log caller (behind points) c.args.sync) c.shows_sync.new.self c.shows_sync.result) c.from_ref.ensures.value
    (c.shows_sync.ensures.kept told (behind c.from_ref.result.now) low (c.in_ok-append_told.ensures.kept replies kept untold leaves is))
