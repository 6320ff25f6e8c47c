use Rattle.std.proofs.Common.{List, subst, sym}
use Rattle.std.specs.Prelude.{OnOk}
use Rattle.lawful_run.specs.Callers.{caller_of}
use Rattle.lawful_run.specs.Reads.{kept_after_piece}
use Rattle.report_text.specs.declared.report.Answer.{Answer}
use Rattle.report_text.specs.declared.report.RaisePiece.{RaisePiece}
use Rattle.report_text.specs.declared.report.SyncPiece.{SyncPiece}
use Rattle.run_rules.specs.Told.{kept_after_read, kept_appending}
use Rattle.walk_law.specs.Keepings.{IsCounted}
use Rattle.walk_law.specs.Walking.{log_walked}
use Rattle.walk_law.proofs.keeping.Keeping.to_append.Goals as goal

pub returns-in-Decided-clause-kept : goal.returns-in-Decided-clause-kept
returns-in-Decided-clause-kept c = λ replies kept is.
    let log = log_walked c.args.subject.now in
    let caller = caller_of c.args.subject.now.script c.args.client in
    let w = c.in-Decided in
    let synced = kept_after_piece log caller kept w.sync in
    subst (λ (a : Answer). OnOk c.stamped_read.result (IsCounted replies (kept_appending log caller kept a) c.stamped_read.new.self))
    (sym w.is)
    (subst (λ (l : List SyncPiece). OnOk c.stamped_read.result
    (IsCounted replies (kept_after_read log caller synced w.read_stamp w.raises l) c.stamped_read.new.self)) c.as_slice-in-Decided.ensures
    (subst (λ (l : List RaisePiece). OnOk c.stamped_read.result
    (IsCounted replies (kept_after_read log caller synced w.read_stamp l c.as_slice-in-Decided.result.now) c.stamped_read.new.self))
    c.as_slice.ensures (c.stamped_read.ensures.kept replies synced (c.sync.ensures.kept replies kept is))))
