use Rattle.std.proofs.Common.{◌≡◌, ◌∷◌, [], ℕ, List, None, ap, inl, inr, subst, sym}
use Rattle.std.specs.Prelude.{OnOk}
use Rattle.col_core.specs.Keeping.{Kept, kept_after_look}
use Rattle.report_text.specs.declared.report.Answer.{Answer}
use Rattle.report_text.specs.declared.report.PointPiece.{PointPiece}
use Rattle.report_text.specs.declared.report.RaisePiece.{RaisePiece}
use Rattle.report_text.specs.declared.report.SyncPiece.{SyncPiece}
use Rattle.lawful_run.specs.Callers.{caller_of}
use Rattle.lawful_run.specs.Reads.{kept_after_piece}
use Rattle.run_rules.specs.Told.{kept_after_append, kept_after_read, kept_deciding, kept_told, stamp_told}
use Rattle.run_rules.specs.Telling.{replies_to}
use Rattle.walk_law.specs.Keepings.{IsCounted}
use Rattle.walk_law.specs.Walking.{log_walked}
use Rattle.walk_law.proofs.BehindLemmas.{found_at}
use Rattle.walk_law.proofs.keeping.Keeping.answered.Goals as goal

pub returns-in_ok-stamped_read-in-GotKeys-clause-kept : goal.returns-in_ok-stamped_read-in-GotKeys-clause-kept
returns-in_ok-stamped_read-in-GotKeys-clause-kept c kept untold a =
    let walked = c.args.subject.now in
    let log = log_walked walked in
    let caller = caller_of walked.script c.args.client in
    let replies = replies_to walked.report c.args.client in
    let it = c.in-GotKeys in
    let after : Kept = kept_after_read log caller kept it.stamp it.raises it.syncs in
    let raised = subst (λ (l : List RaisePiece). IsCounted replies (kept_after_read log caller kept it.stamp l c.as_slice-in-GotKeys-2.result.now)
    c.stamped_read.new.self) c.as_slice-in-GotKeys.ensures (c.in_ok-stamped_read-in-GotKeys.ensures.kept replies kept a.counts) in
    let read = subst (λ (l : List SyncPiece). IsCounted replies (kept_after_read log caller kept it.stamp it.raises l) c.stamped_read.new.self)
    c.as_slice-in-GotKeys-2.ensures raised in
    subst (λ (w : Answer). IsCounted replies (kept_told log untold caller kept c.args.what.now w) c.found.new.self) (sym it.is)
    (c.found.ensures.kept replies after untold.found
    (found_at replies c.args.place untold.found c.args.answer.now it.stamp it.keys it.raises it.syncs a.reply (ap (λ u. u.found) a.told) it.is)
    read)

pub returns-in_ok-stamped_read-in-Decided-clause-kept : goal.returns-in_ok-stamped_read-in-Decided-clause-kept
returns-in_ok-stamped_read-in-Decided-clause-kept c kept untold a =
    let walked = c.args.subject.now in
    let log = log_walked walked in
    let caller = caller_of walked.script c.args.client in
    let replies = replies_to walked.report c.args.client in
    let it = c.in-Decided in
    let synced : Kept = kept_after_piece log caller kept it.sync in
    let raised = subst (λ (l : List RaisePiece). IsCounted replies
    (kept_after_read log caller synced it.read_stamp l c.as_slice-in-Decided-2.result.now) c.stamped_read-in-Decided.new.self)
    c.as_slice-in-Decided.ensures
    (c.in_ok-stamped_read-in-Decided.ensures.kept replies synced (c.sync.ensures.kept replies kept a.counts)) in
    let read = subst (λ (l : List SyncPiece). IsCounted replies (kept_after_read log caller synced it.read_stamp it.raises l)
    c.stamped_read-in-Decided.new.self) c.as_slice-in-Decided-2.ensures raised in
    subst (λ (w : Answer). OnOk c.ended.result (IsCounted replies (kept_told log untold caller kept c.args.what.now w) c.ended.new.self)) (sym it.is)
    (c.ended.ensures.kept replies caller (kept_deciding log caller kept it.sync it.read_stamp it.raises it.syncs) untold
    (sym c.own-own.ensures.own) read)

pub returns-in-Moved-clause-kept : goal.returns-in-Moved-clause-kept
returns-in-Moved-clause-kept c kept untold a =
    let walked = c.args.subject.now in
    let caller = caller_of walked.script c.args.client in
    let replies = replies_to walked.report c.args.client in
    subst (λ (w : Answer). IsCounted replies (kept_told (log_walked walked) untold caller kept c.args.what.now w) c.see.new.self) (sym c.in-Moved.is)
    (subst (λ (o : ℕ). IsCounted replies (kept_after_look kept o c.in-Moved.colour c.in-Moved.events) c.see.new.self) c.own-own.ensures.own
    (c.see.ensures.kept replies kept a.counts))

pub returns-in_ok-append_told-in-Took-clause-kept : goal.returns-in_ok-append_told-in-Took-clause-kept
returns-in_ok-append_told-in-Took-clause-kept c kept untold a =
    let walked = c.args.subject.now in
    let log = log_walked walked in
    let caller = caller_of walked.script c.args.client in
    let replies = replies_to walked.report c.args.client in
    let it = c.in-Took in
    let stood = λ (l : List PointPiece). kept_after_append untold caller kept (stamp_told log caller kept None l) None l in
    let one = subst (λ (l : List PointPiece). IsCounted replies (stood l) c.append_told.new.self) c.from_ref.ensures.value
    (c.in_ok-append_told-in-Took.ensures.kept replies kept untold (λ k. ap (λ u. u.places k) a.told) a.counts) in
    subst (λ (w : Answer). IsCounted replies (kept_told log untold caller kept c.args.what.now w) c.sync-in-Took.new.self) (sym it.is)
    (c.sync-in-Took.ensures.kept replies (stood (it.point ∷ [])) one)

pub returns-in_ok-append_told-in-Ruled-clause-kept : goal.returns-in_ok-append_told-in-Ruled-clause-kept
returns-in_ok-append_told-in-Ruled-clause-kept c kept untold a =
    let walked = c.args.subject.now in
    let log = log_walked walked in
    let caller = caller_of walked.script c.args.client in
    let replies = replies_to walked.report c.args.client in
    let it = c.in-Ruled in
    let stood = λ (l : List PointPiece). kept_after_append untold caller kept (stamp_told log caller kept it.row l) it.row l in
    let one = subst (λ (l : List PointPiece). IsCounted replies (stood l) c.append_told-in-Ruled.new.self) c.as_slice-in-Ruled.ensures
    (c.in_ok-append_told-in-Ruled.ensures.kept replies kept untold (λ k. ap (λ u. u.places k) a.told) a.counts) in
    let is : kept_told log untold caller kept c.args.what.now c.args.answer.now
    ≡ kept_after_read log caller (stood it.points) it.read_stamp it.raises it.syncs = elim it.is [
      | inl s ↦ ap (kept_told log untold caller kept c.args.what.now) s.2
      | inr s ↦ ap (kept_told log untold caller kept c.args.what.now) s.2
    ] in
    let result = c.stamped_read-in-Ruled.result in
    let new = c.stamped_read-in-Ruled.new.self in
    subst (λ (k : Kept). OnOk result (IsCounted replies k new)) (sym is)
    (subst (λ (l : List SyncPiece). OnOk result (IsCounted replies
    (kept_after_read log caller (stood it.points) it.read_stamp it.raises l) new)) c.as_slice-in-Ruled-3.ensures
    (subst (λ (l : List RaisePiece). OnOk result (IsCounted replies
    (kept_after_read log caller (stood it.points) it.read_stamp l c.as_slice-in-Ruled-3.result.now) new)) c.as_slice-in-Ruled-2.ensures
    (c.stamped_read-in-Ruled.ensures.kept replies (stood it.points) one)))

pub returns-in-Scanned-clause-kept : goal.returns-in-Scanned-clause-kept
returns-in-Scanned-clause-kept c kept untold a =
    let walked = c.args.subject.now in
    let log = log_walked walked in
    let caller = caller_of walked.script c.args.client in
    let replies = replies_to walked.report c.args.client in
    let it = c.in-Scanned in
    let is : kept_told log untold caller kept c.args.what.now c.args.answer.now
    ≡ kept_after_read log caller kept it.stamp it.raises it.syncs = elim it.is [
      | inl s ↦ ap (kept_told log untold caller kept c.args.what.now) s.1
      | inr s ↦ ap (kept_told log untold caller kept c.args.what.now) s.1
    ] in
    let result = c.stamped_read-in-Scanned.result in
    let new = c.stamped_read-in-Scanned.new.self in
    subst (λ (k : Kept). OnOk result (IsCounted replies k new)) (sym is)
    (subst (λ (l : List SyncPiece). OnOk result (IsCounted replies (kept_after_read log caller kept it.stamp it.raises l) new))
    c.as_slice-in-Scanned-2.ensures
    (subst (λ (l : List RaisePiece). OnOk result (IsCounted replies
    (kept_after_read log caller kept it.stamp l c.as_slice-in-Scanned-2.result.now) new)) c.as_slice-in-Scanned.ensures
    (c.stamped_read-in-Scanned.ensures.kept replies kept a.counts)))

pub returns-in-Synced-clause-kept : goal.returns-in-Synced-clause-kept
returns-in-Synced-clause-kept c kept untold a =
    let walked = c.args.subject.now in
    let log = log_walked walked in
    let caller = caller_of walked.script c.args.client in
    let replies = replies_to walked.report c.args.client in
    let is : kept_told log untold caller kept c.args.what.now c.args.answer.now ≡ kept_after_piece log caller kept c.in-Synced.sync =
    elim c.in-Synced.is [
      | inl s ↦ ap (kept_told log untold caller kept c.args.what.now) s.1
      | inr others ↦ elim others [
        | inl s ↦ ap (kept_told log untold caller kept c.args.what.now) s.1
        | inr rest ↦ elim rest [
          | inl s ↦ ap (kept_told log untold caller kept c.args.what.now) s.1
          | inr s ↦ ap (kept_told log untold caller kept c.args.what.now) s.1
        ]
      ]
    ] in
    subst (λ (k : Kept). IsCounted replies k c.sync-in-Synced.new.self) (sym is) (c.sync-in-Synced.ensures.kept replies kept a.counts)
