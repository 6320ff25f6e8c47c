use Rattle.std.proofs.Common.{◌<◌, ◌∙◌, ◌∷◌, [], inl, inr, refl, subst, sym, List, None}
use Rattle.std.specs.Prelude.{IfOk}
use Rattle.log_node.specs.declared.limits.TheConstants.{MAX_COLOURS}
use Rattle.report_text.specs.declared.report.Answer.{Answer}
use Rattle.report_text.specs.declared.report.PointPiece.{PointPiece}
use Rattle.report_text.specs.declared.report.RaisePiece.{RaisePiece}
use Rattle.report_text.specs.declared.report.SyncPiece.{SyncPiece}
use Rattle.lawful_run.specs.Callers.{caller_of}
use Rattle.column_track.specs.Tracks.{Tells}
use Rattle.run_rules.specs.Told.{kept_after_read, stamp_told}
use Rattle.run_rules.specs.Naming.{Names}
use Rattle.walk_law.specs.Fourth.{NamesLow, Sees}
use Rattle.walk_law.specs.Walking.{log_walked}
use Rattle.walk_law.proofs.FourthLemmas.{AppendTold, BegunTold, CommitTold, and_told, asked_sees, decide_as, left_out_of, ok_to, read_arm, stopped_told}
use Rattle.walk_law.proofs.fourth.names.Goals as goal

pub returns-in-Stood : goal.returns-in-Stood
returns-in-Stood c = λ kept untold asked.
    let walked = c.args.subject.now in
    let log = log_walked walked in
    let client = c.args.client in
    let caller = caller_of walked.script client in
    let what = c.args.what.now in
    let s = asked_sees walked client c.agrees.ensures.may.0 c.agrees.ensures.may.1 what c.args.answer.now kept untold
    c.args.keeping.now c.of-seen.result c.own.result c.own.ensures.own c.own.ensures.within c.of-seen.ensures.client
    c.of-seen.ensures.region c.of-seen.ensures.seen c.of-seen.ensures.known asked in
    let ids = c.ids-count.ensures ∙ asked.counts.ids in
    let left_out = left_out_of walked client what c.args.answer.now kept untold c.ids-count.result ids asked.told in
    let it = c.in-Stood in
    subst (λ (w : Answer). NamesLow w → IfOk c.names_append.result (λ b. Tells b (Names log untold caller kept what w))) (sym it.is)
    (λ low. ok_to c.names_append.result _ _ (λ b named. and_told _ _ b named)
    (subst (λ (l : List PointPiece). AppendTold walked c.ids-count.result it.row l c.of-seen.result c.names_append.new.self
    c.names_append.result client) c.as_slice.ensures
    (subst (AppendTold walked c.ids-count.result it.row c.as_slice.result.now c.of-seen.result c.names_append.new.self
    c.names_append.result) c.of-seen.ensures.client c.names_append.ensures) kept untold it.stamp s ids left_out low))
    asked.low

pub returns-in-StampEnd : goal.returns-in-StampEnd
returns-in-StampEnd c = λ kept untold asked.
    let walked = c.args.subject.now in
    let log = log_walked walked in
    let client = c.args.client in
    let caller = caller_of walked.script client in
    let what = c.args.what.now in
    let s = asked_sees walked client c.agrees.ensures.may.0 c.agrees.ensures.may.1 what c.args.answer.now kept untold
    c.args.keeping.now c.of-seen.result c.own.result c.own.ensures.own c.own.ensures.within c.of-seen.ensures.client
    c.of-seen.ensures.region c.of-seen.ensures.seen c.of-seen.ensures.known asked in
    let left_out = left_out_of walked client what c.args.answer.now kept untold kept.ids refl asked.told in
    subst (λ (w : Answer). IfOk c.names_stamp_end.result (λ b. Tells b (Names log untold caller kept what w))) (sym c.in-StampEnd.is)
    (c.names_stamp_end.ensures kept untold asked.counts s left_out)

pub returns-else-steps-eq0 : goal.returns-else-steps-eq0
returns-else-steps-eq0 c = λ kept untold asked.
    let walked = c.args.subject.now in
    let log = log_walked walked in
    let client = c.args.client in
    let caller = caller_of walked.script client in
    let what = c.args.what.now in
    let s = asked_sees walked client c.agrees.ensures.may.0 c.agrees.ensures.may.1 what c.args.answer.now kept untold
    c.args.keeping.now c.of-seen.result c.own.result c.own.ensures.own c.own.ensures.within c.of-seen.ensures.client
    c.of-seen.ensures.region c.of-seen.ensures.seen c.of-seen.ensures.known asked in
    let ids = c.ids-count.ensures ∙ asked.counts.ids in
    let left_out = left_out_of walked client what c.args.answer.now kept untold c.ids-count.result ids asked.told in
    let it = c.in-Stopped in
    subst (λ (w : Answer). IfOk c.names_begun.result (λ b. Tells b (Names log untold caller kept what w))) (sym it.is)
    (ok_to c.names_begun.result _ _
    (λ b steps. stopped_told log untold caller kept what it.steps b c.if-steps-eq0.false steps)
    (subst (BegunTold walked c.ids-count.result c.of-seen.result c.names_begun.result) c.of-seen.ensures.client c.names_begun.ensures
    kept untold s ids left_out))

pub returns-in-Based : goal.returns-in-Based
returns-in-Based c = λ kept untold asked.
    let walked = c.args.subject.now in
    let caller = caller_of walked.script c.args.client in
    let it = c.in-Based in
    subst (λ (w : Answer). Tells c.names_trim.result (Names (log_walked walked) untold caller kept c.args.what.now w)) (sym it.is)
    (c.names_trim.ensures kept untold it.base asked.counts)

pub returns-in-Decided : goal.returns-in-Decided
returns-in-Decided c = λ kept untold asked.
    let walked = c.args.subject.now in
    let log = log_walked walked in
    let client = c.args.client in
    let caller = caller_of walked.script client in
    let what = c.args.what.now in
    let s = asked_sees walked client c.agrees.ensures.may.0 c.agrees.ensures.may.1 what c.args.answer.now kept untold
    c.args.keeping.now c.of-seen.result c.own.result c.own.ensures.own c.own.ensures.within c.of-seen.ensures.client
    c.of-seen.ensures.region c.of-seen.ensures.seen c.of-seen.ensures.known asked in
    let it = c.in-Decided in
    subst (λ (w : Answer). NamesLow w → Tells c.names_decided.result (Names log untold caller kept what w)) (sym it.is)
    (λ low. decide_as walked it.sync it.raises c.as_slice-in-Decided.result.now it.syncs c.as_slice-in-Decided-2.result.now it.ended
    c.of-seen.result c.names_decided.result c.as_slice-in-Decided.ensures c.as_slice-in-Decided-2.ensures c.names_decided.ensures caller kept
    untold it.read_stamp s low.0 low.1 low.2 low.3)
    asked.low

pub returns-in-Moved : goal.returns-in-Moved
returns-in-Moved c = λ kept untold asked.
    let walked = c.args.subject.now in
    let log = log_walked walked in
    let client = c.args.client in
    let caller = caller_of walked.script client in
    let what = c.args.what.now in
    let s = asked_sees walked client c.agrees.ensures.may.0 c.agrees.ensures.may.1 what c.args.answer.now kept untold
    c.args.keeping.now c.of-seen.result c.own.result c.own.ensures.own c.own.ensures.within c.of-seen.ensures.client
    c.of-seen.ensures.region c.of-seen.ensures.seen c.of-seen.ensures.known asked in
    let it = c.in-Moved in
    subst (λ (w : Answer). NamesLow w → Tells c.names_look.result (Names log untold caller kept what w)) (sym it.is)
    (λ low. c.names_look.ensures caller kept s low) asked.low

pub returns-in-Took : goal.returns-in-Took
returns-in-Took c = λ kept untold asked.
    let walked = c.args.subject.now in
    let log = log_walked walked in
    let client = c.args.client in
    let caller = caller_of walked.script client in
    let what = c.args.what.now in
    let s = asked_sees walked client c.agrees.ensures.may.0 c.agrees.ensures.may.1 what c.args.answer.now kept untold
    c.args.keeping.now c.of-seen.result c.own.result c.own.ensures.own c.own.ensures.within c.of-seen.ensures.client
    c.of-seen.ensures.region c.of-seen.ensures.seen c.of-seen.ensures.known asked in
    let it = c.in-Took in
    subst (λ (w : Answer). NamesLow w → Tells c.names_took.result (Names log untold caller kept what w)) (sym it.is)
    (λ low. c.names_took.ensures caller kept untold (stamp_told log caller kept None (it.point ∷ [])) s low.0 low.1) asked.low

pub returns-in-Ruled : goal.returns-in-Ruled
returns-in-Ruled c = λ kept untold asked.
    let walked = c.args.subject.now in
    let log = log_walked walked in
    let client = c.args.client in
    let caller = caller_of walked.script client in
    let what = c.args.what.now in
    let s = asked_sees walked client c.agrees.ensures.may.0 c.agrees.ensures.may.1 what c.args.answer.now kept untold
    c.args.keeping.now c.of-seen.result c.own.result c.own.ensures.own c.own.ensures.within c.of-seen.ensures.client
    c.of-seen.ensures.region c.of-seen.ensures.seen c.of-seen.ensures.known asked in
    let ids = c.ids-count.ensures ∙ asked.counts.ids in
    let left_out = left_out_of walked client what c.args.answer.now kept untold c.ids-count.result ids asked.told in
    let it = c.in-Ruled in
    let result = c.names_commit.result in
    let stamp = stamp_told log caller kept it.row it.points in
    let one = subst (CommitTold walked c.ids-count.result it.row c.as_slice-in-Ruled.result.now c.as_slice-in-Ruled-2.result.now
    c.as_slice-in-Ruled-3.result.now c.of-seen.result result) c.of-seen.ensures.client c.names_commit.ensures in
    let two = subst (λ (l : List PointPiece). CommitTold walked c.ids-count.result it.row l c.as_slice-in-Ruled-2.result.now
    c.as_slice-in-Ruled-3.result.now c.of-seen.result result client) c.as_slice-in-Ruled.ensures one in
    let three = subst (λ (l : List RaisePiece). CommitTold walked c.ids-count.result it.row it.points l
    c.as_slice-in-Ruled-3.result.now c.of-seen.result result client) c.as_slice-in-Ruled-2.ensures two in
    let all = subst (λ (l : List SyncPiece). CommitTold walked c.ids-count.result it.row it.points it.raises l c.of-seen.result result
    client) c.as_slice-in-Ruled-3.ensures three in
    elim it.is [
      | inl is ↦ subst (λ (w : Answer). NamesLow w → IfOk result (λ b. Tells b (Names log untold caller kept what w))) (sym is.3)
          (λ low. all kept untold stamp s ids left_out low.0 low.1 low.2) asked.low
      | inr is ↦ subst (λ (w : Answer). NamesLow w → IfOk result (λ b. Tells b (Names log untold caller kept what w))) (sym is.3)
          (λ low. all kept untold stamp s ids left_out low.0 low.1 low.2) asked.low
    ]

pub returns-in-Scanned : goal.returns-in-Scanned
returns-in-Scanned c = λ kept untold asked.
    let walked = c.args.subject.now in
    let log = log_walked walked in
    let client = c.args.client in
    let caller = caller_of walked.script client in
    let what = c.args.what.now in
    let s = asked_sees walked client c.agrees.ensures.may.0 c.agrees.ensures.may.1 what c.args.answer.now kept untold
    c.args.keeping.now c.of-seen.result c.own.result c.own.ensures.own c.own.ensures.within c.of-seen.ensures.client
    c.of-seen.ensures.region c.of-seen.ensures.seen c.of-seen.ensures.known asked in
    let it = c.in-Scanned in
    let b = c.names_read.result in
    let told = read_arm log caller kept it.raises it.syncs c.of-seen.result c.as_slice-in-Scanned.result.now
    c.as_slice-in-Scanned-2.result.now b c.as_slice-in-Scanned.ensures c.as_slice-in-Scanned-2.ensures
    (λ by k stamp. Sees by (kept_after_read log by k stamp c.as_slice-in-Scanned.result.now c.as_slice-in-Scanned-2.result.now)
    c.names_read.new.self) c.names_read.ensures s in
    elim it.is [
      | inl is ↦ subst (λ (w : Answer). NamesLow w → Tells b (Names log untold caller kept what w)) (sym is.2) told asked.low
      | inr more ↦ elim more [
        | inl is ↦ subst (λ (w : Answer). NamesLow w → Tells b (Names log untold caller kept what w)) (sym is.2) told asked.low
        | inr is ↦ subst (λ (w : Answer). NamesLow w → Tells b (Names log untold caller kept what w)) (sym is.2) told asked.low
      ]
    ]

pub returns-in-Synced : goal.returns-in-Synced
returns-in-Synced c = λ kept untold asked.
    let walked = c.args.subject.now in
    let log = log_walked walked in
    let client = c.args.client in
    let caller = caller_of walked.script client in
    let what = c.args.what.now in
    let s = asked_sees walked client c.agrees.ensures.may.0 c.agrees.ensures.may.1 what c.args.answer.now kept untold
    c.args.keeping.now c.of-seen.result c.own.result c.own.ensures.own c.own.ensures.within c.of-seen.ensures.client
    c.of-seen.ensures.region c.of-seen.ensures.seen c.of-seen.ensures.known asked in
    let it = c.in-Synced in
    let b = c.names_sync.result in
    let told = λ (low : it.sync.colour < MAX_COLOURS). and_told _ _ b (c.names_sync.ensures caller kept s low) in
    elim it.is [
      | inl is ↦ subst (λ (w : Answer). NamesLow w → Tells b (Names log untold caller kept what w)) (sym is.1) told asked.low
      | inr more ↦ elim more [
        | inl is ↦ subst (λ (w : Answer). NamesLow w → Tells b (Names log untold caller kept what w)) (sym is.1) told asked.low
        | inr last ↦ elim last [
          | inl is ↦ subst (λ (w : Answer). NamesLow w → Tells b (Names log untold caller kept what w)) (sym is.1) told asked.low
          | inr is ↦ subst (λ (w : Answer). NamesLow w → Tells b (Names log untold caller kept what w)) (sym is.1) told asked.low
        ]
      ]
    ]
