use Rattle.std.proofs.Common.{◌∙◌, Bool, IfOk, List, ap, refl, subst, sym, ℕ}
use Rattle.log_node.specs.declared.ids.Id.{Id}
use Rattle.log_node.specs.declared.ids.Key.{Key}
use Rattle.report_text.specs.declared.report.Answer.{Answer}
use Rattle.report_text.specs.declared.report.KeyAnswer.{KeyAnswer}
use Rattle.report_text.specs.declared.report.SyncPiece.{SyncPiece}
use Rattle.lawful_run.specs.Callers.{caller_of}
use Rattle.lawful_run.specs.Deeds.{colours_synced}
use Rattle.lawful_run.specs.Explains.{ShowsVerdict}
use Rattle.column_track.specs.Tracks.{Tells}
use Rattle.run_rules.specs.Answering.{CanHave}
use Rattle.run_rules.specs.Shown.{own_key}
use Rattle.run_rules.specs.Telling.{replies_to}
use Rattle.run_rules.specs.Told.{stamp_told}
use Rattle.walk_law.specs.Walking.{log_walked}
use Rattle.object_law.specs.Tenth.{AreValuesAsked, IsRightAnswer, stamped_nodes}
use Rattle.object_law.specs.TenthPlays.{AreBelow, sync_colours}
use Rattle.object_law.proofs.TenthSteps.{commit_low, keys_low, own_is, take_low}
use Rattle.object_law.proofs.tenth.AnswerPlays.is_right.Goals as goal

pub returns-in-GotKeys-clause-told : goal.returns-in-GotKeys-clause-told
returns-in-GotKeys-clause-told c = λ kept lines counted can cut.
    let walked = c.args.subject.now in
    let caller = caller_of walked.script c.args.client in
    let what = c.args.what.now in
    let table = c.args.nodes.now in
    let g = c.in-GotKeys in
    let have = subst (CanHave caller kept what lines) g.is can in
    let result = c.reads_right.result in
    let low = keys_low walked.script c.agrees.ensures.may.1.fitting c.args.client what _ have.1 g.syncs have.2.1 in
    let told = c.reads_right.ensures.told
    (subst (λ (ss : List SyncPiece). AreBelow walked.script.shape.colours (sync_colours ss)) (sym c.as_slice-in-GotKeys-2.ensures) low) in
    subst (λ (a : Answer). IfOk result (λ (b : Bool). Tells b (IsRightAnswer walked table caller kept what a))) (sym g.is)
    (subst (λ (ks : List KeyAnswer). IfOk result (λ (b : Bool). Tells b
    (AreValuesAsked caller what ks (stamped_nodes walked table caller.own (colours_synced caller what) g.stamp))))
    c.as_slice-in-GotKeys.ensures
    (subst (λ (cs : List ℕ). IfOk result (λ (b : Bool). Tells b
    (AreValuesAsked caller what c.as_slice-in-GotKeys.result.now (stamped_nodes walked table caller.own cs g.stamp))))
    (ap (λ (ss : List SyncPiece). sync_colours ss) c.as_slice-in-GotKeys-2.ensures ∙ have.2.1) told))

pub returns-in-Ruled-clause-told : goal.returns-in-Ruled-clause-told
returns-in-Ruled-clause-told c = λ kept lines counted can cut.
    let walked = c.args.subject.now in
    let client = c.args.client in
    let caller = caller_of walked.script client in
    let what = c.args.what.now in
    let table = c.args.nodes.now in
    let g = c.in-Ruled in
    let have = subst (CanHave caller kept what lines) g.is can in
    let result = c.shows_verdict.result in
    let stamp = stamp_told (log_walked walked) caller kept g.row g.points in
    let told = c.stamp_told.ensures (replies_to walked.report client) kept counted
    ∙ ap (stamp_told (log_walked walked) caller kept g.row) c.as_slice-in-Ruled.ensures in
    let own = own_is client caller kept c.stamp_told.result stamp c.next_id.result refl
    (c.next_id.ensures ∙ ap (λ (m : ℕ). let i : Id = record { client = client; count = m } in i) counted.ids) told in
    let low = commit_low walked.script c.agrees.ensures.may.1.fitting client what have.1 g.syncs have.3.1 in
    let shows = c.shows_verdict.ensures.told
    (subst (λ (ss : List SyncPiece). AreBelow walked.script.shape.colours (sync_colours ss)) (sym c.as_slice-in-Ruled-2.ensures) low) in
    subst (λ (a : Answer). IfOk result (λ (b : Bool). Tells b (IsRightAnswer walked table caller kept what a))) (sym g.is)
    (subst (λ (cs : List ℕ). IfOk result (λ (b : Bool). Tells b
    (ShowsVerdict g.conflict g.stamp (own_key caller kept stamp) (stamped_nodes walked table caller.own cs g.read_stamp))))
    (ap (λ (ss : List SyncPiece). sync_colours ss) c.as_slice-in-Ruled-2.ensures ∙ have.3.1)
    (subst (λ (k : Key). IfOk result (λ (b : Bool). Tells b (ShowsVerdict g.conflict g.stamp k
    (stamped_nodes walked table caller.own (sync_colours c.as_slice-in-Ruled-2.result.now) g.read_stamp)))) own shows))

pub returns-in-Took-clause-told : goal.returns-in-Took-clause-told
returns-in-Took-clause-told c = λ kept lines counted can cut.
    let walked = c.args.subject.now in
    let caller = caller_of walked.script c.args.client in
    let what = c.args.what.now in
    let g = c.in-Took in
    let have = subst (CanHave caller kept what lines) g.is can in
    subst (λ (a : Answer). IfOk c.takes_front.result (λ (b : Bool). Tells b (IsRightAnswer walked c.args.nodes.now caller kept what a)))
    (sym g.is)
    (c.takes_front.ensures.told
    (take_low walked.script c.agrees.ensures.may.1.fitting c.args.client what kept g.point have.1 have.2))
