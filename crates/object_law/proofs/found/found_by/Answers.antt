use Rattle.std.proofs.Common.{◌≡◌, ◌∙◌, ◌<◌, ap, subst, sym, List, Some, ℕ}
use Rattle.std.specs.List.{All}
use Rattle.log_node.specs.declared.forms.Version.{Version}
use Rattle.log_node.proofs.CallerLemmas.{ok_then}
use Rattle.object_fold.specs.Transactions.{versions_after}
use Rattle.report_text.specs.declared.report.Answer.TheVariants as answers
use Rattle.report_text.specs.declared.report.KeyAnswer.{KeyAnswer}
use Rattle.report_text.specs.declared.report.SyncPiece.{SyncPiece}
use Rattle.lawful_run.specs.Callers.{caller_of}
use Rattle.run_rules.specs.Computing.{answer_in, answer_to, finds_of, keys_shown}
use Rattle.object_law.specs.Found.{colours_read, found_nodes, read_stamp, stamped_keys}
use Rattle.object_law.proofs.found.found_by.Goals as goal

pub find-requires-clause-colours : goal.find-requires-clause-colours
find-requires-clause-colours c =
    let walked = c.args.subject.now in
    let r = c.args.read in
    let g = c.in-GotKeys in
    let told : answer_to walked.report r.client r.place ≡ answers.GotKeys g.stamp g.keys g.raises g.syncs =
    ap answer_in c.reply.ensures ∙ g.is in
    let law = c.versions_stand.ensures walked c.agrees.ensures.may.0 c.agrees.ensures.may.1 c.requires.keeps r.client r.place g.stamp g.keys
    g.raises g.syncs told in
    subst (λ (cs : List ℕ). All (λ colour. colour < walked.script.shape.colours) cs)
    (sym (c.in_ok-colours-in-GotKeys.ensures ∙ ap (λ (ss : List SyncPiece). colours_read ss) c.as_slice.ensures)) law.0

pub returns-in_ok-colours-in-GotKeys-clause-found : goal.returns-in_ok-colours-in-GotKeys-clause-found
returns-in_ok-colours-in-GotKeys-clause-found c =
    let walked = c.args.subject.now in
    let r = c.args.read in
    let g = c.in-GotKeys in
    let own = (caller_of walked.script r.client).own in
    let told : answer_to walked.report r.client r.place ≡ answers.GotKeys g.stamp g.keys g.raises g.syncs =
    ap answer_in c.reply.ensures ∙ g.is in
    let stamps : Some g.stamp ≡ Some r.stamp = sym (ap read_stamp told) ∙ c.requires.read.stamp in
    let stamp : g.stamp ≡ r.stamp = cc (stamps) in
    let law = c.versions_stand.ensures walked c.agrees.ensures.may.0 c.agrees.ensures.may.1 c.requires.keeps r.client r.place g.stamp g.keys
    g.raises g.syncs told in
    let colours = c.in_ok-colours-in-GotKeys.ensures ∙ ap (λ (ss : List SyncPiece). colours_read ss) c.as_slice.ensures in
    let Left : ℕ → List ℕ → ℕ → List KeyAnswer → List Version =
    λ region cs t shown. versions_after (found_nodes walked (stamped_keys walked region cs t)) (keys_shown shown) in
    let mine = c.in_ok-colours-in-GotKeys.colours in
    let shown = c.as_slice-in-GotKeys.result.now in
    let same : Left c.own.result mine r.stamp shown ≡ Left own (colours_read g.syncs) g.stamp g.keys =
    ap (λ (region : ℕ). Left region mine r.stamp shown) c.own.ensures.own
    ∙ (ap (λ (cs : List ℕ). Left own cs r.stamp shown) colours
    ∙ (ap (λ (t : ℕ). Left own (colours_read g.syncs) t shown) (sym stamp)
    ∙ ap (λ (ks : List KeyAnswer). Left own (colours_read g.syncs) g.stamp ks) c.as_slice-in-GotKeys.ensures)) in
    ok_then c.find.result (λ (f : List Version). f ≡ Left c.own.result mine r.stamp shown)
    (λ (f : List Version). f ≡ finds_of walked.script walked.report r.client r.place) (λ f e. e ∙ (same ∙ sym law.1)) c.find.ensures.found
