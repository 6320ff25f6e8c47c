-- Nodes up to a stamp have texts of one form by finds that agree below it.
use Rattle.std.proofs.Common.{◌≡◌, ◌⊎◌, ◌∙◌, ap, sym, subst, ℕ, suc, ◌<◌, ◌≤◌, List, [], ◌∷◌, length, take, Some, inl, inr, arith}
use Rattle.std.specs.Prelude.{slice_get}
use Rattle.std.specs.List.{All, AllZip}
use Rattle.std.proofs.lemmas.List.{take_all}
use Rattle.std.proofs.lemmas.List.Elements.{All-contains}
use Rattle.std.proofs.lemmas.Option.{slice_get_within}
use Rattle.log_node.specs.declared.forms.Form.{Form}
use Rattle.log_node.specs.declared.forms.Version.{Version}
use Rattle.log_node.specs.declared.ids.Key.{Key}
use Rattle.log_node.specs.declared.node.Node.{Node}
use Rattle.object_form.specs.Readings.{form_of}
use Rattle.part_fold.specs.Laws.{DecisionsArePlain}
use Rattle.col_core.specs.declared.Entry.{Entry}
use Rattle.col_core.specs.History.{line}
use Rattle.col_core.specs.Keeping.{Kept, nothing_kept}
use Rattle.col_core.specs.Log.{Log}
use Rattle.col_core.proofs.CallerLemmas.{In, all_in, contains_in, in_contains, in_map}
use Rattle.column_track.specs.Tracks.{Tracked}
use Rattle.playback.specs.Laws.{RegionOrderIsLawful}
use Rattle.script_text.specs.Fitting.{IsFitting}
use Rattle.script_text.specs.declared.commands.What.{What}
use Rattle.script_text.specs.declared.commands.What.TheVariants as whats
use Rattle.script_text.specs.declared.script.Command.{Command}
use Rattle.script_text.specs.declared.script.Script.{Script}
use Rattle.report_text.specs.declared.report.Answer.{Answer}
use Rattle.report_text.specs.declared.report.Answer.TheVariants as answers
use Rattle.report_text.specs.declared.report.ReplyLine.{ReplyLine}
use Rattle.report_text.specs.declared.report.Report.{Report}
use Rattle.lawful_run.specs.Callers.{Caller, caller_of, commands_of}
use Rattle.lawful_run.specs.Deeds.{ADecision, IsText}
use Rattle.run_rules.specs.Agreeing.{AreNodesAlike, HasColumn}
use Rattle.run_rules.specs.Computing.{account_finding, answer_in, any_decisions, finds_of, stamp_read}
use Rattle.run_rules.specs.Keeping.{Keeps, RulesTo}
use Rattle.run_rules.specs.Laws.{FindsTell, FoundAccountDecides}
use Rattle.run_rules.specs.Telling.{IsWellFormed, places_shown, replies_to, step_finding, steps_finding}
use Rattle.run_rules.specs.Told.{Account, IsTold, kept_past}
use Rattle.run_rules.proofs.CallerLemmas.{FoundBelow, NodeBelow, SameFound, found_keys_of, keeps_fewer, keys_above, nodes_below, told_accounts_agree, told_nodes_agree, zip_at}
use Rattle.object_law.specs.Found.{AreFoundBelow, StandsAs, TextsStand, form_in, stamped_keys}
use Rattle.object_law.specs.KeysRead.{whole_lines}
use Rattle.walk_law.specs.Finds.{FindsKeys}
use Rattle.walk_law.specs.Walking.{MayWalk, Walked, journal_walked, log_walked}
use Rattle.object_law.proofs.ObjectOrders.{rising}

-- the texts of two decisions have one form
forms_same : DecisionsArePlain → (t u : List ℕ) → (t ≡ u) ⊎ (IsText ADecision t × IsText ADecision u) → form_of t ≡ form_of u
forms_same plain t u (inl e) = ap form_of e
forms_same plain t u (inr d) = ap form_of d.0.1 ∙ (plain d.0.0 ∙ (sym (plain d.1.0) ∙ ap form_of (sym d.1.1)))

-- so below a stamp has the node whose floor is below it
form_below : DecisionsArePlain → (w : ℕ) (p q : Node) → p.floor < w → NodeBelow w p q → form_of p.text ≡ form_of q.text
form_below plain w p q lt (inl le) = absurd (let f : ⊥ = omega (arith, lt, le) in f)
form_below plain w p q lt (inr have) = forms_same plain p.text q.text have

-- reads below a stamp found the same
same_read : (w : ℕ) (what : What) (answer : Answer) (f g : List Version) → (stamp_read answer < w → f ≡ g)
    → SameFound w what answer f g
same_read w (whats.Read object asked) (answers.GotKeys stamp shown raises syncs) f g same = same
same_read w _ _ f g same = tt

-- so it is of steps of the same commands with the same replies
steps_alike : (w : ℕ) (one two : Log) (caller : Caller) (shown : ℕ → ℕ → List ℕ) (f g : ℕ → List Version) (a b : Kept)
    (cs : List Command) (rs : List ReplyLine)
    → ((k : ℕ) → stamp_read (answer_in (slice_get rs k)) < w → f k ≡ g k)
    → AllZip (FoundBelow w) (steps_finding one caller shown f a cs rs) (steps_finding two caller shown g b cs rs)
steps_alike w one two caller shown f g a b [] rs same = tt
steps_alike w one two caller shown f g a b (c ∷ cs) [] same = tt
steps_alike w one two caller shown f g a b (c ∷ cs) (r ∷ rs) same = (
  same_read w c.what r.answer (f 0) (g 0) (same 0),
  steps_alike w one two caller shown (λ k. f (suc k)) (λ k. g (suc k))
      (kept_past one caller (step_finding one caller shown (f 0) a c r))
      (kept_past two caller (step_finding two caller shown (g 0) b c r)) cs rs (λ k. same (suc k)),
)

module _ (tell : FindsTell) (decide : FoundAccountDecides) (walked : Walked) (fits : IsFitting walked.script)
    (keeps : Keeps walked.script walked.report 9) where
  abbrev script : Script
  script = walked.script

  abbrev report : Report
  report = walked.report

  abbrev a : Account
  a = keeps.0

  -- an account by finds of the keys that replies show
  module _ (found : ℕ → ℕ → List Version) (keys : FindsKeys walked.report found) where
    abbrev finding : Account
    finding = account_finding script report found any_decisions

    five : IsWellFormed script report × RulesTo script report finding 5
    five = (decide script report found any_decisions fits keys 5 (omega arith) (omega arith)).0
        (keeps_fewer script report 5 9 (omega arith) keeps)

    told : IsTold script report finding
    told = tell script report finding.log.nodes found five.0 keys

    pub histories : (region colour : ℕ) → HasColumn script region colour
        → a.log.histories region colour ≡ journal_walked walked region colour
    histories region colour has =
        (told_accounts_agree script report a finding fits keeps.1 told keeps.2.0.0.0.0.0 five.1.0).histories region colour has

  module _ (plain : DecisionsArePlain) (w : ℕ) (found : ℕ → ℕ → List Version) (are : AreFoundBelow walked w found) where
    abbrev one : Account
    one = account_finding script report found any_decisions

    abbrev all : Account
    all = account_finding script report (finds_of script report) any_decisions

    alike : (n : ℕ) → AllZip (FoundBelow w) (one.steps n) (all.steps n)
    alike n =
        steps_alike w one.log all.log (caller_of script n) (places_shown script report n) (found n) (finds_of script report n) nothing_kept
        nothing_kept (commands_of script n) (replies_to report n) (are.below n)

    -- a key of a line
    module _ (region colour : ℕ) (has : HasColumn script region colour) (key : Key)
        (i : In key (line (journal_walked walked region colour))) (le : key.stamp ≤ w) where
      in_first : In key (line (take (length (a.log.histories region colour)) (a.log.histories region colour)))
      in_first =
          let h = a.log.histories region colour in
          subst (λ (es : List Entry). In key (line es))
          (sym (histories found are.keys region colour has) ∙ sym (take_all (length h) h (omega arith))) i

      stands : StandsAs walked found key
      stands =
          let h = a.log.histories region colour in
          let n = key.id.client in
          let above = keys_above script report a fits keeps.1 keeps.2 region colour has key (length h) in_first in
          let mine = zip_at AreNodesAlike (a.log.nodes n) (one.log.nodes n)
          (told_nodes_agree script report a one fits keeps.1 (told found are.keys) keeps.2.0.0.0.0 (five found are.keys).1 n above.client
          above.shown) key.id.count above.node above.there in
          let floor = mine.2.floor in
          let below = above.below in
          let its = zip_at (NodeBelow w) (one.log.nodes n) (all.log.nodes n)
          (nodes_below plain script report one all fits (told found are.keys) (told (finds_of script report) (found_keys_of script report))
          (five found are.keys).1 (five (finds_of script report) (found_keys_of script report)).1
          (λ r k c j events b.
          let up = keys_above script report a fits keeps.1 keeps.2 r k c j events
          (subst (λ (es : List Entry). In j (line (take events es))) (sym (histories found are.keys r k c)) b) in
          let beside = zip_at AreNodesAlike (a.log.nodes j.id.client) (one.log.nodes j.id.client)
          (told_nodes_agree script report a one fits keeps.1 (told found are.keys) keeps.2.0.0.0.0 (five found are.keys).1 j.id.client
          up.client up.shown) j.id.count up.node up.there in record {
            client = up.client;
            shown = up.shown;
            node = beside.0;
            there = beside.1;
            its_id = sym beside.2.id ∙ up.its_id;
            below = subst (λ (m : ℕ). m < j.stamp) beside.2.floor up.below;
          })
          n above.client above.shown w (alike n)) key.id.count mine.0 mine.1 in
          let form : form_of mine.0.text ≡ form_of its.0.text =
          form_below plain w mine.0 its.0 (omega (arith, floor, below, le)) its.2 in record {
            client = slice_get_within report.clients n above.client above.shown;
            form = ap form_in mine.1 ∙ (ap (λ (f : Form). Some f) form ∙ sym (ap form_in its.1));
          }

    module _ (ordered : RegionOrderIsLawful) (tracks : List Tracked) (may : MayWalk walked.script walked.report tracks) (region : ℕ)
        (low : region < walked.script.shape.regions) (colours : List ℕ)
        (within : All (λ colour. colour < walked.script.shape.colours) colours) where
      all_stand : All (StandsAs walked found) (stamped_keys walked region colours w)
      all_stand =
          let keys = stamped_keys walked region colours w in
          let lines = whole_lines (log_walked walked) region colours in
          all_in (StandsAs walked found) keys (λ key i.
          let o = (ordered w lines (rising ordered walked tracks may region low colours within)).no_other key (contains_in keys key i) in
          let m = in_map (λ colour. line (journal_walked walked region colour)) colours o.1 (in_contains lines o.1 o.2) in
          let stamp_low = o.0 in
          stands region m.0
          (low, All-contains (λ (c : ℕ). c < walked.script.shape.colours) colours m.0 within (contains_in colours m.0 m.1)) key
          (subst (In key) (sym m.2) (in_contains o.1 key o.3)) stamp_low)

pub texts_stand : FindsTell → FoundAccountDecides → RegionOrderIsLawful → DecisionsArePlain → TextsStand
texts_stand tell decide ordered plain walked tracks may keeps stamp found are region low colours within =
    all_stand tell decide walked may.fitting keeps plain stamp found are ordered tracks may region low colours within
