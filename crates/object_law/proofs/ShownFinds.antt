-- At the account with what reads found and node lines show reads found what they had to: the texts that are shown have the forms of
-- those that are told.
use Rattle.std.proofs.Common.{◌≡◌, ◌⊎◌, ◌∙◌, false, refl, ap, sym, subst, ℕ, ◌<◌, List, [], ◌∷◌, map, take, Option, Some, None, inl, inr}
use Rattle.std.specs.Prelude.{slice_get}
use Rattle.std.specs.List.{All, fold}
use Rattle.std.proofs.lemmas.List.Elements.{All-contains}
use Rattle.log_node.specs.declared.forms.Version.{Version}
use Rattle.log_node.specs.declared.ids.Key.{Key}
use Rattle.log_node.specs.declared.node.Node.{Node}
use Rattle.log_node.specs.Seen.{PlacedNode}
use Rattle.object_form.specs.Readings.{form_of}
use Rattle.object_fold.specs.Nodes.{ObjectNode}
use Rattle.object_fold.specs.Transactions.{Write, writer_of, writes_with}
use Rattle.part_fold.specs.Laws.{DecisionsArePlain}
use Rattle.col_core.specs.History.{line}
use Rattle.col_core.proofs.CallerLemmas.{In, all_in, contains_in, in_contains, in_map, in_map-back}
use Rattle.script_text.specs.Fitting.{IsFitting}
use Rattle.script_text.specs.declared.commands.What.{What}
use Rattle.script_text.specs.declared.commands.What.TheVariants as whats
use Rattle.script_text.specs.declared.script.Script.{Script}
use Rattle.report_text.specs.declared.report.Answer.{Answer}
use Rattle.report_text.specs.declared.report.Answer.TheVariants as answers
use Rattle.report_text.specs.declared.report.ClientReport.{ClientReport}
use Rattle.report_text.specs.declared.report.Report.{Report}
use Rattle.report_text.specs.declared.report.SyncPiece.{SyncPiece}
use Rattle.lawful_run.specs.Callers.{Caller, caller_of, commands_of}
use Rattle.lawful_run.specs.Deeds.{ADecision, IsText, colours_synced}
use Rattle.lawful_run.specs.Objects.{AreObjectNodes, IsObjectNode}
use Rattle.lawful_run.specs.Reads.{lines_read}
use Rattle.col_core.specs.Keeping.{Kept, nothing_kept}
use Rattle.run_rules.specs.Answering.{CanHave}
use Rattle.run_rules.specs.Computing.{account_finding, any_decisions, finds_of}
use Rattle.run_rules.specs.Deciding.{account_showing}
use Rattle.run_rules.specs.Finding.{IsFound}
use Rattle.run_rules.specs.Keeping.{Keeps, RulesTo}
use Rattle.run_rules.specs.Laws.{ComputedAccountAgrees, ComputedFindsAreRight, FindsTell}
use Rattle.run_rules.specs.Rules.{IsReplyTo, Rule1}
use Rattle.run_rules.specs.Said.{shown_text, with_text}
use Rattle.run_rules.specs.Telling.{IsWellFormed, places_shown, replies_to}
use Rattle.run_rules.specs.Told.{Account, IsTold, Step, kept_at}
use Rattle.run_rules.proofs.CallerLemmas.{all_at, finding_one, keys_above, rule1, slice_mapped}
use Rattle.object_law.specs.Showing.{SaysShown, ShowingIsFound, ShownAreFound}
use Rattle.object_law.specs.Tenth.{ShownFindsAreRight}
use Rattle.walk_law.proofs.CallerLemmas.{synced_within}
use Rattle.walk_law.proofs.CallerLemmas.{home_low, its_within_shown as its_within, told_shown as told}

-- what a node writes
abbrev write : List Write → ObjectNode → List Write
write writes node = writes_with node.key writes (form_of node.text)

module _ (tell : FindsTell) (agrees : ComputedAccountAgrees) (showing : ShowingIsFound) (right : ComputedFindsAreRight)
    (plain : DecisionsArePlain) (script : Script) (report : Report) (fits : IsFitting script) (well : IsWellFormed script report)
    (rules : RulesTo script report (account_showing script report) 9) where
  abbrev full : Account
  full = account_showing script report

  abbrev bare : Account
  bare = account_finding script report (finds_of script report) any_decisions

  is_told : IsTold script report full
  is_told = told tell agrees script report fits well rules.0.0.0.0.0

  keeps : Keeps script report 9
  keeps = (full, is_told, rules)

  are : ShownAreFound script report
  are = (showing script report fits keeps).1 rules

  first : Rule1 script report full
  first = rule1 rules.0.0.0.0.0.0.0.0.1

  abbrev shows : Node → Node
  shows node = with_text (shown_text report node.id) node

  -- a node with the text that is shown of it has its id and its form
  id_kept : (node : Node) → (shows node).id ≡ node.id
  id_kept node = by (shown_text report node.id) where
    by : (o : Option (List ℕ)) → (with_text o node).id ≡ node.id
    by None = refl
    by (Some text) = refl

  form_kept : (node : Node) → SaysShown false report node → form_of (shows node).text ≡ form_of node.text
  form_kept node says = by (shown_text report node.id) refl where
    same : (text : List ℕ) → (node.text ≡ text) ⊎ (IsText ADecision node.text × IsText ADecision text)
        → form_of text ≡ form_of node.text
    same text (inl e) = ap form_of (sym e)
    same text (inr d) = ap form_of d.1.1 ∙ (plain d.1.0 ∙ (sym (plain d.0.0) ∙ ap form_of (sym d.0.1)))

    by : (o : Option (List ℕ)) → shown_text report node.id ≡ o → form_of (with_text o node).text ≡ form_of node.text
    by None e = refl
    by (Some text) e = same text (says text e)

  -- the client of a key is one that the report shows
  abbrev IsShownKey : Key → Type 0
  IsShownKey k = (c : ClientReport) × (slice_get report.clients k.id.client ≡ Some c)

  -- the nodes with these keys write the same
  turned : (keys : List Key) → ((k : Key) → In k keys → IsShownKey k) → (xs : List ObjectNode) → AreObjectNodes bare.log keys xs
      → (ys : List ObjectNode) × AreObjectNodes full.log keys ys × ((ws : List Write) → fold write ws xs ≡ fold write ws ys)
  turned [] f [] a = ([], tt, λ ws. refl)
  turned [] f (x ∷ xs) a = absurd a
  turned (k ∷ ks) f [] a = absurd a
  turned (k ∷ ks) f (x ∷ xs) a =
      let node : Node = a.0.appended in
      let client = f k (inl refl) in
      let says = all_at (SaysShown false report) (bare.log.nodes k.id.client) k.id.count node a.0.there
      (are k.id.client client.0 client.1) in
      let y : ObjectNode = record { key = k; colours = (shows node).colours; text = (shows node).text } in
      let rest = turned ks (λ m i. f m (inr i)) xs a.1 in
      let is : IsObjectNode full.log k y = record {
        appended = shows node;
        there = slice_mapped shows (bare.log.nodes k.id.client) k.id.count node a.0.there;
        same = id_kept node ∙ a.0.same;
        key_is = refl;
        colours = refl;
        text = refl;
      } in
      let form : form_of x.text ≡ form_of y.text = ap form_of a.0.text ∙ sym (form_kept node says) in (
        y ∷ rest.0,
        (is, rest.1),
        λ ws.
            ap (λ (w : List Write). fold write w xs)
            (ap (λ (key : Key). writes_with key ws (form_of x.text)) a.0.key_is ∙ ap (writes_with k ws) form)
            ∙ rest.2 (write ws y),
      )

  module _ (n : ℕ) (c : ClientReport) (there : slice_get report.clients n ≡ Some c) where
    abbrev it : Caller
    it = caller_of script n

    home : it.own < script.shape.regions
    home = home_low tell agrees script report fits well rules.0.0.0.0.0 n c there

    steps_are : bare.steps n ≡ full.steps n
    steps_are =
        finding_one report bare.log.nodes full.log.nodes it (places_shown script report n) (finds_of script report n) nothing_kept
        (commands_of script n) (replies_to report n)

    found_as : (x : Step) → In x (full.steps n) → (what : What) (answer : Answer) (nodes : List PlacedNode) (kept : Kept)
        → ((colour : ℕ) → In colour (colours_synced it what) → colour < script.shape.colours) → CanHave it kept what nodes answer
        → IsFound bare.log it what answer x.untold.found → IsFound full.log it what answer x.untold.found
    found_as x i (whats.Read object asked) (answers.GotKeys stamp shown raises syncs) nodes kept low can f =
        let t = turned f.0 shown_key f.2 f.3 in (
          f.0,
          f.1,
          t.0,
          t.1,
          f.4 ∙ ap (λ (ws : List Write). map (λ (key : List ℕ). let v : Version = record { key = key; writer = writer_of ws key } in v) asked) (t.2 []),
        ) where
          shown_key : (k : Key) → In k f.0 → IsShownKey k
          shown_key k j =
              let o = f.1.no_other k (contains_in f.0 k j) in
              let s = in_map (λ (p : SyncPiece). line (take p.events (full.log.histories it.own p.colour))) syncs o.1
              (in_contains (lines_read full.log it syncs) o.1 o.2) in
              let colour = low s.0.colour (subst (In s.0.colour) can.2.1 (in_map-back (λ (p : SyncPiece). p.colour) syncs s.0 s.1)) in
              let above = keys_above script report full fits is_told rules it.own s.0.colour (home, colour) k s.0.events
              (subst (In k) (sym s.2) (in_contains o.1 k o.3)) in
              (above.client, above.shown)
    found_as x i _ _ nodes kept low can f = tt

    all_found : All (λ (x : Step). IsFound full.log it x.command.what x.reply.answer x.untold.found) (full.steps n)
    all_found = all_in (λ (x : Step). IsFound full.log it x.command.what x.reply.answer x.untold.found) (full.steps n) (λ x i.
        found_as x i x.command.what x.reply.answer x.reply.nodes (kept_at x)
        (synced_within script fits n x.command.what (its_within tell agrees script report fits well rules.0.0.0.0.0 n c there x i))
        (All-contains (IsReplyTo it) (full.steps n) x (first.replies n c there) (contains_in (full.steps n) x i)).answer
        (All-contains (λ (y : Step). IsFound bare.log it y.command.what y.reply.answer y.untold.found) (full.steps n) x
        (subst (All (λ (y : Step). IsFound bare.log it y.command.what y.reply.answer y.untold.found)) steps_are
        ((right script report any_decisions fits keeps).found n c there)) (contains_in (full.steps n) x i)))

pub shown_finds_are_right : FindsTell → ComputedAccountAgrees → ShowingIsFound → ComputedFindsAreRight → DecisionsArePlain
    → ShownFindsAreRight
shown_finds_are_right tell agrees showing right plain script report fits well rules = record {
  found = all_found tell agrees showing right plain script report fits well rules;
}
