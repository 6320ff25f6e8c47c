-- What node lines show: they are of ids of clients that the report shows, and where rule 9 holds the log has their texts.
use Rattle.std.proofs.Common.{◌≡◌, ◌∙◌, refl, ap, sym, subst, Bool, true, false, ℕ, ◌<◌, List, [], ◌∷◌, map, Option, Some, None, ◌⊎◌, inl, inr}
use Rattle.std.specs.Prelude.{slice_get}
use Rattle.std.specs.List.{AllZip, find}
use Rattle.std.specs.Option.{option_map}
use Rattle.std.proofs.lemmas.List.Elements.{All-contains}
use Rattle.log_node.specs.declared.ids.Id.{Id}
use Rattle.log_node.specs.declared.ids.Key.{Key}
use Rattle.log_node.specs.Seen.{PlacedNode}
use Rattle.col_core.specs.Log.{HasText}
use Rattle.col_core.proofs.CallerLemmas.{In, by_test, contains_in, if_true, if_false, in_flat_map, in_map, in_slice, same_id-refl, same_id-true}
use Rattle.script_text.specs.declared.script.Script.{Script}
use Rattle.script_text.specs.Fitting.{IsFitting}
use Rattle.report_text.specs.declared.report.Answer.{Answer}
use Rattle.report_text.specs.declared.report.Answer.TheVariants as answers
use Rattle.report_text.specs.declared.report.ClientReport.{ClientReport}
use Rattle.report_text.specs.declared.report.ReplyLine.{ReplyLine}
use Rattle.report_text.specs.declared.report.Report.{Report}
use Rattle.report_text.specs.declared.report.SyncPiece.{SyncPiece}
use Rattle.lawful_run.specs.Callers.{Caller, caller_of}
use Rattle.lawful_run.specs.Deeds.{colours_synced}
use Rattle.lawful_run.specs.Reads.{ShowsKey, ShowsNode}
use Rattle.run_rules.specs.Told.{Step, Account, IsTold, kept_at}
use Rattle.run_rules.specs.Answering.{CanHave}
use Rattle.run_rules.specs.Shown.{Rule9, Shows}
use Rattle.run_rules.specs.Keeping.{RulesTo, all_replies}
use Rattle.run_rules.specs.Said.{is_line_of, node_lines, shown_text}
use Rattle.run_rules.proofs.HeadsTold.{head_above}
use Rattle.run_rules.proofs.KeysTold.{IsAbove, key_above, moves_named}
use Rattle.run_rules.proofs.LeftOut.{Obeys}
use Rattle.run_rules.proofs.Numbers.{rule1, rule2, rule3, rule4, rule5}
use Rattle.run_rules.proofs.OneAccount.{obeys}
use Rattle.run_rules.proofs.Reached.{home_within, synced_within}
use Rattle.run_rules.proofs.ReadsAlike.{keys_known}
use Rattle.run_rules.proofs.TextsAlike.{AreKnown}
use Rattle.run_rules.proofs.ToldAlike.{mapped_below}

-- LISTS

-- one of which a test holds is found, where there is one
find_first : {A : Type 0} (test : A → Bool) (xs : List A) (x : A) → In x xs → test x ≡ true
    → (y : A) × (In y xs × (test y ≡ true)) × (find test xs ≡ Some y)
find_first test [] x i t = absurd i
find_first {A} test (y ∷ ys) x i t =
    by_test _ (test y)
    (λ h. (y, (inl refl, h), if_true (test y) (Some y) (find test ys) h))
    (λ n. let more = find_first test ys x (later n i) t in
    (more.0, (inr more.1.0, more.1.1), if_false (test y) (Some y) (find test ys) n ∙ more.2)) where
      later : test y ≡ false → (y ≡ x) ⊎ In x ys → In x ys
      later n (inl e) = absurd (let s = ap test e in let f : ⊥ = cc (n, s, t) in f)
      later n (inr j) = j

-- and where one is found, it is one
found_in : {A : Type 0} (test : A → Bool) (xs : List A) (x : A) → find test xs ≡ Some x → In x xs × (test x ≡ true)
found_in test [] x e = absurd (let f : ⊥ = cc (e) in f)
found_in {A} test (y ∷ ys) x e =
    by_test _ (test y)
    (λ h. let is : y ≡ x = let s = sym (if_true (test y) (Some y) (find test ys) h) ∙ e in cc (s) in
    (inl is, subst (λ (z : A). test z ≡ true) is h))
    (λ n. let more = found_in test ys x (sym (if_false (test y) (Some y) (find test ys) n) ∙ e) in
    (inr more.0, more.1))

-- what stands beside an item
pub zip_before : {A B : Type 0} (R : A → B → Type 0) (xs : List A) (ys : List B) → AllZip R xs ys → (y : B) → In y ys
    → (x : A) × In x xs × R x y
zip_before R [] [] r y i = absurd i
zip_before R [] (z ∷ zs) r y i = absurd r
zip_before R (x ∷ xs) [] r y i = absurd i
zip_before {A} {B} R (x ∷ xs) (z ∷ zs) r y (inl e) = (x, inl refl, subst (λ (w : B). R x w) e r.0)
zip_before R (x ∷ xs) (z ∷ zs) r y (inr i) = let more = zip_before R xs zs r.1 y i in (more.0, inr more.1, more.2)

pub zip_behind : {A B : Type 0} (R : A → B → Type 0) (xs : List A) (ys : List B) → AllZip R xs ys → (x : A) → In x xs
    → (y : B) × In y ys × R x y
zip_behind R [] ys r x i = absurd i
zip_behind R (z ∷ zs) [] r x i = absurd r
zip_behind {A} {B} R (z ∷ zs) (y ∷ ys) r x (inl e) = (y, inl refl, subst (λ (w : A). R w y) e r.0)
zip_behind R (z ∷ zs) (y ∷ ys) r x (inr i) = let more = zip_behind R zs ys r.1 x i in (more.0, inr more.1, more.2)

-- NODE LINES

-- a node line shows the text of an id
abbrev pub ShowsText : Report → Id → List ℕ → Type 0
ShowsText report id text =
    (item : PlacedNode) × In item (node_lines report) × (item.head.key.id ≡ id) × (item.node.text ≡ text)

-- the text that is shown of an id is that of a node line
pub text_shown : (report : Report) (id : Id) (text : List ℕ) → shown_text report id ≡ Some text → ShowsText report id text
text_shown report id text e = turn (find (is_line_of id) (node_lines report)) refl e where
  turn : (found : Option PlacedNode) → find (is_line_of id) (node_lines report) ≡ found
      → option_map (λ (item : PlacedNode). item.node.text) found ≡ Some text → ShowsText report id text
  turn None is e = absurd (let f : ⊥ = cc (e) in f)
  turn (Some item) is e =
      let i = found_in (is_line_of id) (node_lines report) item is in
      (item, i.0, sym (same_id-true id item.head.key.id i.1), cc (e))

-- some text is shown of each id of a node line
pub shows_text : (report : Report) (item : PlacedNode) → In item (node_lines report)
    → (text : List ℕ) × (shown_text report item.head.key.id ≡ Some text)
shows_text report item i =
    let found = find_first (is_line_of item.head.key.id) (node_lines report) item i (same_id-refl item.head.key.id) in
    (found.0.node.text, ap (option_map (λ (x : PlacedNode). x.node.text)) found.2)

-- a node line is one of a client's replies
pub line_of_reply : (report : Report) (item : PlacedNode) → In item (node_lines report)
    → (n : ℕ) × (c : ClientReport) × (slice_get report.clients n ≡ Some c)
    × (r : ReplyLine) × In r c.replies × In item r.nodes
line_of_reply report item i =
    let r = in_flat_map (λ (r : ReplyLine). r.nodes) (all_replies report) item i in
    let c = in_flat_map (λ (c : ClientReport). c.replies) report.clients r.0 r.1 in
    let n = in_slice report.clients c.0 c.1 in
    (n.0, c.0, n.1, r.0, c.2, r.2)

-- IDS

-- the id is of a client that the report shows
abbrev pub IsShownId : Report → Id → Type 0
IsShownId report id = (c : ClientReport) × (slice_get report.clients id.client ≡ Some c)

module _ (script : Script) (report : Report) (a : Account) (fits : IsFitting script) (ta : IsTold script report a)
    (ra : RulesTo script report a 5) (ninth : Rule9 script report a) where
  shown_of : (key : Key)
      → IsAbove script report a fits ta (rule1 ra.0.0.0.0.1) (rule2 ra.0.0.0.1) (rule3 ra.0.0.1) (rule4 ra.0.1) (rule5 ra.1) (moves_named script report a ninth) key
      → IsShownId report key.id
  shown_of key x = (x.client, x.shown)

  module _ (n : ℕ) (c : ClientReport) (there : slice_get report.clients n ≡ Some c) where
    abbrev who : Caller
    who = caller_of script n

    home : who.own < script.shape.regions
    home = home_within script report fits (rule1 ra.0.0.0.0.1).names n c there

    -- so are all ids in lines and chains
    pub known_shown : AreKnown script n a.log (IsShownId report)
    known_shown = record {
      of_line = λ colour lt events key i.
          shown_of key (key_above script report a fits ta (rule1 ra.0.0.0.0.1) (rule2 ra.0.0.0.1) (rule3 ra.0.0.1)
          (rule4 ra.0.1) (rule5 ra.1) (moves_named script report a ninth) who.own colour (home, lt) key events i);
      of_chain = λ colour lt events place head s.
          shown_of head.key (head_above script report a fits ta (rule1 ra.0.0.0.0.1) (rule2 ra.0.0.0.1) (rule3 ra.0.0.1)
          (rule4 ra.0.1) (rule5 ra.1) (moves_named script report a ninth) who.own colour (home, lt) events place head s);
      of_own = λ count. (c, there);
    }

    -- the node that a line shows
    abbrev HasLine : PlacedNode → Type 0
    HasLine item = IsShownId report item.head.key.id × HasText a.log item.head.key.id item.node.text

    at_key : (item : PlacedNode) (key : Key) → item.head.key ≡ key → IsShownId report key.id
        → HasText a.log key.id item.node.text → HasLine item
    at_key item key is shown text =
        subst (λ (k : Key). IsShownId report k.id × HasText a.log k.id item.node.text) (sym is) (shown, text)

    line_has : (s : Step) → Obeys script a.log who s → (answer : Answer) → s.reply.answer ≡ answer
        → Shows a.log s.untold who (kept_at s) s.command.what s.reply.nodes s.reply.answer
        → (item : PlacedNode) → In item s.reply.nodes → HasLine item
    line_has s o answer is shows item i = by answer (subst (CanHave who (kept_at s) s.command.what s.reply.nodes) is o.can)
        (subst (Shows a.log s.untold who (kept_at s) s.command.what s.reply.nodes) is shows) where
          none : s.reply.nodes ≡ [] → HasLine item
          none e = absurd (subst (In item) e i)

          low : (colours : List ℕ) (syncs : List SyncPiece) → colours_synced who s.command.what ≡ colours
              → map (λ (p : SyncPiece). p.colour) syncs ≡ colours → (p : SyncPiece) → In p syncs
              → p.colour < script.shape.colours
          low colours syncs e all =
              mapped_below script.shape.colours (λ (p : SyncPiece). p.colour) syncs (colours_synced who s.command.what)
              (all ∙ sym e) (synced_within script fits n s.command.what o.within)

          by : (given : Answer) → CanHave who (kept_at s) s.command.what s.reply.nodes given
              → Shows a.log s.untold who (kept_at s) s.command.what s.reply.nodes given → HasLine item
          by answers.NoMemory can x = none can
          by (answers.Synced sync plays) can x =
              let lt : sync.colour < script.shape.colours =
              synced_within script fits n s.command.what o.within sync.colour
              (subst (In sync.colour) (sym (ap (colours_synced who) can)) (inl refl)) in
              let z = zip_before (ShowsNode a.log who sync.colour sync.events) x.2.order s.reply.nodes x.2.lines item i in
              at_key item z.2.head.key z.2.key (known_shown.of_chain sync.colour lt sync.events z.0 z.2.head z.2.stands) z.2.text
          by (answers.Scanned stamp count raises syncs) can x =
              let z = zip_before (ShowsKey a.log) x.2 s.reply.nodes x.4 item i in
              at_key item z.0 z.2.0
              (keys_known script n a.log a.log (λ r k has. refl) home refl (IsShownId report) known_shown stamp syncs x.2
              (low (colours_synced who s.command.what) syncs refl (can.2.1 ∙ sym (ap (colours_synced who) can.1))) x.3 z.0 z.1)
              z.2.1
          by _ can x = none can.0

  -- the log has what node lines show, of clients that are shown
  pub lines_have : (item : PlacedNode) → In item (node_lines report)
      → IsShownId report item.head.key.id × HasText a.log item.head.key.id item.node.text
  lines_have item i =
      let l = line_of_reply report item i in
      let n = l.0 in
      let c = l.1 in
      let there = l.2 in
      let m = in_map (λ (s : Step). s.reply) (a.steps n) l.3 (subst (In l.3) (sym (ta.clients n c there).replied) l.4) in
      let among = contains_in (a.steps n) m.0 m.1 in
      line_has n c there m.0
      (All-contains (Obeys script a.log (caller_of script n)) (a.steps n) m.0
      (obeys script fits report a ta (rule1 ra.0.0.0.0.1) (rule4 ra.0.1) n c there) among)
      m.0.reply.answer refl
      (All-contains (λ (s : Step). Shows a.log s.untold (caller_of script n) (kept_at s) s.command.what s.reply.nodes
      s.reply.answer) (a.steps n) m.0 (ninth.shows n c there) among)
      item (subst (λ (r : ReplyLine). In item r.nodes) (sym m.2) l.5)
