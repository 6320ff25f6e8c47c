-- The account that shows what reads found keeps the first nine rules where the nodes by these finds have the texts that are shown;
-- and the last rule is decided by the decisions that are computed, where these are shown.
use Rattle.std.proofs.Common.{◌≡◌, ◌⊎◌, ◌∙◌, refl, ap, sym, subst, true, false, ℕ, zero, suc, List, [], ◌∷◌, map, Option, Some, None, inl, inr, arith}
use Rattle.std.specs.Prelude.{IsTrue, slice_get, slice_index_or}
use Rattle.std.specs.List.{All, AllZip}
use Rattle.std.proofs.lemmas.List.{length-map}
use Rattle.std.proofs.lemmas.List.Elements.{All-nil, All-cons}
use Rattle.log_node.specs.declared.forms.Version.{Version}
use Rattle.log_node.specs.declared.ids.Colours.{Colours}
use Rattle.log_node.specs.declared.ids.Id.{Id}
use Rattle.log_node.specs.declared.node.Node.{Node}
use Rattle.part_fold.specs.Laws.{DecisionsArePlain}
use Rattle.col_core.specs.Log.{Log, HasText}
use Rattle.col_core.specs.Keeping.{Kept, nothing_kept}
use Rattle.script_text.specs.declared.commands.What.{What}
use Rattle.script_text.specs.declared.commands.What.TheVariants as whats
use Rattle.script_text.specs.declared.script.Kind.{Kind}
use Rattle.script_text.specs.declared.script.Script.{Script}
use Rattle.script_text.specs.Commands.{use_of}
use Rattle.script_text.specs.Fitting.{IsFitting}
use Rattle.report_text.specs.declared.report.Answer.{Answer}
use Rattle.report_text.specs.declared.report.Answer.TheVariants as answers
use Rattle.report_text.specs.declared.report.ClientReport.{ClientReport}
use Rattle.report_text.specs.declared.report.Ended.{Ended}
use Rattle.report_text.specs.declared.report.Ended.TheVariants as ends
use Rattle.report_text.specs.declared.report.Report.{Report}
use Rattle.lawful_run.specs.Asks.{kind_asked, object_colours}
use Rattle.lawful_run.specs.Callers.{Caller, caller_of, commands_of, node_of}
use Rattle.lawful_run.specs.Deeds.{ADecision, IsText, Saying, SaysNode, found_by, saying_of}
use Rattle.lawful_run.specs.Reads.{kept_after_piece}
use Rattle.run_rules.specs.Told.{Account, IsTold, Step, kept_at, kept_deciding}
use Rattle.run_rules.specs.Telling.{IsWellFormed, places_shown, replies_to}
use Rattle.run_rules.specs.Shown.{Rule9}
use Rattle.run_rules.specs.Rules.{HasNode, UsesEnd, UsesNode}
use Rattle.run_rules.specs.Nodes.{HasItsNode, HasItsNodes, HasNodeAtEnd}
use Rattle.run_rules.specs.Agreeing.{Agree, AreNodesAlike, AreStepsAlike, KeepSame}
use Rattle.run_rules.specs.Finding.{HaveText}
use Rattle.run_rules.specs.Said.{SaysText, shown_text, with_text}
use Rattle.run_rules.specs.Computing.{account_finding, any_decisions, finds_of}
use Rattle.run_rules.specs.Deciding.{account_deciding, account_showing, decisions_of, nodes_showing}
use Rattle.run_rules.specs.Keeping.{Keeps, RulesTo, nine, fourteen}
use Rattle.run_rules.specs.Laws.{ComputedDecisionsDecide, ComputedFindsDecide, FindsDecide, FindsKeep, FindsTell, FoundAccountDecides}
use Rattle.run_rules.proofs.CallerLemmas.{FoundBelow, LinesAlike, NodeBelow, SameFound, Uses, all_at, all_at_places, before_same, finding_one, found_keys_of, keeps_fewer, keys_above, lines_have, nodes_below, nodes_from, ninth_forth, obeys, one_text, over, read_ids, rule1, rule4, rule5, rule9, rule14, rules_fewer, several_same, shows_text, slice_mapped, step_with, text_shown, told_accounts_agree, told_nodes_agree, zip_at, zip_each, zip_onto}
use Rattle.object_law.specs.Showing.{FourteenthIsDecided, SaysShown, ShowingIsFound, ShownAreFound}

-- TEXTS

-- A text that a command says of the one find and that is a decision's it says of each: no transaction is a decision.
says_again : (kind : Option Kind) (f g : Option (List Version)) (what : What) (text : List ℕ)
    → SaysText (saying_of kind f what) text → IsText ADecision text → SaysText (saying_of kind g what) text
says_again kind None g (whats.Commit object pairs) text s d = absurd s
says_again kind (Some versions) g (whats.Commit object pairs) text s d =
    let letter : 116 ≡ 122 = ap (λ (t : List ℕ). slice_index_or t 0 0) (sym s ∙ d.1) in
    absurd (let no : ⊥ = omega (arith, letter) in no)
says_again kind f g _ text s d = s

-- a node that is said may have another text that is said
with_said : (own : List ℕ) (saying : Option Saying) (colours : Colours) (t u : List ℕ) → SaysNode own saying colours t
    → SaysText saying u → SaysNode own saying colours u
with_said own None colours t u p s = absurd p
with_said own (Some saying) colours t u p s = (p.0, s)

-- the text of a node is one that is said
said_of : (own : List ℕ) (saying : Option Saying) (colours : Colours) (t : List ℕ) → SaysNode own saying colours t
    → SaysText saying t
said_of own None colours t p = p
said_of own (Some saying) colours t p = p.1

-- a node keeps its id
same_id_shown : (shown : Option (List ℕ)) (node : Node) → (with_text shown node).id ≡ node.id
same_id_shown None node = refl
same_id_shown (Some text) node = refl

-- a node with the text that is shown of it says that
has_shown : (report : Report) (log : Log) (id : Id) (node : Node)
    → slice_get (log.nodes id.client) id.count ≡ Some (with_text (shown_text report node.id) node) → node.id ≡ id
    → (text : List ℕ) → shown_text report id ≡ Some text → HasText log id text
has_shown report log id node there its text e = (
  with_text (shown_text report node.id) node,
  there,
  same_id_shown (shown_text report node.id) node ∙ its,
  ap (λ (o : Option (List ℕ)). (with_text o node).text) (ap (shown_text report) its ∙ e),
)

-- where nodes have the texts that are shown of them, or both are decisions', so it is of each
as_shown : (report : Report) (xs : List Node) → AllZip HaveText (map (λ (node : Node). with_text (shown_text report node.id) node) xs) xs
    → All (SaysShown false report) xs
as_shown report [] z = All-nil (SaysShown false report)
as_shown report (x ∷ xs) z = All-cons (SaysShown false report) x xs (λ text e. by text e z.0) (as_shown report xs z.1) where
  by : (text : List ℕ) → shown_text report x.id ≡ Some text → HaveText (with_text (shown_text report x.id) x) x
      → (x.text ≡ text) ⊎ (IsText ADecision x.text × IsText ADecision text)
  by text e h = turn (subst (λ (o : Option (List ℕ)). HaveText (with_text o x) x) e h) where
    turn : HaveText (record x { text = text }) x → (x.text ≡ text) ⊎ (IsText ADecision x.text × IsText ADecision text)
    turn (inl s) = inl (sym s)
    turn (inr d) = inr (d.1, d.0)

-- STEPS

found_same : (w : ℕ) (what : What) (answer : Answer) (f : List Version) → SameFound w what answer f f
found_same w (whats.Read object asked) (answers.GotKeys stamp shown raises syncs) f = λ lt. refl
found_same w _ _ f = tt

found_alike : (w : ℕ) (xs : List Step) → AllZip (FoundBelow w) xs xs
found_alike w [] = tt
found_alike w (x ∷ xs) = (found_same w x.command.what x.reply.answer x.untold.found, found_alike w xs)

-- ACCOUNTS

module _ (found_account_decides : FoundAccountDecides) (finds_tell : FindsTell) (finds_keep : FindsKeep) (finds_decide : FindsDecide)
    (plain : DecisionsArePlain) (script : Script) (report : Report) (fits : IsFitting script) (keeps : Keeps script report 9) where
  abbrev a : Account
  a = keeps.0

  abbrev bare : Account
  bare = account_finding script report (finds_of script report) any_decisions

  abbrev full : Account
  full = account_showing script report

  abbrev ta : IsTold script report a
  ta = keeps.1

  abbrev ra : RulesTo script report a 9
  ra = keeps.2

  abbrev five_a : RulesTo script report a 5
  five_a = ra.0.0.0.0

  five : IsWellFormed script report × RulesTo script report bare 5
  five = (found_account_decides script report (finds_of script report) any_decisions fits (found_keys_of script report) 5
      (omega arith) (omega arith)).0 (keeps_fewer script report 5 9 (omega arith) keeps)

  well : IsWellFormed script report
  well = five.0

  five_b : RulesTo script report bare 5
  five_b = five.1

  tb : IsTold script report bare
  tb = finds_tell script report bare.log.nodes (finds_of script report) well (found_keys_of script report)

  tf : IsTold script report full
  tf = finds_tell script report (nodes_showing script report) (finds_of script report) well (found_keys_of script report)

  -- the one account has the steps of the other
  steps_are : (n : ℕ) → bare.steps n ≡ full.steps n
  steps_are n =
      finding_one report bare.log.nodes full.log.nodes (caller_of script n) (places_shown script report n) (finds_of script report n)
      nothing_kept (commands_of script n) (replies_to report n)

  abbrev shows : Node → Node
  shows node = with_text (shown_text report node.id) node

  -- WHERE THE RULES HOLD

  module _ (rf : RulesTo script report full 9) where
    texts : (n : ℕ) (c : ClientReport) → slice_get report.clients n ≡ Some c
        → AllZip HaveText (full.log.nodes n) (bare.log.nodes n)
    texts n c there =
        zip_each NodeBelow HaveText (full.log.nodes n) (bare.log.nodes n)
        (λ w. nodes_below plain script report full bare fits tf tb rf.0.0.0.0 five_b (keys_above script report full fits tf rf) n c there
        w (subst (λ (xs : List Step). AllZip (FoundBelow w) xs (bare.steps n)) (steps_are n) (found_alike w (bare.steps n))))
        (λ p q f. by p q (f (suc p.floor))) where
          by : (p q : Node) → NodeBelow (suc p.floor) p q → HaveText p q
          by p q (inl le) = absurd (let f : ⊥ = omega (arith, le) in f)
          by p q (inr have) = have

    pub are_found : ShownAreFound script report
    are_found n c there = as_shown report (bare.log.nodes n) (texts n c there)

  -- WHERE NODES ARE AS SHOWN

  agreeing : Agree script report a bare
  agreeing = told_accounts_agree script report a bare fits ta tb five_a.0 five_b.0

  -- what is shown of an id is its text
  shown_is : (id : Id) (text : List ℕ) → shown_text report id ≡ Some text → HasText a.log id text
  shown_is id text e =
      let l = text_shown report id text e in
      let h = lines_have script report a fits ta five_a (rule9 ra.1) l.0 l.1 in
      subst (λ (i : Id). HasText a.log i text) l.2 (subst (HasText a.log l.0.head.key.id) l.3 h.1)

  module _ (are : ShownAreFound script report) where
    module _ (n : ℕ) (c : ClientReport) (there : slice_get report.clients n ≡ Some c) where
      abbrev who : Caller
      who = caller_of script n

      -- the node of a command that clients append
      has_node : (what : What) (k l : Kept) → k.ids ≡ l.ids → HasNode a.log who k what → HasNode bare.log who l what
          → HasNode full.log who l what
      has_node what k l ids p q = by (shown_text report id) refl where
        own : List ℕ
        own = object_colours (kind_asked who what)

        says : Kept → Option Saying
        says kept = saying_of (kind_asked who what) (found_by (use_of what) kept) what

        id : Id
        id = record { client = n; count = l.ids }

        node : Node
        node = node_of who l q.0 q.1

        is_there : slice_get (full.log.nodes n) l.ids ≡ Some (shows node)
        is_there = slice_mapped shows (bare.log.nodes n) l.ids node q.3

        -- the command could have said what is shown
        could : (text : List ℕ) → shown_text report id ≡ Some text → SaysText (says k) text
        could text e =
            let mine : HasText a.log id p.1 =
            (node_of who k p.0 p.1, ap (slice_get (a.log.nodes n)) (sym ids) ∙ p.3, ap (λ (m : ℕ). record { client = n; count = m }) ids, refl) in
            subst (SaysText (says k)) (one_text a.log id id refl p.1 text mine (shown_is id text e))
            (said_of own (says k) p.0 p.1 p.2)

        said : (text : List ℕ) → shown_text report id ≡ Some text
            → (q.1 ≡ text) ⊎ (IsText ADecision q.1 × IsText ADecision text) → SaysText (says l) text
        said text e (inl s) = subst (SaysText (says l)) s (said_of own (says l) q.0 q.1 q.2)
        said text e (inr d) =
            says_again (kind_asked who what) (found_by (use_of what) k) (found_by (use_of what) l) what text (could text e) d.1

        by : (o : Option (List ℕ)) → shown_text report id ≡ o → HasNode full.log who l what
        by None e = (q.0, q.1, q.2, is_there ∙ ap (λ (o : Option (List ℕ)). Some (with_text o node)) e)
        by (Some text) e = (
          q.0,
          text,
          with_said own (says l) q.0 q.1 text q.2 (said text e
              (all_at (SaysShown false report) (bare.log.nodes n) l.ids node q.3 (are n c there) text e)),
          is_there ∙ ap (λ (o : Option (List ℕ)). Some (with_text o node)) e,
        )

      end_has : (what : What) (k l : Kept) → k.ids ≡ l.ids → (ended : Ended) → UsesEnd a.log who k what ended
          → UsesEnd bare.log who l what ended → HasNodeAtEnd full.log who l what ended
      end_has what k l ids (ends.Stood stamp point) p q = has_node what k l ids p.0 q.0
      end_has what k l ids _ p q = tt

      has_its : (what : What) (k l : Kept) → KeepSame script k l → (answer : Answer) → UsesNode a.log who k what answer
          → UsesNode bare.log who l what answer → HasItsNode full.log who l what answer
      has_its what k l same (answers.Stood stamp row points) p q = has_node what k l same.ids p.0 q.0
      has_its what k l same (answers.StampEnd colour) p q = λ t.
          has_node what k l same.ids (p (subst IsTrue (sym (several_same script who what same)) t)) (q t)
      has_its what k l same (answers.Stopped zero) p q = tt
      has_its what k l same (answers.Stopped (suc steps)) p q = has_node what k l same.ids p q
      has_its what k l same (answers.Ruled conflict stamp row points read_stamp raises syncs) p q =
          has_node what k l same.ids p.0 q.0
      has_its what k l same (answers.Changed failed stamp row points read_stamp raises syncs) p q =
          has_node what k l same.ids p.0 q.0
      has_its what k l same (answers.Took value point sync) p q = has_node what k l same.ids p.0 q.0
      has_its what k l same (answers.Decided commits stamp sync read_stamp raises syncs ended) p q =
          end_has what (kept_deciding a.log who k sync read_stamp raises syncs)
          (kept_deciding bare.log who l sync read_stamp raises syncs)
          (read_ids a.log who (kept_after_piece a.log who k sync) read_stamp raises syncs
          ∙ (same.ids ∙ sym (read_ids bare.log who (kept_after_piece bare.log who l sync) read_stamp raises syncs)))
          ended p q
      has_its what k l same _ p q = tt

      abbrev HasIts : Step → Type 0
      HasIts s = HasItsNode full.log who (kept_at s) s.command.what s.reply.answer

      steps_have : All HasIts (bare.steps n)
      steps_have =
          zip_onto {R = AreStepsAlike script who} {P = Uses a.log who} {Q = Uses bare.log who} {S = HasIts}
          (a.steps n) (bare.steps n) (agreeing.steps n c there)
          ((rule5 five_a.1).used n c there) ((rule5 five_b.1).used n c there)
          (λ x y r p q.
          let z : Step = record { command = x.command; reply = x.reply; kept = y.kept; untold = y.untold } in
          let is : y ≡ z = step_with y x.command x.reply r.command r.reply in
          subst HasIts (sym is)
          (has_its x.command.what (kept_at x) (kept_at z) (before_same script r.kept x.command.what) x.reply.answer p
          (subst (Uses bare.log who) is q)))

    its_nodes : HasItsNodes script report full
    its_nodes = record {
      steps = λ n c there. subst (All (HasIts n c there)) (steps_are n) (steps_have n c there);
      all = λ n c there.
          length-map (bare.log.nodes n) shows
          ∙ (((rule5 five_b.1).own n c there).nodes
          ∙ ((finds_keep script report (nodes_showing script report) (finds_of script report) bare fits well
          (found_keys_of script report) tb five_b.0).0.last n c there).ids);
    }

    eight_f : RulesTo script report full 8
    eight_f = finds_decide script report (nodes_showing script report) (finds_of script report) fits well
        (found_keys_of script report) its_nodes 8 (omega arith) (omega arith) (keeps_fewer script report 8 9 (omega arith) keeps)

    -- it has what node lines show
    lines : LinesAlike report a.log full.log
    lines item i h =
        let id = item.head.key.id in
        let n = id.client in
        let has = lines_have script report a fits ta five_a (rule9 ra.1) item i in
        let first = shows_text report item i in
        let same : item.node.text ≡ first.0 =
        one_text a.log id id refl item.node.text first.0 h (shown_is id first.0 first.1) in
        let beside = zip_at AreNodesAlike (a.log.nodes n) (bare.log.nodes n)
        (told_nodes_agree script report a bare fits ta tb five_a five_b n has.0.0 has.0.1) id.count has.1.0 has.1.1 in
        subst (HasText full.log id) (sym same)
        (has_shown report full.log id beside.0 (slice_mapped shows (bare.log.nodes n) id.count beside.0 beside.1)
        (sym beside.2.id ∙ has.1.2) first.0 first.1)

    pub are_kept : RulesTo script report full 9
    are_kept = (
      eight_f,
      nine (ninth_forth script report a full fits ta tf five_a.0
          (told_accounts_agree script report a full fits ta tf five_a.0 eight_f.0.0.0.0) lines (rule9 ra.1)),
    )

pub showing_is_found : FoundAccountDecides → FindsTell → FindsKeep → FindsDecide → DecisionsArePlain → ShowingIsFound
showing_is_found found_account_decides finds_tell finds_keep finds_decide plain script report fits keeps = (
  are_kept found_account_decides finds_tell finds_keep finds_decide plain script report fits keeps,
  are_found found_account_decides finds_tell finds_keep finds_decide plain script report fits keeps,
)

-- THE LAST RULE

-- of each item beside itself
zip_all : {A : Type 0} (P : A → Type 0) (xs : List A) → AllZip (λ (x y : A). P x) xs xs → All P xs
zip_all P [] z = All-nil P
zip_all P (x ∷ xs) z = All-cons P x xs z.0 (zip_all P xs z.1)

-- the node stands where its id says
abbrev StandsUnderId : Log → Node → Type 0
StandsUnderId log node = slice_get (log.nodes node.id.client) node.id.count ≡ Some node

-- so does each of an account that keeps the first five rules
module _ (script : Script) (report : Report) (a : Account) (fits : IsFitting script) (told : IsTold script report a)
    (rules : RulesTo script report a 5) where
  under_ids : (n : ℕ) (c : ClientReport) → slice_get report.clients n ≡ Some c → All (StandsUnderId a.log) (a.log.nodes n)
  under_ids n c there =
      let caller = caller_of script n in
      let same = told_accounts_agree script report a a fits told told rules.0 rules.0 in
      let used = (rule5 rules.1).used n c there in
      let own = ((rule5 rules.1).own n c there).nodes in
      zip_all (StandsUnderId a.log) (a.log.nodes n)
      (all_at_places (λ (p q : Node). StandsUnderId a.log p) (a.log.nodes n) (a.log.nodes n) refl
      (λ i lt. nodes_from script caller a.log a.log (λ (p q : Node). StandsUnderId a.log p) (AreStepsAlike script caller) (λ x y s. s)
      (λ x y s o e p q.
      (node_of caller (over a.log caller x) p.0 p.1, node_of caller (over a.log caller x) p.0 p.1, p.3, p.3, p.3))
      (a.steps n) (a.steps n) nothing_kept nothing_kept (a.last n) (a.last n) (same.steps n c there)
      (obeys script fits report a told (rule1 rules.0.0.0.0.1) (rule4 rules.0.1) n c there) used used
      (told.clients n c there).follow (told.clients n c there).follow (same.last n c there) i (omega arith) (omega (arith, lt, own))))

  -- where the ninth rule holds its nodes say what is shown of them
  pub say_as_shown : Rule9 script report a → (n : ℕ) (c : ClientReport) → slice_get report.clients n ≡ Some c
      → All (SaysShown true report) (a.log.nodes n)
  say_as_shown ninth n c there k d lt text e =
      let node = slice_index_or (a.log.nodes n) k d in
      let l = text_shown report node.id text e in
      let h = (lines_have script report a fits told rules ninth l.0 l.1).1 in
      let here = under_ids n c there k d lt in
      let place = ap (λ (i : Id). slice_get (a.log.nodes i.client) i.count) l.2 in
      let at = h.1 in
      let same : h.0 ≡ node = cc (here, place, at) in
      ap (λ (m : Node). m.text) (sym same) ∙ (h.3 ∙ l.3)

pub fourteenth_is_decided : FindsTell → ComputedFindsDecide → ComputedDecisionsDecide → FourteenthIsDecided
fourteenth_is_decided finds_tell computed_finds_decide computed_decisions_decide script report fits differ keeps = (
  λ w.
      let k = (computed_finds_decide script report (decisions_of script report) fits
      (λ n c there i d lt text e said own. w.0 n c there i d lt text e) 13 (omega arith) (omega arith)).0 keeps in
      (last, tells k.0, (k.1, fourteen w.1)),
  λ k.
      let w = (computed_decisions_decide script report fits differ).0 k in (
        say_as_shown script report last fits (tells w.0) (rules_fewer script report last 14 5 (omega arith) w.1)
            (rule9 (rules_fewer script report last 14 9 (omega arith) w.1).1),
        rule14 w.1.1,
      ),
) where
  last : Account
  last = account_deciding script report (decisions_of script report)

  tells : IsWellFormed script report → IsTold script report last
  tells well = finds_tell script report last.log.nodes (finds_of script report) well (found_keys_of script report)
