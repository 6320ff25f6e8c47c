-- With the texts that node lines show the account of computed finds decides the rules from the tenth to the thirteenth.
use Rattle.std.proofs.Common.{◌≡◌, ◌∙◌, refl, ap, sym, subst, ℕ, zero, suc, ◌<◌, ◌≤◌, List, [], ◌∷◌, Option, Some, None, inl, inr, arith}
use Rattle.std.specs.Prelude.{IsTrue, slice_get}
use Rattle.std.specs.List.{All, AllZip}
use Rattle.std.proofs.lemmas.List.{length-map}
use Rattle.log_node.specs.declared.forms.Version.{Version}
use Rattle.log_node.specs.declared.ids.Colours.{Colours}
use Rattle.log_node.specs.declared.ids.Id.{Id}
use Rattle.log_node.specs.declared.node.Node.{Node}
use Rattle.part_fold.specs.Laws.{DecisionsArePlain}
use Rattle.col_core.specs.Laws.{RegionOrderIsUnique}
use Rattle.col_core.specs.Log.{Log, HasText}
use Rattle.col_core.specs.Keeping.{Kept, nothing_kept}
use Rattle.playback.specs.Laws.{RegionOrderIsLawful}
use Rattle.script_text.specs.declared.commands.What.{What}
use Rattle.script_text.specs.declared.script.Command.{Command}
use Rattle.script_text.specs.declared.script.Script.{Script}
use Rattle.script_text.specs.Commands.{use_of}
use Rattle.script_text.specs.Fitting.{IsFitting}
use Rattle.report_text.specs.declared.report.Answer.{Answer}
use Rattle.report_text.specs.declared.report.Answer.TheVariants as answers
use Rattle.report_text.specs.declared.report.ClientReport.{ClientReport}
use Rattle.report_text.specs.declared.report.Ended.{Ended}
use Rattle.report_text.specs.declared.report.Ended.TheVariants as ends
use Rattle.report_text.specs.declared.report.ReplyLine.{ReplyLine}
use Rattle.report_text.specs.declared.report.Report.{Report}
use Rattle.lawful_run.specs.Asks.{kind_asked, object_colours}
use Rattle.lawful_run.specs.Callers.{Caller, caller_of, commands_of, node_of}
use Rattle.lawful_run.specs.Deeds.{Saying, SaysNode, found_by, saying_of}
use Rattle.lawful_run.specs.Reads.{kept_after_piece}
use Rattle.run_rules.specs.Told.{Account, IsTold, Step, kept_at, kept_deciding, kept_past}
use Rattle.run_rules.specs.Telling.{IsWellFormed, last_finding, log_of, places_shown, replies_to, step_finding}
use Rattle.run_rules.specs.Rules.{HasNode, UsesEnd, UsesNode}
use Rattle.run_rules.specs.Nodes.{HasItsNode, HasItsNodes, HasNodeAtEnd}
use Rattle.run_rules.specs.Agreeing.{Agree, AreNodesAlike, AreStepsAlike, KeepSame}
use Rattle.run_rules.specs.Finding.{AgreeOnFinds, FoundSame, KeepReads}
use Rattle.run_rules.specs.Said.{shown_text, with_text}
use Rattle.run_rules.specs.Computing.{account_finding, any_decisions, finds_of}
use Rattle.run_rules.specs.Deciding.{account_showing, nodes_showing}
use Rattle.run_rules.specs.Keeping.{RulesTo}
use Rattle.run_rules.specs.Laws.{ShownFindsDecide}
use Rattle.run_rules.proofs.ComputedFinds.{found_keys_of}
use Rattle.run_rules.proofs.ComputedNodes.{finds_decide}
use Rattle.run_rules.proofs.ComputedRules.{agree, eight, five, five_told, one_text, read_alike, told}
use Rattle.run_rules.proofs.FindsAlike.{FoundBelow, NodeBelow, found_by_same, keys_above, nodes_below, zip_both, zip_each}
use Rattle.run_rules.proofs.FirstAlike.{read_reads}
use Rattle.run_rules.proofs.FurtherRules.{ReadAlike, TextsReadAlike, before_keep, read_decides, same_found}
use Rattle.run_rules.proofs.LinesShown.{lines_have, shows_text, text_shown}
use Rattle.run_rules.proofs.Lists.{slice_mapped, zip_at, zip_onto}
use Rattle.run_rules.proofs.NinthRule.{LinesAlike}
use Rattle.run_rules.proofs.NodesAlike.{Uses, read_ids, told_nodes_agree}
use Rattle.run_rules.proofs.NodesTold.{finding_one, past_one}
use Rattle.run_rules.proofs.Numbers.{rule5, rule9, rules_fewer}
use Rattle.run_rules.proofs.OneAccount.{step_with, told_accounts_agree}
use Rattle.run_rules.proofs.ReportsTell.{finds_tell}
use Rattle.run_rules.proofs.SameKept.{before_same}
use Rattle.run_rules.proofs.TextsAlike.{zip_mapped}
use Rattle.run_rules.proofs.ToldAlike.{several_same}

-- WHAT IS KEPT RESTS ON NO NODES

module _ (report : Report) (x y : ℕ → List Node) (caller : Caller) (shown : ℕ → ℕ → List ℕ) where
  abbrev one : Log
  one = log_of report x

  abbrev two : Log
  two = log_of report y

  last_same : (found : ℕ → List Version) (kept : Kept) (cs : List Command) (rs : List ReplyLine)
      → last_finding one caller shown found kept cs rs ≡ last_finding two caller shown found kept cs rs
  last_same found kept [] rs = refl
  last_same found kept (c ∷ cs) [] = refl
  last_same found kept (c ∷ cs) (r ∷ rs) =
      let step = step_finding one caller shown (found 0) kept c r in
      last_same (λ k. found (suc k)) (kept_past one caller step) cs rs
      ∙ ap (λ (k : Kept). last_finding two caller shown (λ m. found (suc m)) k cs rs) (past_one report x y caller step)

-- TEXTS

-- of two nodes that are said the one may have the text of the other
with_said : (own : List ℕ) (saying : Option Saying) (x y : Colours) (t u : List ℕ) → SaysNode own saying x t
    → SaysNode own saying y u → SaysNode own saying x u
with_said own None x y t u p q = absurd p
with_said own (Some saying) x y t u p q = (p.0, q.1)

-- a node keeps its id
same_id_shown : (shown : Option (List ℕ)) (node : Node) → (with_text shown node).id ≡ node.id
same_id_shown None node = refl
same_id_shown (Some text) node = refl

-- ACCOUNTS

module _ (unique : RegionOrderIsUnique) (lawful : RegionOrderIsLawful) (plain : DecisionsArePlain) (script : Script)
    (report : Report) (fits : IsFitting script) (a : Account) (ta : IsTold script report a) (ra : RulesTo script report a 10) where
  abbrev bare : Account
  bare = account_finding script report (finds_of script report) any_decisions

  abbrev full : Account
  full = account_showing script report

  five_a : RulesTo script report a 5
  five_a = five_told unique lawful plain script report any_decisions fits a ta ra

  pub well : IsWellFormed script report
  well = (eight unique lawful plain script report any_decisions fits a ta ra).0

  five_b : RulesTo script report bare 5
  five_b = five unique lawful plain script report any_decisions fits a ta ra

  tb : IsTold script report bare
  tb = told unique lawful plain script report any_decisions fits well

  tf : IsTold script report full
  tf = finds_tell script report (nodes_showing script report) (finds_of script report) well (found_keys_of script report)

  agreeing : Agree script report a bare
  agreeing = told_accounts_agree script report a bare fits ta tb five_a.0 five_b.0

  finding : AgreeOnFinds report a bare
  finding = agree unique lawful plain script report any_decisions fits a ta ra

  -- what is shown of an id is its text
  shown_is : (id : Id) (text : List ℕ) → shown_text report id ≡ Some text → HasText a.log id text
  shown_is id text e =
      let l = text_shown report id text e in
      let h = lines_have script report a fits ta five_a (rule9 ra.0.1) l.0 l.1 in
      subst (λ (i : Id). HasText a.log i text) l.2 (subst (HasText a.log l.0.head.key.id) l.3 h.1)

  abbrev shows : Node → Node
  shows node = with_text (shown_text report node.id) node

  module _ (n : ℕ) (c : ClientReport) (there : slice_get report.clients n ≡ Some c) where
    abbrev who : Caller
    who = caller_of script n

    -- the node of a command that clients append who keep the same
    has_node : (what : What) (k l : Kept) → k.ids ≡ l.ids → KeepReads k l → HasNode a.log who k what
        → HasNode bare.log who l what → HasNode full.log who l what
    has_node what k l ids reads p q = by (shown_text report (record { client = n; count = l.ids })) refl where
      own : List ℕ
      own = object_colours (kind_asked who what)

      saying : Option Saying
      saying = saying_of (kind_asked who what) (found_by (use_of what) l) what

      mine : SaysNode own saying p.0 p.1
      mine = subst (λ (f : Option (List Version)). SaysNode own (saying_of (kind_asked who what) f what) p.0 p.1)
          (found_by_same (use_of what) k l reads) p.2

      node : Node
      node = node_of who l q.0 q.1

      is_there : slice_get (full.log.nodes n) l.ids ≡ Some (shows node)
      is_there = slice_mapped shows (bare.log.nodes n) l.ids node q.3

      by : (o : Option (List ℕ)) → shown_text report (record { client = n; count = l.ids }) ≡ o → HasNode full.log who l what
      by None e = (q.0, q.1, q.2, is_there ∙ ap (λ (o : Option (List ℕ)). Some (with_text o node)) e)
      by (Some text) e =
          let h = shown_is (record { client = n; count = l.ids }) text e in
          let at : slice_get (a.log.nodes n) l.ids ≡ Some (node_of who k p.0 p.1) =
          ap (slice_get (a.log.nodes n)) (sym ids) ∙ p.3 in
          let other = h.1 in
          let same : node_of who k p.0 p.1 ≡ h.0 = cc (at, other) in
          let is : p.1 ≡ text = ap (λ (m : Node). m.text) same ∙ h.3 in (
            q.0,
            text,
            subst (λ (t : List ℕ). SaysNode own saying q.0 t) is (with_said own saying q.0 p.0 q.1 p.1 q.2 mine),
            is_there ∙ ap (λ (o : Option (List ℕ)). Some (with_text o node)) e,
          )

    end_has : (what : What) (k l : Kept) → k.ids ≡ l.ids → KeepReads k l → (ended : Ended) → UsesEnd a.log who k what ended
        → UsesEnd bare.log who l what ended → HasNodeAtEnd full.log who l what ended
    end_has what k l ids reads (ends.Stood stamp point) p q = has_node what k l ids reads p.0 q.0
    end_has what k l ids reads _ p q = tt

    has_its : (what : What) (k l : Kept) → KeepSame script k l → KeepReads k l → (answer : Answer)
        → UsesNode a.log who k what answer → UsesNode bare.log who l what answer → HasItsNode full.log who l what answer
    has_its what k l same reads (answers.Stood stamp row points) p q = has_node what k l same.ids reads p.0 q.0
    has_its what k l same reads (answers.StampEnd colour) p q = λ t.
        has_node what k l same.ids reads (p (subst IsTrue (sym (several_same script who what same)) t)) (q t)
    has_its what k l same reads (answers.Stopped zero) p q = tt
    has_its what k l same reads (answers.Stopped (suc steps)) p q = has_node what k l same.ids reads p q
    has_its what k l same reads (answers.Ruled conflict stamp row points read_stamp raises syncs) p q =
        has_node what k l same.ids reads p.0 q.0
    has_its what k l same reads (answers.Changed failed stamp row points read_stamp raises syncs) p q =
        has_node what k l same.ids reads p.0 q.0
    has_its what k l same reads (answers.Took value point sync) p q = has_node what k l same.ids reads p.0 q.0
    has_its what k l same reads (answers.Decided commits stamp sync read_stamp raises syncs ended) p q =
        let kept = kept_after_piece a.log who k sync in
        let other = kept_after_piece bare.log who l sync in
        end_has what (kept_deciding a.log who k sync read_stamp raises syncs)
        (kept_deciding bare.log who l sync read_stamp raises syncs)
        (read_ids a.log who kept read_stamp raises syncs
        ∙ (same.ids ∙ sym (read_ids bare.log who other read_stamp raises syncs)))
        (λ object. ap (λ (f : ℕ → Option (List Version)). f object) (read_reads a.log who kept read_stamp raises syncs)
        ∙ (reads object
        ∙ ap (λ (f : ℕ → Option (List Version)). f object) (sym (read_reads bare.log who other read_stamp raises syncs))))
        ended p q
    has_its what k l same reads _ p q = tt

    abbrev HasIts : Step → Type 0
    HasIts s = HasItsNode full.log who (kept_at s) s.command.what s.reply.answer

    steps_have : All HasIts (bare.steps n)
    steps_have =
        zip_onto {R = λ (x y : Step). AreStepsAlike script who x y × KeepReads x.kept y.kept} {P = Uses a.log who}
        {Q = Uses bare.log who} {S = HasIts} (a.steps n) (bare.steps n)
        (zip_both (AreStepsAlike script who) (λ (x y : Step). KeepReads x.kept y.kept) (a.steps n) (bare.steps n)
        (agreeing.steps n c there) (finding.steps n c there))
        ((rule5 five_a.1).used n c there) ((rule5 five_b.1).used n c there)
        (λ x y r p q.
        let z : Step = record { command = x.command; reply = x.reply; kept = y.kept; untold = y.untold } in
        let is : y ≡ z = step_with y x.command x.reply r.0.command r.0.reply in
        subst HasIts (sym is)
        (has_its x.command.what (kept_at x) (kept_at z) (before_same script r.0.kept x.command.what)
        (before_keep x.command.what x.kept y.kept r.1) x.reply.answer p (subst (Uses bare.log who) is q)))

    -- the steps are the same
    steps_are : bare.steps n ≡ full.steps n
    steps_are =
        finding_one report (bare.log.nodes) (full.log.nodes) who (places_shown script report n) (finds_of script report n)
        nothing_kept (commands_of script n) (replies_to report n)

    last_is : bare.last n ≡ full.last n
    last_is =
        last_same report (bare.log.nodes) (full.log.nodes) who (places_shown script report n) (finds_of script report n)
        nothing_kept (commands_of script n) (replies_to report n)

    abbrev SameFinds : List Step → Type 0
    SameFinds ys =
        AllZip (λ (x y : Step). FoundSame x.command.what x.reply.answer x.untold.found y.untold.found) (a.steps n) ys

    found : SameFinds (full.steps n)
    found = subst SameFinds steps_are (finding.found n c there)

  its_nodes : HasItsNodes script report full
  its_nodes = record {
    steps = λ n c there. subst (All (HasIts n c there)) (steps_are n c there) (steps_have n c there);
    all = λ n c there.
        length-map (bare.log.nodes n) shows
        ∙ (((rule5 five_b.1).own n c there).nodes ∙ ap (λ (k : Kept). k.ids) (last_is n c there));
  }

  five_f : RulesTo script report full 5
  five_f = finds_decide script report (nodes_showing script report) (finds_of script report) fits well
      (found_keys_of script report) its_nodes 5 (omega arith) (omega arith) (a, ta, five_a)

  -- objects read its nodes as they read those of the other
  read : TextsReadAlike ⊥ report a full
  read n c there =
      zip_each NodeBelow (ReadAlike ⊥) (a.log.nodes n) (full.log.nodes n)
      (λ w. nodes_below plain script report a full fits ta tf five_a five_f (keys_above script report a fits ta ra.0) n c there w
      (zip_mapped (λ (x y : Step). FoundSame x.command.what x.reply.answer x.untold.found y.untold.found) (FoundBelow w)
      (a.steps n) (full.steps n)
      (λ x y i j e. same_found w x.command.what x.reply.answer x.untold.found y.untold.found e) (found n c there)))
      (λ p q f. by p q (f (suc p.floor))) where
        by : (p q : Node) → NodeBelow (suc p.floor) p q → ReadAlike ⊥ p q
        by p q (inl le) = absurd (let f : ⊥ = omega (arith, le) in f)
        by p q (inr have) = read_alike plain p q have

  -- it has what node lines show
  lines : LinesAlike report a.log full.log
  lines item i h =
      let id = item.head.key.id in
      let n = id.client in
      let has = lines_have script report a fits ta five_a (rule9 ra.0.1) item i in
      let first = shows_text report item i in
      let same : item.node.text ≡ first.0 =
      one_text a.log id id refl item.node.text first.0 h (shown_is id first.0 first.1) in
      let beside = zip_at AreNodesAlike (a.log.nodes n) (bare.log.nodes n)
      (told_nodes_agree script report a bare fits ta tb five_a five_b n has.0.0 has.0.1) id.count has.1.0 has.1.1 in
      let its : beside.0.id ≡ id = sym beside.2.id ∙ has.1.2 in (
        shows beside.0,
        slice_mapped shows (bare.log.nodes n) id.count beside.0 beside.1,
        same_id_shown (shown_text report beside.0.id) beside.0 ∙ its,
        ap (λ (o : Option (List ℕ)). (with_text o beside.0).text) (ap (shown_text report) its ∙ first.1) ∙ sym same,
      )

  pub shown_keeps : (n : ℕ) → 8 < n → n ≤ 13 → RulesTo script report a n → RulesTo script report full n
  shown_keeps = read_decides script report a full fits ta tf five_f ⊥ read (λ n c there. found n c there) lines

pub shown_finds_decide : RegionOrderIsUnique → RegionOrderIsLawful → DecisionsArePlain → ShownFindsDecide
shown_finds_decide unique lawful plain script report fits n least most = (
  λ k.
      let ra = rules_fewer script report k.0 n 10 least k.2 in (
        well unique lawful plain script report fits k.0 k.1 ra,
        shown_keeps unique lawful plain script report fits k.0 k.1 ra n (omega (arith, least)) most k.2,
      ),
  λ w. (
    account_showing script report,
    finds_tell script report (nodes_showing script report) (finds_of script report) w.0 (found_keys_of script report),
    w.1,
  ),
)
