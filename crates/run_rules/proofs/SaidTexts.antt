-- The texts that node lines show are ones that the commands of their nodes could have said, where rule 9 holds.
use Rattle.std.proofs.Common.{◌≡◌, ◌∙◌, refl, ap, sym, subst, Bool, true, false, cond, ℕ, zero, suc, List, [], Option, Some, None, inl, inr}
use Rattle.std.specs.Prelude.{slice_get}
use Rattle.std.proofs.lemmas.List.Elements.{All-contains}
use Rattle.log_node.specs.declared.forms.Version.{Version}
use Rattle.log_node.specs.declared.ids.Colours.{Colours}
use Rattle.log_node.specs.declared.ids.Id.{Id}
use Rattle.log_node.specs.declared.node.Node.{Node}
use Rattle.part_fold.specs.declared.decision.Decision.{Decision}
use Rattle.col_core.specs.Log.{Log, HasText}
use Rattle.col_core.specs.Keeping.{Kept}
use Rattle.col_core.proofs.CallerLemmas.{In, all_in, contains_in}
use Rattle.script_text.specs.declared.commands.What.{What}
use Rattle.script_text.specs.declared.script.Script.{Script}
use Rattle.script_text.specs.declared.uses.ReadUse.TheVariants.{UsesUp}
use Rattle.script_text.specs.declared.uses.Use.{Use}
use Rattle.script_text.specs.declared.uses.Use.TheVariants.{OfObject}
use Rattle.script_text.specs.Commands.{use_of}
use Rattle.script_text.specs.Fitting.{IsFitting}
use Rattle.report_text.specs.declared.report.Answer.{Answer}
use Rattle.report_text.specs.declared.report.Answer.TheVariants as answers
use Rattle.report_text.specs.declared.report.Ended.{Ended}
use Rattle.report_text.specs.declared.report.Ended.TheVariants as ends
use Rattle.report_text.specs.declared.report.Report.{Report}
use Rattle.lawful_run.specs.Callers.{Caller, caller_of, node_of}
use Rattle.lawful_run.specs.Asks.{kind_asked, object_colours}
use Rattle.lawful_run.specs.Deeds.{Saying, SaysNode, found_by, saying_of}
use Rattle.lawful_run.specs.Reads.{kept_after_piece}
use Rattle.lawful_run.specs.Refusals.{kept_before}
use Rattle.run_rules.specs.Told.{Untold, Step, Account, IsTold, is_several, kept_at, kept_deciding}
use Rattle.run_rules.specs.Telling.{account_of, log_of, no_nodes}
use Rattle.run_rules.specs.Rules.{HasNode, UsesEnd, UsesNode}
use Rattle.run_rules.specs.Shown.{Rule9}
use Rattle.run_rules.specs.Nodes.{any_decision, node_asked, node_at_end, node_said, node_told, nodes_told}
use Rattle.run_rules.specs.Agreeing.{Agree, AreNodesAlike, AreStepsAlike, KeepSame, keys_found}
use Rattle.run_rules.specs.Keeping.{RulesTo}
use Rattle.run_rules.specs.Said.{CouldSay, CouldSayShown, SaysText, ShownCouldBeSaid, nodes_shown, shown_text, with_text}
use Rattle.run_rules.proofs.FirstAlike.{read_reads}
use Rattle.run_rules.proofs.LinesShown.{lines_have, shows_text, text_shown, zip_before}
use Rattle.run_rules.proofs.Lists.{slice_mapped, zip_at}
use Rattle.run_rules.proofs.NinthRule.{LinesAlike}
use Rattle.run_rules.proofs.NodesAlike.{Uses, read_ids, told_nodes_agree}
use Rattle.run_rules.proofs.Numbers.{rule5}
use Rattle.run_rules.proofs.OneAccount.{step_with}
use Rattle.run_rules.proofs.SameKept.{before_same}
use Rattle.run_rules.proofs.ToldAlike.{several_same}

-- ONE COMMAND

pub found_keys : (what : What) (a b : Kept) → ((object : ℕ) → keys_found (a.reads object) ≡ keys_found (b.reads object))
    → keys_found (found_by (use_of what) a) ≡ keys_found (found_by (use_of what) b)
found_keys what a b reads = by (use_of what) where
  by : (u : Use) → keys_found (found_by u a) ≡ keys_found (found_by u b)
  by (OfObject object UsesUp) = reads object
  by _ = refl

module _ (caller : Caller) (what : What) where
  abbrev own : List ℕ
  own = object_colours (kind_asked caller what)

  says_text : (saying : Option Saying) (colours : Colours) (text : List ℕ) → SaysNode own saying colours text
      → SaysText saying text
  says_text None colours text x = absurd x
  says_text (Some saying) colours text x = x.1

  -- a node that is said has its client's next id
  pub said_id : (decision : Decision) (kept : Kept) (saying : Option Saying) (node : Node)
      → In node (node_said decision caller kept own saying)
      → node.id ≡ record { client = caller.client; count = kept.ids }
  said_id decision kept None node i = absurd i
  said_id decision kept (Some saying) node (inl e) = ap (λ (m : Node). m.id) (sym e)
  said_id decision kept (Some saying) node (inr i) = absurd i

  -- a text that the log has of it could be said
  could : (log : Log) (over other bare : Kept) → over.ids ≡ other.ids
      → ((object : ℕ) → keys_found (over.reads object) ≡ keys_found (bare.reads object)) → HasNode log caller over what
      → (node : Node) → In node (node_asked any_decision caller other what) → (text : List ℕ) → HasText log node.id text
      → CouldSay caller bare what text
  could log over other bare ids reads h node i text x = (
    found,
    found_keys what over bare reads,
    subst (SaysText (saying_of (kind_asked caller what) found what)) (ap (λ (m : Node). m.text) is ∙ x.3)
        (says_text (saying_of (kind_asked caller what) found what) h.0 h.1 h.2),
  ) where
    found : Option (List Version)
    found = found_by (use_of what) over

    is : node_of caller over h.0 h.1 ≡ x.0
    is =
        let mine = h.3 in
        let theirs = ap (slice_get (log.nodes caller.client)) ids
        ∙ (ap (λ (id : Id). slice_get (log.nodes id.client) id.count)
        (sym (said_id any_decision other (saying_of (kind_asked caller what) (found_by (use_of what) other) what) node i))
        ∙ x.1) in
        cc (mine, theirs)

  module _ (script : Script) (one two : Log) (a b : Kept) (s : KeepSame script a b) where
    end_could : (over other : Kept) → over.ids ≡ other.ids
        → ((object : ℕ) → keys_found (over.reads object) ≡ keys_found (b.reads object)) → (ended : Ended)
        → UsesEnd one caller over what ended → (node : Node) → In node (node_at_end any_decision caller other what ended)
        → (text : List ℕ) → HasText one node.id text → CouldSay caller b what text
    end_could over other ids reads (ends.Stood stamp point) u node i text x =
        could one over other b ids reads u.0 node i text x
    end_could over other ids reads _ u node i text x = absurd i

    node_could : (answer : Answer) → UsesNode one caller a what answer → (node : Node)
        → In node (node_told any_decision two caller b what answer) → (text : List ℕ) → HasText one node.id text
        → CouldSay caller b what text
    node_could (answers.Stood stamp row points) u node i text x = could one a b b s.ids s.reads u.0 node i text x
    node_could (answers.StampEnd colour) u node i text x = by (is_several caller b what) refl i where
      by : (several : Bool) → is_several caller b what ≡ several
          → In node (cond several (node_asked any_decision caller b what) []) → CouldSay caller b what text
      by true t j = could one a b b s.ids s.reads (u (several_same script caller what s ∙ t)) node j text x
      by false t j = absurd j
    node_could (answers.Stopped zero) u node i text x = absurd i
    node_could (answers.Stopped (suc steps)) u node i text x = could one a b b s.ids s.reads u node i text x
    node_could (answers.Ruled conflict stamp row points read_stamp raises syncs) u node i text x =
        could one a b b s.ids s.reads u.0 node i text x
    node_could (answers.Changed failed stamp row points read_stamp raises syncs) u node i text x =
        could one a b b s.ids s.reads u.0 node i text x
    node_could (answers.Took value point sync) u node i text x = could one a b b s.ids s.reads u.0 node i text x
    node_could (answers.Decided commits stamp sync read_stamp raises syncs ended) u node i text x =
        end_could (kept_deciding one caller a sync read_stamp raises syncs)
        (kept_deciding two caller b sync read_stamp raises syncs)
        (read_ids one caller (kept_after_piece one caller a sync) read_stamp raises syncs
        ∙ (s.ids ∙ sym (read_ids two caller (kept_after_piece two caller b sync) read_stamp raises syncs)))
        (λ object. ap (λ (r : ℕ → Option (List Version)). keys_found (r object))
        (read_reads one caller (kept_after_piece one caller a sync) read_stamp raises syncs) ∙ s.reads object)
        ended u node i text x
    node_could _ u node i text x = absurd i

-- ACCOUNTS

module _ (script : Script) (report : Report) (a : Account) (fits : IsFitting script) (ta : IsTold script report a)
    (ra : RulesTo script report a 5) (ninth : Rule9 script report a) where
  -- the log has each text that is shown
  has_shown : (id : Id) (text : List ℕ) → shown_text report id ≡ Some text → HasText a.log id text
  has_shown id text e =
      let l = text_shown report id text e in
      subst (λ (t : List ℕ). HasText a.log id t) l.3
      (subst (λ (k : Id). HasText a.log k l.0.node.text) l.2 (lines_have script report a fits ta ra ninth l.0 l.1).1)

  abbrev bare : Account
  bare = account_of script report no_nodes

  -- so a step's text could be said
  at_step : (n : ℕ) (x : Step) (kept : Kept) (untold : Untold) → KeepSame script x.kept kept
      → Uses a.log (caller_of script n) x
      → CouldSayShown report bare.log (caller_of script n)
      (record { command = x.command; reply = x.reply; kept = kept; untold = untold })
  at_step n x kept untold same uses =
      let over = kept_before x.command.what kept in
      all_in (λ (node : Node). (text : List ℕ) → shown_text report node.id ≡ Some text
      → CouldSay (caller_of script n) over x.command.what text)
      (node_told any_decision bare.log (caller_of script n) over x.command.what x.reply.answer)
      (λ node i text e. node_could (caller_of script n) x.command.what script a.log bare.log (kept_at x) over
      (before_same script same x.command.what) x.reply.answer uses node i text (has_shown node.id text e))

  -- and all of them could be said
  pub could_be_said : Agree script report a bare → ShownCouldBeSaid script report
  could_be_said agree n c there =
      all_in (CouldSayShown report bare.log (caller_of script n)) (bare.steps n) (λ y j.
      let z = zip_before (AreStepsAlike script (caller_of script n)) (a.steps n) (bare.steps n) (agree.steps n c there) y j in
      subst (CouldSayShown report bare.log (caller_of script n))
      (sym (step_with y z.0.command z.0.reply z.2.command z.2.reply))
      (at_step n z.0 y.kept y.untold z.2.kept (All-contains (Uses a.log (caller_of script n)) (a.steps n) z.0
      ((rule5 ra.1).used n c there) (contains_in (a.steps n) z.0 z.1))))

  -- the nodes that have what is shown of them have all of it
  pub lines_shown : RulesTo script report (account_of script report (nodes_told script report)) 5
      → IsTold script report (account_of script report (nodes_told script report))
      → LinesAlike report a.log (log_of report (nodes_shown script report))
  lines_shown rb tb item i given =
      let h = lines_have script report a fits ta ra ninth item i in
      let id = item.head.key.id in
      let n = id.client in
      let q = zip_at AreNodesAlike (a.log.nodes n) (nodes_told script report n)
      (told_nodes_agree script report a (account_of script report (nodes_told script report)) fits ta tb ra rb n h.0.0 h.0.1)
      id.count h.1.0 h.1.1 in
      let its : q.0.id ≡ id = sym q.2.id ∙ h.1.2 in
      let shown = shows_text report item i in
      let first = has_shown id shown.0 shown.1 in
      let same : first.0 ≡ h.1.0 = let x = first.1 in let y = h.1.1 in cc (x, y) in (
        with_text (Some shown.0) q.0,
        slice_mapped (λ (node : Node). with_text (shown_text report node.id) node) (nodes_told script report n) id.count q.0 q.1
            ∙ ap (λ (t : Option (List ℕ)). Some (with_text t q.0)) (ap (shown_text report) its ∙ shown.1),
        its,
        sym first.3 ∙ (ap (λ (m : Node). m.text) same ∙ h.1.3),
      )
