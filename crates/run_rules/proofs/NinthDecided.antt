-- Rule 9 is decided by the texts that node lines show.
use Rattle.std.proofs.Common.{◌≡◌, ◌∙◌, refl, ap, sym, subst, ℕ, List, [], ◌∷◌, Option, Some, None, arith}
use Rattle.std.specs.Prelude.{slice_get}
use Rattle.std.specs.List.{AllZip}
use Rattle.log_node.specs.declared.forms.Version.{Version}
use Rattle.log_node.specs.declared.ids.Id.{Id}
use Rattle.log_node.specs.declared.node.Node.{Node}
use Rattle.part_fold.specs.declared.decision.Decision.{Decision}
use Rattle.col_core.specs.Log.{Log, HasText}
use Rattle.col_core.specs.Keeping.{Kept, nothing_kept}
use Rattle.script_text.specs.declared.script.Command.{Command}
use Rattle.script_text.specs.declared.script.Script.{Script}
use Rattle.script_text.specs.Fitting.{IsFitting}
use Rattle.report_text.specs.declared.report.ClientReport.{ClientReport}
use Rattle.report_text.specs.declared.report.Report.{Report}
use Rattle.lawful_run.specs.Callers.{Caller, caller_of, commands_of}
use Rattle.run_rules.specs.Told.{Step, Account, Follow, IsTold}
use Rattle.run_rules.specs.Telling.{FindKeys, IsWellFormed, account_of, account_with, log_of, no_nodes, places_shown, replies_in, replies_to, steps_of}
use Rattle.run_rules.specs.Nodes.{any_decision, nodes_of, nodes_told, nodes_with}
use Rattle.run_rules.specs.Shown.{Rule9}
use Rattle.run_rules.specs.Agreeing.{Agree, AreStepsAlike}
use Rattle.run_rules.specs.Keeping.{Keeps, RulesTo, nine}
use Rattle.run_rules.specs.Said.{ShownCouldBeSaid, nodes_shown, shown_text, with_text}
use Rattle.run_rules.specs.Laws.{NinthRuleDecided}
use Rattle.run_rules.proofs.ChosenFinds.{FoundBy, HasShown, choice_nothing, choose, finding_found}
use Rattle.run_rules.proofs.Computed.{computed_account_agrees, finds_agree_too}
use Rattle.run_rules.proofs.Decided.{first_rules_decided, found_account_decides, later_rules_decided}
use Rattle.run_rules.proofs.LinesShown.{shows_text}
use Rattle.run_rules.proofs.Lists.{slice_unmapped, zip_at}
use Rattle.run_rules.proofs.NinthRule.{LinesAlike, ninth_back, ninth_forth}
use Rattle.run_rules.proofs.Numbers.{rule9, rules_fewer}
use Rattle.run_rules.proofs.ReportsTell.{finds_tell, reports_tell}
use Rattle.run_rules.proofs.SaidTexts.{could_be_said, lines_shown}

-- a client that is not shown has no nodes that are told
steps_none : (log : Log) (caller : Caller) (places : ℕ → ℕ → List ℕ) (kept : Kept) (cs : List Command)
    → steps_of log caller places kept cs [] ≡ []
steps_none log caller places kept [] = refl
steps_none log caller places kept (c ∷ cs) = refl

told_none : (script : Script) (report : Report) (n : ℕ) → slice_get report.clients n ≡ None → nodes_told script report n ≡ []
told_none script report n e =
    ap (λ (steps : List Step). nodes_of (λ k. any_decision) (log_of report no_nodes) (caller_of script n) steps)
    (ap (λ (c : Option ClientReport). steps_of (log_of report no_nodes) (caller_of script n) (places_shown script report n)
    nothing_kept (commands_of script n) (replies_in c)) e
    ∙ steps_none (log_of report no_nodes) (caller_of script n) (places_shown script report n) nothing_kept (commands_of script n))

with_text_id : (text : Option (List ℕ)) (node : Node) → (with_text text node).id ≡ node.id
with_text_id None node = refl
with_text_id (Some text) node = refl

module _ (script : Script) (report : Report) (fits : IsFitting script) (well : IsWellFormed script report)
    (rules : RulesTo script report (account_of script report (nodes_told script report)) 8)
    (could : ShownCouldBeSaid script report) where
  abbrev bare : Account
  bare = account_of script report no_nodes

  keeps : Keeps script report 8
  keeps = (account_of script report (nodes_told script report), reports_tell script report (nodes_told script report) well, rules)

  bare_told : IsTold script report bare
  bare_told = reports_tell script report no_nodes well

  bare_rules : RulesTo script report bare 4
  bare_rules = ((first_rules_decided script report fits 4 (omega arith) (omega arith)).0 (
    keeps.0,
    keeps.1,
    rules_fewer script report keeps.0 8 4 (omega arith) keeps.2,
  )).1

  -- what a choice for a client's steps says of finds and decisions
  abbrev Says : (ℕ → List Version) → (ℕ → Decision) → ℕ → ClientReport → Type 0
  Says found decided n c = FindKeys found c.replies
      × ((ys : List Step) (latest : Kept) → AllZip (AreStepsAlike script (caller_of script n)) (bare.steps n) ys
      → FoundBy found ys → Follow bare.log (caller_of script n) nothing_kept ys latest
      → AllZip (HasShown report) (nodes_told script report n) (nodes_of decided bare.log (caller_of script n) ys))

  abbrev Pick : ℕ → Type 0
  Pick n = (found : ℕ → List Version) × (decided : ℕ → Decision)
      × ((c : ClientReport) → slice_get report.clients n ≡ Some c → Says found decided n c)

  of_client : (n : ℕ) (c : ClientReport) → slice_get report.clients n ≡ Some c
      → (found : ℕ → List Version) × (decided : ℕ → Decision) × Says found decided n c
  of_client n c there =
      let its = bare_told.clients n c there in
      let one = choose script report bare.log (caller_of script n) nothing_kept (bare.last n) (bare.steps n) its.follow its.keys
      (could n c there) in (
        one.found,
        one.decided,
        (
          subst (FindKeys one.found) its.replied one.keys,
          λ ys latest alike found follow. one.says ys nothing_kept latest alike found follow
              (choice_nothing script report bare.log (caller_of script n) (bare.steps n) one),
        ),
      )

  pick : (n : ℕ) → Pick n
  pick n = by (slice_get report.clients n) refl where
    by : (shown : Option ClientReport) → slice_get report.clients n ≡ shown → Pick n
    by None e = (λ k. [], λ k. any_decision, λ c there. absurd (let f : ⊥ = cc (e, there) in f))
    by (Some d) e = let one = of_client n d e in (
      one.0,
      one.1,
      λ c there. let is : d ≡ c = cc (e, there) in subst (Says one.0 one.1 n) is one.2,
    )

  abbrev found : ℕ → ℕ → List Version
  found n = (pick n).0

  abbrev decided : ℕ → ℕ → Decision
  decided n = (pick n).1

  keys : (n : ℕ) (c : ClientReport) → slice_get report.clients n ≡ Some c → FindKeys (found n) c.replies
  keys n c there = ((pick n).2 c there).0

  abbrev nodes : ℕ → List Node
  nodes = nodes_with script report found decided

  abbrev named : Account
  named = account_with script report nodes found

  named_told : IsTold script report named
  named_told = finds_tell script report nodes found well keys

  named_rules : RulesTo script report named 8
  named_rules = ((found_account_decides script report found decided fits keys 8 (omega arith) (omega arith)).0 keeps).1

  -- its nodes have what is shown
  have_shown : (n : ℕ) (c : ClientReport) → slice_get report.clients n ≡ Some c
      → AllZip (HasShown report) (nodes_told script report n) (nodes n)
  have_shown n c there =
      ((pick n).2 c there).1 ((account_with script report no_nodes found).steps n) ((account_with script report no_nodes found).last n)
      ((finds_agree_too script report no_nodes found bare fits well keys bare_told bare_rules).0.steps n c there)
      (finding_found bare.log (caller_of script n) (places_shown script report n) (found n) nothing_kept (commands_of script n)
      (replies_to report n))
      ((finds_tell script report no_nodes found well keys).clients n c there).follow

  shown_named : LinesAlike report (log_of report (nodes_shown script report)) named.log
  shown_named item i h = by (slice_get report.clients n) refl where
    id : Id
    id = item.head.key.id

    n : ℕ
    n = id.client

    told : (p : Node) × (slice_get (nodes_told script report n) id.count ≡ Some p)
        × (with_text (shown_text report p.id) p ≡ h.0)
    told = slice_unmapped (λ (node : Node). with_text (shown_text report node.id) node) (nodes_told script report n) id.count h.0 h.1

    its : told.0.id ≡ id
    its = sym (with_text_id (shown_text report told.0.id) told.0) ∙ (ap (λ (m : Node). m.id) told.2 ∙ h.2)

    shown : (text : List ℕ) × (shown_text report id ≡ Some text)
    shown = shows_text report item i

    by_id : shown_text report told.0.id ≡ Some shown.0
    by_id = ap (shown_text report) its ∙ shown.1

    text : shown.0 ≡ item.node.text
    text = ap (λ (t : Option (List ℕ)). (with_text t told.0).text) (sym by_id) ∙ (ap (λ (m : Node). m.text) told.2 ∙ h.3)

    by : (c : Option ClientReport) → slice_get report.clients n ≡ c → HasText named.log id item.node.text
    by None e =
        let x = ap (λ (l : List Node). slice_get l id.count) (told_none script report n e) in
        let y = told.1 in
        absurd (let f : ⊥ = cc (x, y) in f)
    by (Some c) e =
        let q = zip_at (HasShown report) (nodes_told script report n) (nodes n) (have_shown n c e) id.count told.0 told.1 in
        (q.0, q.1, sym q.2.0 ∙ its, q.2.1 shown.0 by_id ∙ text)

  pub ninth_kept : Rule9 script report (account_of script report (nodes_shown script report)) → Keeps script report 9
  ninth_kept ninth =
      let told = reports_tell script report (nodes_shown script report) well in
      let four = rules_fewer script report named 8 4 (omega arith) named_rules in
      let agree = (computed_account_agrees script report (nodes_shown script report) named fits well named_told four).0 in (
        named,
        named_told,
        (
          named_rules,
          nine (ninth_back script report named (account_of script report (nodes_shown script report)) fits named_told told four
              agree shown_named ninth),
        ),
      )

module _ (script : Script) (report : Report) (fits : IsFitting script) (a : Account) (ta : IsTold script report a)
    (ra : RulesTo script report a 9) where
  five : RulesTo script report a 5
  five = rules_fewer script report a 9 5 (omega arith) ra

  later : IsWellFormed script report × RulesTo script report (account_of script report (nodes_told script report)) 8
  later = (later_rules_decided script report fits 8 (omega arith) (omega arith)).0 (a, ta, ra.0)

  agrees : (nodes : ℕ → List Node) → Agree script report a (account_of script report nodes)
  agrees nodes = (computed_account_agrees script report nodes a fits later.0 ta five.0).0

  ninth_shown : Rule9 script report (account_of script report (nodes_shown script report))
  ninth_shown =
      ninth_forth script report a (account_of script report (nodes_shown script report)) fits ta
      (reports_tell script report (nodes_shown script report) later.0) five.0 (agrees (nodes_shown script report))
      (lines_shown script report a fits ta five (rule9 ra.1)
      (rules_fewer script report (account_of script report (nodes_told script report)) 8 5 (omega arith) later.1)
      (reports_tell script report (nodes_told script report) later.0))
      (rule9 ra.1)

  said : ShownCouldBeSaid script report
  said = could_be_said script report a fits ta five (rule9 ra.1) (agrees no_nodes)

pub ninth_rule_decided : NinthRuleDecided
ninth_rule_decided script report fits = (
  λ k. (
    (later script report fits k.0 k.1 k.2).0,
    (later script report fits k.0 k.1 k.2).1,
    ninth_shown script report fits k.0 k.1 k.2,
    said script report fits k.0 k.1 k.2,
  ),
  λ w. ninth_kept script report fits w.0 w.1 w.3 w.2,
)
