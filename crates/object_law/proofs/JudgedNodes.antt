-- Nodes by what is told of finds and decisions, at each client and command, are those by the finds and the decisions.
use mathlib.Core.Path.{fun_ext}
use Rattle.std.proofs.Common.{◌≡◌, ap, sym, subst, ◌∙◌, ℕ, List}
use Rattle.log_node.specs.declared.forms.Version.{Version}
use Rattle.log_node.specs.declared.node.Node.{Node}
use Rattle.part_fold.specs.declared.decision.Decision.{Decision}
use Rattle.script_text.specs.declared.script.Script.{Script}
use Rattle.report_text.specs.declared.report.Report.{Report}
use Rattle.run_rules.specs.Computing.{finds_of}
use Rattle.run_rules.specs.Nodes.{nodes_with}
use Rattle.run_rules.proofs.CallerLemmas.{found_keys_of}
use Rattle.walk_law.specs.Finds.{FindsKeys}

module _ (script : Script) (report : Report) (found : ℕ → ℕ → List Version)
    (are : (client k : ℕ) → found client k ≡ finds_of script report client k) where
  finds_same : found ≡ finds_of script report
  finds_same = fun_ext (λ client. fun_ext (λ k. are client k))

  pub its_keys : FindsKeys report found
  its_keys = subst (FindsKeys report) (sym finds_same) (found_keys_of script report)

  pub its_nodes : (decided wanted : ℕ → ℕ → Decision) → ((client k : ℕ) → decided client k ≡ wanted client k)
      → nodes_with script report found decided ≡ nodes_with script report (finds_of script report) wanted
  its_nodes decided wanted same =
      ap (λ (f : ℕ → ℕ → List Version). nodes_with script report f decided) finds_same
      ∙ ap (λ (d : ℕ → ℕ → Decision). nodes_with script report (finds_of script report) d)
      (fun_ext (λ client. fun_ext (λ k. same client k)))
