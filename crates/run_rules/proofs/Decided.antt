-- A report keeps the rules up to a number, 8 at most, where they hold at an account that is computed of script and report alone.
use Rattle.std.proofs.Common.{◌≡◌, ℕ, zero, suc, ◌≤◌, arith, subst, List}
use Rattle.std.specs.Prelude.{Some, slice_get}
use Rattle.log_node.specs.declared.forms.Version.{Version}
use Rattle.part_fold.specs.declared.decision.Decision.{Decision}
use Rattle.part_fold.specs.Laws.{DecisionsArePlain}
use Rattle.col_core.specs.Laws.{RegionOrderIsUnique}
use Rattle.report_text.specs.declared.report.ClientReport.{ClientReport}
use Rattle.script_text.specs.declared.script.Script.{Script}
use Rattle.script_text.specs.Fitting.{IsFitting}
use Rattle.report_text.specs.declared.report.Report.{Report}
use Rattle.run_rules.specs.Told.{Account, IsTold}
use Rattle.run_rules.specs.Telling.{FindKeys, IsWellFormed, account_of, account_with, no_nodes}
use Rattle.run_rules.specs.Rules.{Rule1}
use Rattle.run_rules.specs.Nodes.{nodes_told, nodes_with}
use Rattle.run_rules.specs.Keeping.{Keeps, RulesTo, one, two, three}
use Rattle.run_rules.specs.Laws.{FirstRulesDecided, FoundAccountDecides, FoundAccountKeeps, LaterRulesDecided}
use Rattle.run_rules.proofs.Numbers.{rule1, rule2, rule3, rules_fewer}
use Rattle.run_rules.proofs.Computed.{computed_account_keeps}
use Rattle.run_rules.proofs.ComputedNodes.{computed_account_decides, finds_decide}
use Rattle.run_rules.proofs.FirstAlike.{first_alike}
use Rattle.run_rules.proofs.FurtherRules.{right_finds_decide}
use Rattle.run_rules.proofs.NodesTold.{nodes_are_found, nodes_are_told}
use Rattle.run_rules.proofs.ReportsTell.{finds_tell, reports_tell}
use Rattle.run_rules.proofs.RowsTold.{third}
use Rattle.run_rules.proofs.WellFormed.{rule_one_forms}

module _ (script : Script) (report : Report) (fits : IsFitting script) (a : Account) (told : IsTold script report a) where
  abbrev bare : Account
  bare = account_of script report no_nodes

  module _ (rules : RulesTo script report a 1) where
    pub formed : IsWellFormed script report
    formed = rule_one_forms script report a told rules

    pub first : Rule1 script report bare
    first = first_alike script report a bare told (reports_tell script report no_nodes formed) (rule1 rules.1)

  at_bare : (n : ℕ) → n ≤ 4 → RulesTo script report a n → RulesTo script report bare n
  at_bare zero le r = tt
  at_bare (suc zero) le r = (tt, one (first r))
  at_bare (suc (suc zero)) le r = ((tt, one (first r.0)), two (rule2 r.1))
  at_bare (suc (suc (suc zero))) le r = (
    ((tt, one (first r.0.0)), two (rule2 r.0.1)),
    three (third script report a (formed r.0.0) told (rule1 r.0.0.1) (rule3 r.1)),
  )
  at_bare (suc (suc (suc (suc m)))) le r =
      let e : 0 ≡ m = omega (arith, le) in
      subst (λ (k : ℕ). RulesTo script report bare (suc (suc (suc (suc k))))) e
      (computed_account_keeps script report a fits
      (formed (rules_fewer script report a (suc (suc (suc (suc m)))) 1 (omega arith) r)) told
      (rules_fewer script report a (suc (suc (suc (suc m)))) 4 (omega arith) r))

pub first_rules_decided : FirstRulesDecided
first_rules_decided script report fits n least most = (
  λ k. (
    formed script report fits k.0 k.1 (rules_fewer script report k.0 n 1 least k.2),
    at_bare script report fits k.0 k.1 n most k.2,
  ),
  λ w. (account_of script report no_nodes, reports_tell script report no_nodes w.0, w.1),
)

pub later_rules_decided : LaterRulesDecided
later_rules_decided script report fits n least most = (
  λ k.
      let rules = rules_fewer script report k.0 n 1 (omega (arith, least)) k.2 in
      let well = formed script report fits k.0 k.1 rules in (
        well,
        computed_account_decides script report (nodes_told script report) fits well
            (nodes_are_told script report fits well (first script report fits k.0 k.1 rules)) n least most k,
      ),
  λ w. (account_of script report (nodes_told script report), reports_tell script report (nodes_told script report) w.0, w.1),
)

module _ (script : Script) (report : Report) (found : ℕ → ℕ → List Version) (decided : ℕ → ℕ → Decision)
    (fits : IsFitting script)
    (keys : (n : ℕ) (c : ClientReport) → slice_get report.clients n ≡ Some c → FindKeys (found n) c.replies) where
  abbrev named : Account
  named = account_with script report (nodes_with script report found decided) found

  named_told : IsWellFormed script report → IsTold script report named
  named_told well = finds_tell script report (nodes_with script report found decided) found well keys

  -- from the fifth to the eighth
  named_keeps : (n : ℕ) → 5 ≤ n → n ≤ 8 → Keeps script report n → IsWellFormed script report × RulesTo script report named n
  named_keeps n least most k =
      let rules = rules_fewer script report k.0 n 1 (omega (arith, least)) k.2 in
      let well = formed script report fits k.0 k.1 rules in (
        well,
        finds_decide script report (nodes_with script report found decided) found fits well keys
            (nodes_are_found script report found decided fits well keys (first script report fits k.0 k.1 rules)) n least most k,
      )

pub found_account_decides : FoundAccountDecides
found_account_decides script report found decided fits keys n least most = (
  named_keeps script report found decided fits keys n least most,
  λ w. (named script report found decided fits keys, named_told script report found decided fits keys w.0, w.1),
)

pub found_account_keeps : RegionOrderIsUnique → DecisionsArePlain → FoundAccountKeeps
found_account_keeps unique plain script report found decided fits keys right a told same n least most rules =
    let five = named_keeps script report found decided fits keys 5 (omega arith) (omega arith)
    (a, told, rules_fewer script report a n 5 (omega (arith, least)) rules) in
    right_finds_decide unique plain script report a (named script report found decided fits keys) fits told
    (named_told script report found decided fits keys five.0) five.1 right same n least most rules
