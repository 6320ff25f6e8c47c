-- What a report is judged to be, and what is asked of it rule by rule.
use Rattle.std.specs.Prelude.{◌≡◌, ◌↔◌, ℕ, ◌≤◌, Option, Some, None, Result, Err}
use Rattle.script_text.specs.Fitting.{IsFitting}
use Rattle.script_text.specs.declared.script.Script.{Script}
use Rattle.report_text.specs.declared.report.ReplyLine.{ReplyLine}
use Rattle.report_text.specs.declared.report.Report.{Report}
use Rattle.lawful_run.specs.Lawful.{LawfulRun}
use Rattle.run_rules.specs.Telling.{IsWellFormed, account_of, no_nodes}
use Rattle.run_rules.specs.Rules.{Rule2, Rule3, Rule4, Rule6, Rule7, Rule8}
use Rattle.run_rules.specs.Shown.{Rule9, Rule10, Rule11, Rule12, Rule13, Rule14}
use Rattle.run_rules.specs.Nodes.{nodes_told}
use Rattle.run_rules.specs.Said.{ShownCouldBeSaid, nodes_shown}
use Rattle.run_rules.specs.Deciding.{ColoursDiffer, account_deciding, account_showing, decisions_of}
use Rattle.run_rules.specs.Keeping.{HidesNothing, IsLeastBroken, Keeps, RulesTo, rule_count}
use Rattle.run_law.specs.declared.judged.Judged.{Judged}
use Rattle.run_law.specs.declared.judged.Judged.TheVariants.{Lawful, Broken}
use Rattle.run_law.specs.declared.judged.JudgeFault.{JudgeFault}
use Rattle.run_law.specs.declared.judged.JudgeFault.TheVariants.{Hidden}
use Rattle.object_law.specs.Showing.{ShownAreDecided}

-- it keeps all rules, or this one is the least that it breaks
abbrev pub IsJudged : Script → Report → Judged → Type 0
IsJudged script report Lawful = Keeps script report rule_count
IsJudged script report (Broken rule) = IsLeastBroken script report rule

-- That a reply hides what was done is told exactly where one does, and of the first such reply its line.
abbrev pub TellsHidden : {T : Type 0} → Option ReplyLine → Result T JudgeFault → Type 0
TellsHidden (Some reply) (Err (Hidden line)) = line ≡ reply.line
TellsHidden (Some reply) _ = ⊥
TellsHidden None (Err (Hidden line)) = ⊥
TellsHidden None _ = Unit {0}

-- A report that hides nothing is judged to be lawful where it is that of a lawful run.
abbrev pub JudgedIsLawful : Type 0
JudgedIsLawful = (script : Script) (report : Report) (judged : Judged) → IsFitting script → HidesNothing report
    → IsJudged script report judged → (judged ≡ Lawful) ↔ LawfulRun script report

-- RULE BY RULE

-- What each rule asks of a report that keeps those before it, at the account by which it is decided.
pub record AsksRules (script : Script) (report : Report) : Type 0 where
  pub second : Keeps script report 1 → Rule2 script report ↔ Keeps script report 2
  pub third : Keeps script report 2 → Rule3 script (account_of script report no_nodes) ↔ Keeps script report 3
  pub fourth : Keeps script report 3 → Rule4 script report (account_of script report no_nodes) ↔ Keeps script report 4
  pub fifth : Keeps script report 4
      → RulesTo script report (account_of script report (nodes_told script report)) 5 ↔ Keeps script report 5
  pub sixth : Keeps script report 5
      → Rule6 script report (account_of script report (nodes_told script report)) ↔ Keeps script report 6
  pub seventh : Keeps script report 6
      → Rule7 script report (account_of script report (nodes_told script report)) ↔ Keeps script report 7
  pub eighth : Keeps script report 7
      → Rule8 script report (account_of script report (nodes_told script report)) ↔ Keeps script report 8
  pub ninth : Keeps script report 8
      → (Rule9 script report (account_of script report (nodes_shown script report)) × ShownCouldBeSaid script report)
      ↔ Keeps script report 9
  pub tenth : Keeps script report 9
      → (RulesTo script report (account_showing script report) 9 × Rule10 script report (account_showing script report))
      ↔ Keeps script report 10
  pub eleventh : Keeps script report 10 → Rule11 script report (account_showing script report) ↔ Keeps script report 11
  pub twelfth : Keeps script report 11 → Rule12 script report (account_showing script report) ↔ Keeps script report 12
  pub thirteenth : Keeps script report 12 → Rule13 script report (account_showing script report) ↔ Keeps script report 13
  pub fourteenth : Keeps script report 13
      → (ShownAreDecided script report × Rule14 script report (account_deciding script report (decisions_of script report)))
      ↔ Keeps script report 14

-- So it is of each report.
abbrev pub RulesAreAsked : Type 0
RulesAreAsked = (script : Script) (report : Report) → IsFitting script → ColoursDiffer script → AsksRules script report

-- What is known of these accounts where a report keeps the rules to a number, as passes require it.
pub record RulesStand (script : Script) (report : Report) : Type 0 where
  pub formed : (n : ℕ) → 1 ≤ n → Keeps script report n → IsWellFormed script report
  pub first : (n : ℕ) → 1 ≤ n → n ≤ 4 → Keeps script report n → RulesTo script report (account_of script report no_nodes) n
  pub later : (n : ℕ) → 5 ≤ n → n ≤ 8 → Keeps script report n
      → RulesTo script report (account_of script report (nodes_told script report)) n
  pub shown : (n : ℕ) → 10 ≤ n → n ≤ 13 → Keeps script report n → RulesTo script report (account_showing script report) n

-- And that.
abbrev pub RulesAllStand : Type 0
RulesAllStand = (script : Script) (report : Report) → IsFitting script → RulesStand script report
