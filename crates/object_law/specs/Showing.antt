-- When nodes have the texts that node lines show of them: at the accounts by which reports are judged from the tenth rule on.
use Rattle.std.specs.Prelude.{◌≡◌, ◌⊎◌, ◌↔◌, Bool, true, false, ℕ, List, Some, slice_get}
use Rattle.std.specs.List.{All}
use Rattle.log_node.specs.declared.node.Node.{Node}
use Rattle.script_text.specs.Fitting.{IsFitting}
use Rattle.script_text.specs.declared.script.Script.{Script}
use Rattle.report_text.specs.declared.report.ClientReport.{ClientReport}
use Rattle.report_text.specs.declared.report.Report.{Report}
use Rattle.lawful_run.specs.Deeds.{ADecision, IsText}
use Rattle.run_rules.specs.Computing.{any_decisions, finds_of}
use Rattle.run_rules.specs.Deciding.{ColoursDiffer, account_deciding, account_showing, decisions_of}
use Rattle.run_rules.specs.Keeping.{Keeps, RulesTo, rule_count}
use Rattle.run_rules.specs.Nodes.{nodes_with}
use Rattle.run_rules.specs.Said.{shown_text}
use Rattle.run_rules.specs.Shown.{Rule14}

-- A text that is said is the one that is shown. Where decisions are not known, both may be decisions.
abbrev pub IsShown : Bool → List ℕ → List ℕ → Type 0
IsShown true said shown = said ≡ shown
IsShown false said shown = (said ≡ shown) ⊎ (IsText ADecision said × IsText ADecision shown)

-- the node says what is shown of it, if anything is, as decisions are known or not
abbrev pub SaysShown : Bool → Report → Node → Type 0
SaysShown decided report node =
    (text : List ℕ) → shown_text report node.id ≡ Some text → IsShown decided node.text text

-- so it is of each node of the clients that a report shows
abbrev pub OfEachNode : (Node → Type 0) → Report → (ℕ → List Node) → Type 0
OfEachNode P report nodes = (n : ℕ) (c : ClientReport) → slice_get report.clients n ≡ Some c → All P (nodes n)

-- By what reads found the nodes of commands have the texts that are shown of them, but for those of decisions.
abbrev pub ShownAreFound : Script → Report → Type 0
ShownAreFound script report =
    OfEachNode (SaysShown false report) report (nodes_with script report (finds_of script report) any_decisions)

-- By the decisions that are computed they all have.
abbrev pub ShownAreDecided : Script → Report → Type 0
ShownAreDecided script report =
    OfEachNode (SaysShown true report) report (nodes_with script report (finds_of script report) (decisions_of script report))

-- A report that keeps the first nine rules keeps them at the account that shows what reads found where that is what is shown.
abbrev pub ShowingIsFound : Type 0
ShowingIsFound = (script : Script) (report : Report) → IsFitting script → Keeps script report 9
    → ShownAreFound script report ↔ RulesTo script report (account_showing script report) 9

-- One that keeps the rules before the last keeps this one too where the decisions that are computed are those that are shown, and
-- it holds at their account.
abbrev pub FourteenthIsDecided : Type 0
FourteenthIsDecided = (script : Script) (report : Report) → IsFitting script → ColoursDiffer script → Keeps script report 13
    → (ShownAreDecided script report × Rule14 script report (account_deciding script report (decisions_of script report)))
    ↔ Keeps script report rule_count
