-- What reads found, and when it is what they had to find.
use Rattle.std.specs.Prelude.{◌≡◌, ◌⊎◌, ℕ, List, Some, slice_get}
use Rattle.std.specs.List.{AllZip}
use Rattle.log_node.specs.declared.node.Node.{Node}
use Rattle.log_node.specs.declared.forms.Version.{Version}
use Rattle.object_fold.specs.Nodes.{ObjectNode}
use Rattle.object_fold.specs.Transactions.{versions_after}
use Rattle.col_core.specs.Log.{Log}
use Rattle.col_core.specs.Keeping.{Kept}
use Rattle.script_text.specs.declared.commands.What.{What}
use Rattle.script_text.specs.declared.commands.What.TheVariants as whats
use Rattle.script_text.specs.declared.script.Script.{Script}
use Rattle.report_text.specs.declared.report.Answer.{Answer}
use Rattle.report_text.specs.declared.report.Answer.TheVariants as answers
use Rattle.report_text.specs.declared.report.ClientReport.{ClientReport}
use Rattle.report_text.specs.declared.report.Report.{Report}
use Rattle.lawful_run.specs.Callers.{Caller}
use Rattle.lawful_run.specs.Deeds.{ADecision, IsText}
use Rattle.run_rules.specs.Told.{Step, Account, OfEachStep}
use Rattle.run_rules.specs.Shown.{OfNodesRead}

-- what a read of keys found is what the transactions among the nodes that it read left of them
abbrev pub IsFound : Log → Caller → What → Answer → List Version → Type 0
IsFound log caller (whats.Read object asked) (answers.GotKeys stamp shown raises syncs) found =
    OfNodesRead log caller stamp syncs (λ (nodes : List ObjectNode). found ≡ versions_after nodes asked)
IsFound log caller _ _ found = Unit {0}

-- so it is of each read of an account, by the account's own log
pub record HasItsFinds (script : Script) (report : Report) (account : Account) : Type 0 where
  pub found : OfEachStep script report account (λ caller step.
      IsFound account.log caller step.command.what step.reply.answer step.untold.found)

-- two clients keep the same of their reads
abbrev pub KeepReads : Kept → Kept → Type 0
KeepReads a b = (object : ℕ) → a.reads object ≡ b.reads object

-- two nodes have one text, or each that of some decision
abbrev pub HaveText : Node → Node → Type 0
HaveText a b = (a.text ≡ b.text) ⊎ (IsText ADecision a.text × IsText ADecision b.text)

-- where the answer is that of a read, it found the same
abbrev pub FoundSame : What → Answer → List Version → List Version → Type 0
FoundSame (whats.Read object asked) (answers.GotKeys stamp shown raises syncs) one other = one ≡ other
FoundSame _ _ one other = Unit {0}

-- the reads of clients found the same by both accounts
abbrev pub ReadsFoundSame : Report → Account → Account → Type 0
ReadsFoundSame report a b = (n : ℕ) (c : ClientReport) → slice_get report.clients n ≡ Some c
    → AllZip (λ (x y : Step). FoundSame x.command.what x.reply.answer x.untold.found y.untold.found) (a.steps n) (b.steps n)

-- The accounts tell the same of what reads found, and so of texts, but for those of decisions.
pub record AgreeOnFinds (report : Report) (a b : Account) : Type 0 where
  pub found : ReadsFoundSame report a b
  pub steps : (n : ℕ) (c : ClientReport) → slice_get report.clients n ≡ Some c
      → AllZip (λ (x y : Step). KeepReads x.kept y.kept) (a.steps n) (b.steps n)
  pub last : (n : ℕ) (c : ClientReport) → slice_get report.clients n ≡ Some c → KeepReads (a.last n) (b.last n)
  pub nodes : (n : ℕ) (c : ClientReport) → slice_get report.clients n ≡ Some c
      → AllZip HaveText (a.log.nodes n) (b.log.nodes n)

-- two nodes that have the texts of decisions have the same one
abbrev pub DecideSame : Node → Node → Type 0
DecideSame a b = IsText ADecision a.text → IsText ADecision b.text → a.text ≡ b.text

-- the texts of decisions are the same by both accounts
abbrev pub DecisionsSame : Report → Account → Account → Type 0
DecisionsSame report a b = (n : ℕ) (c : ClientReport) → slice_get report.clients n ≡ Some c
    → AllZip DecideSame (a.log.nodes n) (b.log.nodes n)

-- the nodes of clients have the same texts by both accounts, and reads found the same
pub record FindSame (report : Report) (a b : Account) : Type 0 where
  pub texts : (n : ℕ) (c : ClientReport) → slice_get report.clients n ≡ Some c
      → AllZip (λ (x y : Node). x.text ≡ y.text) (a.log.nodes n) (b.log.nodes n)
  pub found : ReadsFoundSame report a b
