-- The fourteenth rule, at the account with what reads found and what decisions say: what is looked at of each step.
use Rattle.std.specs.Prelude.{◌≡◌, ◌↔◌, Bool, ℕ, List, Some}
use Rattle.log_node.specs.declared.ids.Key.{Key}
use Rattle.log_node.specs.declared.node.Node.{Node}
use Rattle.log_node.specs.Vectors.{at}
use Rattle.object_fold.specs.Nodes.{ObjectNode}
use Rattle.part_fold.specs.Decisions.{decision_text}
use Rattle.col_core.specs.Keeping.{Kept}
use Rattle.script_text.specs.Fitting.{IsFitting}
use Rattle.script_text.specs.declared.commands.What.{What}
use Rattle.script_text.specs.declared.script.Script.{Script}
use Rattle.report_text.specs.declared.report.Answer.{Answer}
use Rattle.report_text.specs.declared.report.Answer.TheVariants as answers
use Rattle.report_text.specs.declared.report.Ended.{Ended}
use Rattle.report_text.specs.declared.report.Report.{Report}
use Rattle.report_text.specs.declared.report.SyncPiece.{SyncPiece}
use Rattle.lawful_run.specs.Asks.{kind_asked, object_colours, rising}
use Rattle.lawful_run.specs.Callers.{Caller}
use Rattle.lawful_run.specs.Parts.{AnswersGet, AnswersUndecided, IsRuledAs, OfPart, WaitsFor}
use Rattle.run_rules.specs.Computing.{finds_of}
use Rattle.run_rules.specs.Deciding.{account_deciding, decisions_of}
use Rattle.run_rules.specs.Keeping.{Keeps}
use Rattle.run_rules.specs.Nodes.{nodes_with}
use Rattle.run_rules.specs.Shown.{OfParts, Rule14, SaysSo}
use Rattle.run_rules.specs.Telling.{account_of, no_nodes}
use Rattle.run_rules.specs.Told.{OfEachStep, Step, kept_at}
use Rattle.object_law.specs.NodeTables.{AreNodes}
use Rattle.object_law.specs.Showing.{ShownAreDecided}
use Rattle.object_law.specs.Tenth.{line_nodes, log_with, stamped_nodes}
use Rattle.walk_law.specs.Walking.{Walked}

-- the own nodes that a sync played
abbrev pub synced_nodes : Walked → List (List Node) → Caller → SyncPiece → List ObjectNode
synced_nodes walked table caller sync = line_nodes walked table caller.own sync.colour (at sync.counts caller.own)

-- the nodes of all colours of an object up to a stamp
abbrev pub object_nodes : Walked → List (List Node) → Caller → List ℕ → ℕ → List ObjectNode
object_nodes walked table caller colours stamp = stamped_nodes walked table caller.own (rising colours) stamp

-- A decision of a map with these colours is right: its part waits for a transaction with this stamp, which commits among the nodes
-- of all colours, or does not, as the node of the decision says.
abbrev pub IsDecision : Walked → List (List Node) → Caller → Kept → List ℕ → Bool → ℕ → SyncPiece → ℕ → Ended → Type 0
IsDecision walked table caller kept own commits stamp sync read_stamp ended =
    (waits : Key) × (stamp ≡ waits.stamp)
    × OfPart own sync.colour (WaitsFor (Some waits)) (synced_nodes walked table caller sync)
    × IsRuledAs waits commits (object_nodes walked table caller own read_stamp)
    × SaysSo (log_with walked table) caller kept (decision_text (record { key = waits; commits = commits })) ended

-- An answer of a map that is played by its parts is right by the nodes in a table.
abbrev pub IsPartAnswer : Walked → List (List Node) → Caller → Kept → What → Answer → Type 0
IsPartAnswer walked table caller kept what (answers.Got value sync) =
    OfParts (kind_asked caller what) (AnswersGet caller what sync value (synced_nodes walked table caller sync))
IsPartAnswer walked table caller kept what (answers.Undecided stamp sync) =
    AnswersUndecided caller what sync stamp (synced_nodes walked table caller sync)
IsPartAnswer walked table caller kept what (answers.Decided commits stamp sync read_stamp raises syncs ended) =
    IsDecision walked table caller kept (object_colours (kind_asked caller what)) commits stamp sync read_stamp ended
IsPartAnswer walked table caller kept what _ = Unit {0}

-- what is asked of a step
abbrev pub AnswersByParts : Walked → List (List Node) → Caller → Step → Type 0
AnswersByParts walked table caller step =
    IsPartAnswer walked table caller (kept_at step) step.command.what step.reply.answer

-- Where a report keeps the rules before the last and the decisions that are computed are those that are shown, the last rule holds
-- at their account where the answer to each step is right by its nodes.
abbrev pub FourteenthIsOfParts : Type 0
FourteenthIsOfParts = (script : Script) (report : Report) (table : List (List Node)) → IsFitting script
    → Keeps script report 13 → ShownAreDecided script report
    → AreNodes (nodes_with script report (finds_of script report) (decisions_of script report)) table
    → OfEachStep script report (account_of script report no_nodes)
    (AnswersByParts (record { script = script; report = report }) table)
    ↔ Rule14 script report (account_deciding script report (decisions_of script report))
