-- The tenth rule, at the account with what reads found and node lines show: what is looked at of each step.
use Rattle.std.specs.Prelude.{◌≡◌, ◌↔◌, ℕ, List, Option, Some, take}
use Rattle.log_node.specs.declared.node.Node.{Node}
use Rattle.log_node.specs.Vectors.{at}
use Rattle.object_fold.specs.Maps.{Value, shard_value, values_among}
use Rattle.object_fold.specs.Nodes.{ObjectNode}
use Rattle.object_fold.specs.Queues.{front_after}
use Rattle.object_fold.specs.Transactions.{values_after}
use Rattle.col_core.specs.History.{line}
use Rattle.col_core.specs.Keeping.{Kept}
use Rattle.col_core.specs.Log.{Log}
use Rattle.playback.specs.Merging.{region_order}
use Rattle.script_text.specs.Fitting.{IsFitting}
use Rattle.script_text.specs.declared.commands.What.{What}
use Rattle.script_text.specs.declared.commands.What.TheVariants as whats
use Rattle.script_text.specs.declared.script.Kind.{Kind}
use Rattle.script_text.specs.declared.script.Kind.TheVariants as kinds
use Rattle.script_text.specs.declared.script.Script.{Script}
use Rattle.report_text.specs.declared.report.Answer.{Answer}
use Rattle.report_text.specs.declared.report.Answer.TheVariants as answers
use Rattle.report_text.specs.declared.report.KeyAnswer.{KeyAnswer}
use Rattle.report_text.specs.declared.report.Report.{Report}
use Rattle.lawful_run.specs.Asks.{colours_of_object, kind_asked}
use Rattle.lawful_run.specs.Callers.{Caller}
use Rattle.lawful_run.specs.Deeds.{colours_synced}
use Rattle.lawful_run.specs.Explains.{ShowsVerdict}
use Rattle.lawful_run.specs.Objects.{AreAnswers, GetsValues}
use Rattle.run_rules.specs.Deciding.{account_showing, nodes_showing}
use Rattle.run_rules.specs.Finding.{HasItsFinds}
use Rattle.run_rules.specs.Keeping.{RulesTo}
use Rattle.run_rules.specs.Shown.{Rule10, own_key}
use Rattle.run_rules.specs.Telling.{IsWellFormed, account_of, log_of, no_nodes}
use Rattle.run_rules.specs.Told.{OfEachStep, Step, kept_at, stamp_told}
use Rattle.object_law.specs.KeysRead.{whole_lines}
use Rattle.object_law.specs.NodeTables.{AreNodes, nodes_at, nodes_under}
use Rattle.walk_law.specs.Walking.{Walked, journal_walked, log_walked}

-- NODES

-- the log that is walked over, where clients appended the nodes in a table
abbrev pub log_with : Walked → List (List Node) → Log
log_with walked table = log_of walked.report (nodes_at table)

-- the first nodes of a column's own line, so many
abbrev pub line_nodes : Walked → List (List Node) → ℕ → ℕ → ℕ → List ObjectNode
line_nodes walked table region colour count = nodes_under table (take count (line (journal_walked walked region colour)))

-- the nodes of some colours of a region up to a stamp, in the region's order
abbrev pub stamped_nodes : Walked → List (List Node) → ℕ → List ℕ → ℕ → List ObjectNode
stamped_nodes walked table region colours stamp =
    nodes_under table (region_order stamp (whole_lines (log_walked walked) region colours))

-- ANSWERS

-- this is so of the key for which a command asks alone
abbrev pub OfKeyAsked : What → (List ℕ → Type 0) → Type 0
OfKeyAsked (whats.Get object key) Says = Says key
OfKeyAsked (whats.Peek object key) Says = Says key
OfKeyAsked _ Says = ⊥

-- where the object is a map, the value is that of the key in the shard with this colour; other kinds have rules of their own
abbrev pub IsMapValue : Option Kind → ℕ → What → Value → List ObjectNode → Type 0
IsMapValue (Some (kinds.Map home colours)) colour what value nodes =
    OfKeyAsked what (λ key. value ≡ shard_value colours colour nodes key)
IsMapValue _ colour what value nodes = Unit {0}

-- the values are those of the keys for which the command asks
abbrev pub AreValuesAsked : Caller → What → List KeyAnswer → List ObjectNode → Type 0
AreValuesAsked caller (whats.GetAll object asked) shown nodes =
    AreAnswers asked (values_among (colours_of_object caller object) nodes asked) shown
AreValuesAsked caller (whats.Read object asked) shown nodes = AreAnswers asked (values_after nodes asked) shown
AreValuesAsked caller _ shown nodes = ⊥

-- An answer is right by the nodes in a table.
abbrev pub IsRightAnswer : Walked → List (List Node) → Caller → Kept → What → Answer → Type 0
IsRightAnswer walked table caller kept what (answers.Got value sync) =
    IsMapValue (kind_asked caller what) sync.colour what value
    (line_nodes walked table caller.own sync.colour (at sync.counts caller.own))
IsRightAnswer walked table caller kept what (answers.GotMany values sync) =
    OfKeyAsked what (λ key. GetsValues (log_with walked table) caller sync key values)
IsRightAnswer walked table caller kept what (answers.GotKeys stamp shown raises syncs) =
    AreValuesAsked caller what shown (stamped_nodes walked table caller.own (colours_synced caller what) stamp)
IsRightAnswer walked table caller kept what (answers.Ruled conflict stamp row points read_stamp raises syncs) =
    ShowsVerdict conflict stamp (own_key caller kept (stamp_told (log_walked walked) caller kept row points))
    (stamped_nodes walked table caller.own (colours_synced caller what) read_stamp)
IsRightAnswer walked table caller kept what (answers.Took value point sync) =
    value ≡ front_after (line_nodes walked table caller.own point.colour point.position)
IsRightAnswer walked table caller kept what _ = Unit {0}

-- what is asked of a step
abbrev pub AnswersSo : Walked → List (List Node) → Caller → Step → Type 0
AnswersSo walked table caller step =
    IsRightAnswer walked table caller (kept_at step) step.command.what step.reply.answer

-- THE RULE

-- At the account by which reports are judged from the tenth rule on, where it keeps the rules before, reads found what they had to.
abbrev pub ShownFindsAreRight : Type 0
ShownFindsAreRight = (script : Script) (report : Report) → IsFitting script → IsWellFormed script report
    → RulesTo script report (account_showing script report) 9 → HasItsFinds script report (account_showing script report)

-- There the tenth rule holds where the answer to each step is right by the account's nodes.
abbrev pub TenthIsRight : Type 0
TenthIsRight = (script : Script) (report : Report) (table : List (List Node)) → IsFitting script → IsWellFormed script report
    → AreNodes (nodes_showing script report) table → RulesTo script report (account_showing script report) 9
    → OfEachStep script report (account_of script report no_nodes)
    (AnswersSo (record { script = script; report = report }) table)
    ↔ Rule10 script report (account_showing script report)
