-- The texts that node lines show, and which texts the commands of nodes could have said.
use Rattle.std.specs.Prelude.{◌≡◌, Bool, ℕ, List, map, Option, Some, None, slice_get}
use Rattle.std.specs.List.{All, find, flat_map}
use Rattle.std.specs.Option.{option_map}
use Rattle.log_node.specs.declared.ids.Id.{Id}
use Rattle.log_node.specs.declared.node.Node.{Node}
use Rattle.log_node.specs.declared.forms.Version.{Version}
use Rattle.log_node.specs.Order.{same_id}
use Rattle.log_node.specs.Seen.{PlacedNode}
use Rattle.col_core.specs.Log.{Log}
use Rattle.col_core.specs.Keeping.{Kept}
use Rattle.script_text.specs.declared.commands.What.{What}
use Rattle.script_text.specs.declared.script.Script.{Script}
use Rattle.script_text.specs.Commands.{use_of}
use Rattle.report_text.specs.declared.report.ClientReport.{ClientReport}
use Rattle.report_text.specs.declared.report.ReplyLine.{ReplyLine}
use Rattle.report_text.specs.declared.report.Report.{Report}
use Rattle.lawful_run.specs.Callers.{Caller}
use Rattle.lawful_run.specs.Asks.{kind_asked}
use Rattle.lawful_run.specs.Deeds.{ADecision, IsText, Saying, found_by, saying_of}
use Rattle.run_rules.specs.Told.{Account, Step, OfEachStep, kept_at}
use Rattle.run_rules.specs.Telling.{account_of, log_of, no_nodes}
use Rattle.run_rules.specs.Nodes.{any_decision, node_told, nodes_told}
use Rattle.run_rules.specs.Agreeing.{keys_found}
use Rattle.run_rules.specs.Keeping.{all_replies}

-- all node lines of a report, in its order
abbrev pub node_lines : Report → List PlacedNode
node_lines report = flat_map (λ (r : ReplyLine). r.nodes) (all_replies report)

-- the line shows the node with this id
abbrev pub is_line_of : Id → PlacedNode → Bool
is_line_of id item = same_id id item.head.key.id

-- the text that the first node line of an id shows, if there is one
abbrev pub shown_text : Report → Id → Option (List ℕ)
shown_text report id =
    option_map (λ (item : PlacedNode). item.node.text) (find (is_line_of id) (node_lines report))

-- a node with this text, where there is one
abbrev pub with_text : Option (List ℕ) → Node → Node
with_text None node = node
with_text (Some text) node = record node { text = text }

-- the nodes of each client's commands, each with the text that is shown of it, where one is
abbrev pub nodes_shown : Script → Report → ℕ → List Node
nodes_shown script report client =
    map (λ (node : Node). with_text (shown_text report node.id) node) (nodes_told script report client)

-- a node that is said has this text
abbrev pub SaysText : Option Saying → List ℕ → Type 0
SaysText None text = ⊥
SaysText (Some saying) text = IsText saying.text text

-- The command could have its node say this, whoever wrote what the read found that it uses up.
abbrev pub CouldSay : Caller → Kept → What → List ℕ → Type 0
CouldSay caller kept what text =
    (found : Option (List Version)) × (keys_found found ≡ keys_found (found_by (use_of what) kept))
    × SaysText (saying_of (kind_asked caller what) found what) text

-- the text that is shown of a step's node, where one is, is one that its command could have said
abbrev pub CouldSayShown : Report → Log → Caller → Step → Type 0
CouldSayShown report log caller step = All (λ (node : Node). (text : List ℕ) → shown_text report node.id ≡ Some text
    → CouldSay caller (kept_at step) step.command.what text)
    (node_told any_decision log caller (kept_at step) step.command.what step.reply.answer)

-- so it is of all nodes that script and report tell
abbrev pub ShownCouldBeSaid : Script → Report → Type 0
ShownCouldBeSaid script report =
    OfEachStep script report (account_of script report no_nodes) (CouldSayShown report (log_of report no_nodes))

-- a decision's node says what is shown of it, where that is what some decision says
abbrev pub DecidesAsShown : Report → Node → Type 0
DecidesAsShown report node = (text : List ℕ) → shown_text report node.id ≡ Some text → IsText ADecision text
    → IsText ADecision node.text → node.text ≡ text

-- so do all of an account
abbrev pub DecisionsShown : Report → Account → Type 0
DecisionsShown report account = (n : ℕ) (c : ClientReport) → slice_get report.clients n ≡ Some c
    → All (DecidesAsShown report) (account.log.nodes n)
