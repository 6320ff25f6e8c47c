-- What reads found, in a table, and by it the nodes that commands appended.
use Rattle.std.specs.Prelude.{◌≡◌, ℕ, ◌<◌, List, [], ◌∷◌, map, Option, Some, None, slice_get, slice_index_or, if◌then◌else◌}
use Rattle.std.specs.Option.{option_map}
use Rattle.log_node.specs.declared.ids.Colours.{Colours}
use Rattle.log_node.specs.declared.ids.Counts.{Counts}
use Rattle.log_node.specs.declared.node.Node.{Node}
use Rattle.log_node.specs.declared.forms.Version.{Version}
use Rattle.log_node.specs.Sets.{set_of}
use Rattle.part_fold.specs.declared.decision.Decision.{Decision}
use Rattle.col_core.specs.Keeping.{Kept}
use Rattle.script_text.specs.declared.commands.What.{What}
use Rattle.script_text.specs.declared.commands.What.TheVariants as whats
use Rattle.report_text.specs.declared.report.Answer.{Answer}
use Rattle.report_text.specs.declared.report.ClientReport.{ClientReport}
use Rattle.report_text.specs.declared.report.ReplyLine.{ReplyLine}
use Rattle.report_text.specs.declared.report.Report.{Report}
use Rattle.lawful_run.specs.Callers.{Caller, node_of}
use Rattle.lawful_run.specs.Deeds.{Saying}
use Rattle.run_rules.specs.Nodes.{any_decision, node_asked, text_told}
use Rattle.run_rules.specs.Telling.{FindKeys}
use Rattle.run_rules.specs.Told.{is_several}
use Rattle.walk_law.specs.Asking.{colours_in}
use Rattle.walk_law.specs.Keepings.{Counted, IsCounted, start_at}
use Rattle.walk_law.specs.TextsSaid.{tells_node}

-- TABLES

-- what a client's read found, by the number of its command
abbrev pub finds_at : List (List (List Version)) → ℕ → ℕ → List Version
finds_at table client k = slice_index_or (slice_index_or table client []) k []

-- what is found is of the keys that replies show
abbrev pub FindsKeys : Report → (ℕ → ℕ → List Version) → Type 0
FindsKeys report found = (n : ℕ) (c : ClientReport) → slice_get report.clients n ≡ Some c → FindKeys (found n) c.replies

-- what a client's decision says, by the number of its command; where none is listed, nothing that is known
abbrev pub decision_at : List (List Decision) → ℕ → ℕ → Decision
decision_at table client k = slice_index_or (slice_index_or table client []) k any_decision

-- THE READS THAT COMMITS USE UP

-- the place of an object's read, in a table
abbrev pub place_at : List (Option ℕ) → ℕ → Option ℕ
place_at table object = slice_index_or table object None

-- The reads that commits may use up, by object, found what is found by the replies in these places.
abbrev pub AreFoundAt : (ℕ → List Version) → (ℕ → Option (List Version)) → List (Option ℕ) → Type 0
AreFoundAt found reads table = (object : ℕ) → object < 256 → reads object ≡ option_map found (place_at table object)

-- What a client keeps is counted, whose reads found this, and the places of those that commits may use up stand in a table.
pub record CountsFinding (replies : List ReplyLine) (found : ℕ → List Version) (kept : Kept) (now : Counted)
    (table : List (Option ℕ)) : Type 0 where
  pub counted : IsCounted replies kept now
  pub reads : AreFoundAt found kept.reads table

-- NODES

-- the set of the colours on which a command appends, which are these
abbrev pub set_asked : What → List ℕ → Colours
set_asked (whats.Append colours text) asked = colours
set_asked (whats.Stop steps colours text) asked = colours
set_asked _ asked = set_of asked

-- the text that is said, where one is; a decision says this
abbrev pub text_of : Decision → Option Saying → Option (List ℕ)
text_of decision saying = option_map (λ (s : Saying). text_told decision s.text) saying

-- what a node on these colours wants, by what is counted
abbrev pub wants_in : Counted → Colours → List Counts
wants_in counted colours = map (start_at counted) (colours_in colours)

-- the node with this text, of a client that keeps this, on these colours; none where there is no text
abbrev pub node_with : Caller → Kept → Colours → Option (List ℕ) → List Node
node_with caller kept colours None = []
node_with caller kept colours (Some text) = node_of caller kept colours text ∷ []

-- a node, where there is one
abbrev pub node_list : Option Node → List Node
node_list None = []
node_list (Some node) = node ∷ []

-- the node of a command of a client that keeps this when it is appended, where the answer tells one
abbrev pub node_appended : Decision → Caller → Kept → What → Answer → List Node
node_appended decision caller kept what answer =
    if tells_node (is_several caller kept what) answer then node_asked decision caller kept what else []
