-- The nodes that commands appended, but for what their texts say of what reads found.
use Rattle.std.specs.Prelude.{◌≡◌, ℕ, List, [], map, Option, Some, None, slice_get, slice_index_or}
use Rattle.std.specs.Option.{option_map}
use Rattle.log_node.specs.declared.ids.Id.{Id}
use Rattle.log_node.specs.declared.node.Node.{Node}
use Rattle.log_node.specs.declared.forms.Form.TheVariants as forms
use Rattle.log_node.specs.declared.forms.Pair.{Pair}
use Rattle.log_node.specs.declared.forms.Version.{Version}
use Rattle.object_form.specs.Forms.{form_text}
use Rattle.part_fold.specs.declared.decision.Decision.{Decision}
use Rattle.col_core.specs.Keeping.{Kept}
use Rattle.script_text.specs.declared.script.Command.{Command}
use Rattle.script_text.specs.declared.commands.What.{What}
use Rattle.script_text.specs.declared.commands.What.TheVariants as whats
use Rattle.report_text.specs.declared.report.Answer.{Answer}
use Rattle.report_text.specs.declared.report.ReplyLine.{ReplyLine}
use Rattle.lawful_run.specs.Callers.{Caller, caller_of, commands_of}
use Rattle.lawful_run.specs.Refusals.{kept_before}
use Rattle.run_rules.specs.Nodes.{node_told, nodes_with}
use Rattle.run_rules.specs.Said.{with_text}
use Rattle.run_rules.specs.Telling.{replies_to, step_finding}
use Rattle.run_rules.specs.Told.{kept_past}
use Rattle.object_law.specs.declared.drafts.Draft.{Draft}
use Rattle.object_law.specs.declared.drafts.Used.{Used}
use Rattle.walk_law.specs.Finds.{CountsFinding, FindsKeys, node_appended, node_list}
use Rattle.walk_law.specs.Keepings.{Counted}
use Rattle.walk_law.specs.Walking.{Walked, log_walked, places_printed}

-- the pairs that a command writes, if it is a commit
abbrev pub pairs_written : What → List Pair
pairs_written (whats.Commit object pairs) = pairs
pairs_written _ = []

abbrev pub pairs_in : Option Command → List Pair
pairs_in None = []
pairs_in (Some command) = pairs_written command.what

-- those of the command in this place
abbrev pub pairs_at : List Command → ℕ → List Pair
pairs_at commands place = pairs_in (slice_get commands place)

-- what the read found that is used up, where there is one
abbrev pub found_used : (ℕ → List Version) → Option Used → Option (List Version)
found_used found used = option_map (λ (u : Used). found u.read) used

-- the text of a commit by it
abbrev pub text_used : List Command → (ℕ → List Version) → Used → List ℕ
text_used commands found used = form_text (forms.Transaction (found used.read) (pairs_at commands used.commit))

-- the node of a draft, where a client's reads found this
abbrev pub filled : List Command → (ℕ → List Version) → Draft → Node
filled commands found draft = with_text (option_map (text_used commands found) draft.used) draft.node

-- where reads found this, the draft is that of the command's node, or there is none
abbrev pub SaysDraft : List Command → (ℕ → List Version) → Decision → Caller → Kept → What → Answer → Option Draft → Type 0
SaysDraft commands found decision caller kept what answer made =
    node_list (option_map (filled commands found) made) ≡ node_appended decision caller kept what answer

-- One step of a client's commands, whose reads found this: the node that is told of it, and what is counted behind it.
pub record StepsOn (walked : Walked) (client place : ℕ) (found : ℕ → List Version) (decision : Decision) (kept : Kept)
    (made : Option Draft) (now : Counted) (table : List (Option ℕ)) (command : Command) (reply : ReplyLine) : Type 0 where
  pub node : node_list (option_map (filled (commands_of walked.script client) found) made)
      ≡ node_told decision (log_walked walked) (caller_of walked.script client) (kept_before command.what kept) command.what
      reply.answer
  pub behind : CountsFinding (replies_to walked.report client) found (kept_past (log_walked walked) (caller_of walked.script client)
      (step_finding (log_walked walked) (caller_of walked.script client) (places_printed walked client) (found place) kept command
      reply)) now table

-- these are the drafts of a client's nodes, whatever its reads found of the keys that replies show
abbrev pub AreDraftsOf : Walked → (ℕ → ℕ → Decision) → ℕ → List Draft → Type 0
AreDraftsOf walked decided client drafts = (found : ℕ → ℕ → List Version) → FindsKeys walked.report found
    → map (filled (commands_of walked.script client) (found client)) drafts ≡ nodes_with walked.script walked.report found decided client

-- the drafts of a client's nodes, in a table
abbrev pub drafts_at : List (List Draft) → ℕ → List Draft
drafts_at table client = slice_index_or table client []

-- that of the node with this id, where there is one
abbrev pub draft_in : List (List Draft) → Id → Option Draft
draft_in table id = slice_get (drafts_at table id.client) id.count

-- under the number of each client are the drafts of its nodes
abbrev pub AreDrafts : Walked → (ℕ → ℕ → Decision) → List (List Draft) → Type 0
AreDrafts walked decided table = (client : ℕ) → AreDraftsOf walked decided client (drafts_at table client)
