-- When the nodes of an account are those of its commands; and these nodes, of script and report.
use Rattle.std.specs.Prelude.{◌≡◌, false, IsTrue, ℕ, zero, suc, List, [], ◌∷◌, ◌++◌, length, Option, Some, None, slice_get, if◌then◌else◌}
use Rattle.log_node.specs.declared.ids.Colours.{Colours}
use Rattle.log_node.specs.declared.node.Node.{Node}
use Rattle.log_node.specs.declared.forms.Version.{Version}
use Rattle.log_node.specs.Sets.{set_of}
use Rattle.part_fold.specs.declared.decision.Decision.{Decision}
use Rattle.part_fold.specs.Decisions.{decision_text}
use Rattle.col_core.specs.Log.{Log}
use Rattle.col_core.specs.Keeping.{Kept}
use Rattle.script_text.specs.declared.commands.What.{What}
use Rattle.script_text.specs.declared.script.Script.{Script}
use Rattle.script_text.specs.Commands.{use_of}
use Rattle.report_text.specs.declared.report.Answer.{Answer}
use Rattle.report_text.specs.declared.report.Answer.TheVariants as answers
use Rattle.report_text.specs.declared.report.Ended.{Ended}
use Rattle.report_text.specs.declared.report.Ended.TheVariants as ends
use Rattle.report_text.specs.declared.report.ClientReport.{ClientReport}
use Rattle.report_text.specs.declared.report.Report.{Report}
use Rattle.lawful_run.specs.Callers.{Caller, caller_of, node_of}
use Rattle.lawful_run.specs.Asks.{object_colours, kind_asked}
use Rattle.lawful_run.specs.Deeds.{Reach, Named, TextSaid, Exactly, ADecision, Saying, colours_reached, saying_of, found_by}
use Rattle.run_rules.specs.Told.{Step, Account, OfEachStep, is_several, kept_at, kept_deciding}
use Rattle.run_rules.specs.Telling.{account_of, account_with, log_of, no_nodes}
use Rattle.run_rules.specs.Rules.{HasNode}

-- a decision's node, where it stands, is the command's
abbrev pub HasNodeAtEnd : Log → Caller → Kept → What → Ended → Type 0
HasNodeAtEnd log caller kept what (ends.Stood stamp point) = HasNode log caller kept what
HasNodeAtEnd log caller kept what _ = Unit {0}

-- Where an answer to an append used an id up, the client's next node is the command's: of rule 5 what is not of the events.
abbrev pub HasItsNode : Log → Caller → Kept → What → Answer → Type 0
HasItsNode log caller kept what (answers.Stood stamp row points) = HasNode log caller kept what
HasItsNode log caller kept what (answers.StampEnd colour) =
    IsTrue (is_several caller kept what) → HasNode log caller kept what
HasItsNode log caller kept what (answers.Stopped zero) = Unit {0}
HasItsNode log caller kept what (answers.Stopped (suc steps)) = HasNode log caller kept what
HasItsNode log caller kept what (answers.Ruled conflict stamp row points read_stamp raises syncs) =
    HasNode log caller kept what
HasItsNode log caller kept what (answers.Changed failed stamp row points read_stamp raises syncs) =
    HasNode log caller kept what
HasItsNode log caller kept what (answers.Took value point sync) = HasNode log caller kept what
HasItsNode log caller kept what (answers.Decided commits stamp sync read_stamp raises syncs ended) =
    HasNodeAtEnd log caller (kept_deciding log caller kept sync read_stamp raises syncs) what ended
HasItsNode log caller kept what _ = Unit {0}

-- the account has the nodes of its commands, and no more
pub record HasItsNodes (script : Script) (report : Report) (account : Account) : Type 0 where
  pub steps : OfEachStep script report account (λ caller step.
      HasItsNode account.log caller (kept_at step) step.command.what step.reply.answer)
  pub all : (n : ℕ) (c : ClientReport) → slice_get report.clients n ≡ Some c
      → length (account.log.nodes n) ≡ (account.last n).ids

-- THE NODES OF SCRIPT AND REPORT

-- a set of the colours of a reach
abbrev pub set_reached : List ℕ → Reach → Colours
set_reached own (Named colours) = colours
set_reached own reach = set_of (colours_reached own reach)

-- the text that is said; a decision says this
abbrev pub text_told : Decision → TextSaid → List ℕ
text_told decision (Exactly text) = text
text_told decision ADecision = decision_text decision

-- the node that is said, of an object with its own colours, where one is said
abbrev pub node_said : Decision → Caller → Kept → List ℕ → Option Saying → List Node
node_said decision caller kept own None = []
node_said decision caller kept own (Some saying) =
    node_of caller kept (set_reached own saying.reach) (text_told decision saying.text) ∷ []

-- the node that a command appends over what its client keeps
abbrev pub node_asked : Decision → Caller → Kept → What → List Node
node_asked decision caller kept what =
    node_said decision caller kept (object_colours (kind_asked caller what))
    (saying_of (kind_asked caller what) (found_by (use_of what) kept) what)

-- a decision's, where it stands
abbrev pub node_at_end : Decision → Caller → Kept → What → Ended → List Node
node_at_end decision caller kept what (ends.Stood stamp point) = node_asked decision caller kept what
node_at_end decision caller kept what _ = []

-- the node that a command appended, where its answer used an id up
abbrev pub node_told : Decision → Log → Caller → Kept → What → Answer → List Node
node_told decision log caller kept what (answers.Stood stamp row points) = node_asked decision caller kept what
node_told decision log caller kept what (answers.StampEnd colour) =
    if is_several caller kept what then node_asked decision caller kept what else []
node_told decision log caller kept what (answers.Stopped zero) = []
node_told decision log caller kept what (answers.Stopped (suc steps)) = node_asked decision caller kept what
node_told decision log caller kept what (answers.Ruled conflict stamp row points read_stamp raises syncs) =
    node_asked decision caller kept what
node_told decision log caller kept what (answers.Changed failed stamp row points read_stamp raises syncs) =
    node_asked decision caller kept what
node_told decision log caller kept what (answers.Took value point sync) = node_asked decision caller kept what
node_told decision log caller kept what (answers.Decided commits stamp sync read_stamp raises syncs ended) =
    node_at_end decision caller (kept_deciding log caller kept sync read_stamp raises syncs) what ended
node_told decision log caller kept what _ = []

-- those of steps, where the decisions of these, by their number, say this
abbrev pub nodes_of : (ℕ → Decision) → Log → Caller → List Step → List Node
nodes_of decided log caller [] = []
nodes_of decided log caller (s ∷ ss) =
    node_told (decided 0) log caller (kept_at s) s.command.what s.reply.answer
    ++ nodes_of (λ k. decided (suc k)) log caller ss

-- a decision, on a transaction of nobody's
abbrev pub any_decision : Decision
any_decision = record { key = record { stamp = 0; id = record { client = 0; count = 0 } }; commits = false }

-- the nodes of each client's commands, by the account that is computed with no nodes given; what decisions say no reply prints
abbrev pub nodes_told : Script → Report → ℕ → List Node
nodes_told script report client =
    nodes_of (λ k. any_decision) (log_of report no_nodes) (caller_of script client)
    ((account_of script report no_nodes).steps client)

-- the same where reads found this and decisions say this, by the client and the number of its command
abbrev pub nodes_with : Script → Report → (ℕ → ℕ → List Version) → (ℕ → ℕ → Decision) → ℕ → List Node
nodes_with script report found decided client =
    nodes_of (decided client) (log_of report no_nodes) (caller_of script client)
    ((account_with script report no_nodes found).steps client)
