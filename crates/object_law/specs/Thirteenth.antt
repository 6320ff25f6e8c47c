-- The thirteenth rule, at the account with what reads found and node lines show: what trees say of each step.
use Rattle.std.specs.Prelude.{◌≡◌, ◌↔◌, ℕ, List, Option}
use Rattle.log_node.specs.declared.node.Node.{Node}
use Rattle.log_node.specs.declared.ids.Key.{Key}
use Rattle.object_form.specs.declared.tree_why.TreeWhy.{TreeWhy}
use Rattle.col_core.specs.Keeping.{Kept}
use Rattle.script_text.specs.Fitting.{IsFitting}
use Rattle.script_text.specs.declared.commands.What.{What}
use Rattle.script_text.specs.declared.commands.What.TheVariants as whats
use Rattle.script_text.specs.declared.script.Script.{Script}
use Rattle.report_text.specs.declared.report.Answer.{Answer}
use Rattle.report_text.specs.declared.report.Answer.TheVariants as answers
use Rattle.report_text.specs.declared.report.Report.{Report}
use Rattle.lawful_run.specs.Callers.{Caller}
use Rattle.lawful_run.specs.Deeds.{colours_synced}
use Rattle.lawful_run.specs.Explains.{ShowsChange, ShowsNames}
use Rattle.run_rules.specs.Deciding.{account_showing, nodes_showing}
use Rattle.run_rules.specs.Keeping.{RulesTo}
use Rattle.run_rules.specs.Shown.{Rule13, own_key}
use Rattle.run_rules.specs.Telling.{IsWellFormed, account_of, no_nodes}
use Rattle.run_rules.specs.Told.{OfEachStep, Step, kept_at, stamp_told}
use Rattle.object_law.specs.NodeTables.{AreNodes}
use Rattle.object_law.specs.Tenth.{stamped_nodes}
use Rattle.walk_law.specs.Walking.{Walked, log_walked}

-- this is so of the path whose names a command asks for
abbrev pub OfPathAsked : What → (List ℕ → Type 0) → Type 0
OfPathAsked (whats.Ls object path) Says = Says path
OfPathAsked _ Says = ⊥

-- The tree up to a stamp tells this of the change with the client's next id.
abbrev pub TellsChange : Walked → List (List Node) → Caller → What → Option TreeWhy → ℕ → Key → ℕ → Type 0
TellsChange walked table caller what failed stamp own read_stamp =
    ShowsChange failed stamp own (stamped_nodes walked table caller.own (colours_synced caller what) read_stamp)

-- The tree up to a stamp has these names in the path for which the command asks, or it has no such path.
abbrev pub ListsNames : Walked → List (List Node) → Caller → What → Option (List (List ℕ)) → ℕ → Type 0
ListsNames walked table caller what names stamp =
    OfPathAsked what (λ path. ShowsNames path names
    (stamped_nodes walked table caller.own (colours_synced caller what) stamp))

-- What an answer shows of a tree is so by the nodes in a table.
abbrev pub IsTreeAnswer : Walked → List (List Node) → Caller → Kept → What → Answer → Type 0
IsTreeAnswer walked table caller kept what (answers.Changed failed stamp row points read_stamp raises syncs) =
    TellsChange walked table caller what failed stamp
    (own_key caller kept (stamp_told (log_walked walked) caller kept row points)) read_stamp
IsTreeAnswer walked table caller kept what (answers.Listed names stamp raises syncs) =
    ListsNames walked table caller what names stamp
IsTreeAnswer walked table caller kept what _ = Unit {0}

-- what is asked of a step
abbrev pub TreesSaySo : Walked → List (List Node) → Caller → Step → Type 0
TreesSaySo walked table caller step =
    IsTreeAnswer walked table caller (kept_at step) step.command.what step.reply.answer

-- THE RULE

-- At the account by which reports are judged from the tenth rule on, where it keeps the first nine, the thirteenth holds where
-- trees say so of each step by the account's nodes.
abbrev pub ThirteenthIsSaid : Type 0
ThirteenthIsSaid = (script : Script) (report : Report) (table : List (List Node)) → IsFitting script → IsWellFormed script report
    → AreNodes (nodes_showing script report) table → RulesTo script report (account_showing script report) 9
    → OfEachStep script report (account_of script report no_nodes)
    (TreesSaySo (record { script = script; report = report }) table)
    ↔ Rule13 script report (account_showing script report)
