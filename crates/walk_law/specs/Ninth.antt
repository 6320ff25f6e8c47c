-- What the ninth rule looks at of a step: of node lines the keys, and that each shows the text that is first shown of its node.
use Rattle.std.specs.Prelude.{◌≡◌, ◌↔◌, Bool, true, false, ℕ, List, length, map, Some}
use Rattle.std.specs.List.{All, AllZip}
use Rattle.log_node.specs.declared.ids.Counts.{Counts}
use Rattle.log_node.specs.declared.ids.Key.{Key}
use Rattle.log_node.specs.declared.node.Head.{Head}
use Rattle.log_node.specs.Reach.{Chains}
use Rattle.log_node.specs.Seen.{PlacedNode}
use Rattle.col_core.specs.Cuts.{chain}
use Rattle.col_core.specs.Keeping.{Kept}
use Rattle.col_core.specs.Log.{Log, first}
use Rattle.col_core.specs.PlayOrder.{IsPlayOrder, Place, Stands}
use Rattle.script_text.specs.Fitting.{IsFitting}
use Rattle.script_text.specs.declared.commands.What.{What}
use Rattle.script_text.specs.declared.script.Script.{Script}
use Rattle.report_text.specs.declared.report.Answer.{Answer}
use Rattle.report_text.specs.declared.report.Answer.TheVariants as answers
use Rattle.report_text.specs.declared.report.ReplyLine.{ReplyLine}
use Rattle.report_text.specs.declared.report.Report.{Report}
use Rattle.lawful_run.specs.Callers.{Caller}
use Rattle.lawful_run.specs.Reads.{AreKeysRead}
use Rattle.run_rules.specs.Told.{OfEachStep, Step, Untold, kept_at}
use Rattle.run_rules.specs.Telling.{IsWellFormed, account_of, log_of}
use Rattle.run_rules.specs.Nodes.{nodes_told}
use Rattle.run_rules.specs.Shown.{ReadsAsTold, Rule9, Shows, SyncsAsTold}
use Rattle.run_rules.specs.Said.{nodes_shown, shown_text}
use Rattle.run_rules.specs.Keeping.{RulesTo}
use Rattle.walk_law.specs.Keepings.{Counted, IsCounted}

-- the line shows the text that the first line of its node shows
abbrev pub IsTextFirst : Report → PlacedNode → Type 0
IsTextFirst report item = shown_text report item.head.key.id ≡ Some item.node.text

-- the key that a line shows
abbrev pub key_shown : PlacedNode → Key
key_shown item = item.head.key

-- the line shows the key of the node at the place
abbrev pub ShowsPlace : Chains → Place → PlacedNode → Type 0
ShowsPlace chains place item = (head : Head) × Stands chains place head × (key_shown item ≡ head.key)

-- the lines show the keys of the nodes from one vector to another, in the order of play
abbrev pub PlaysKeys : Chains → Counts → Counts → List PlacedNode → Type 0
PlaysKeys chains from to nodes =
    (order : List Place) × IsPlayOrder chains from to order × AllZip (ShowsPlace chains) order nodes

-- those of the nodes that a sync played, after so many events
abbrev pub PlaysShown : Log → Caller → Kept → ℕ → ℕ → Counts → List PlacedNode → Type 0
PlaysShown log caller kept colour events snapshot nodes =
    PlaysKeys (chain caller.own (first log caller.own colour events)) (kept.starts colour) snapshot nodes

-- what the ninth rule asks of an answer, where of texts it is asked that they are those first shown
abbrev pub ShowsFirst : Report → Log → Untold → Caller → Kept → What → List PlacedNode → Answer → Type 0
ShowsFirst report log untold caller kept what nodes (answers.Synced sync plays) =
    (plays ≡ length nodes) × SyncsAsTold log caller kept sync
    × PlaysShown log caller kept sync.colour sync.events sync.counts nodes × All (IsTextFirst report) nodes
ShowsFirst report log untold caller kept what nodes (answers.Scanned stamp count raises syncs) =
    (count ≡ length nodes) × ReadsAsTold log caller kept what stamp raises syncs
    × AreKeysRead log caller stamp syncs (map key_shown nodes) × All (IsTextFirst report) nodes
ShowsFirst report log untold caller kept what nodes answer = Shows log untold caller kept what nodes answer

-- the log with the texts that are shown
abbrev pub log_shown : Script → Report → Log
log_shown script report = log_of report (nodes_shown script report)

-- so it is of a step
abbrev pub StepShows : Script → Report → Report → Caller → Step → Type 0
StepShows script report texts caller step =
    ShowsFirst texts (log_shown script report) step.untold caller (kept_at step) step.command.what step.reply.nodes
    step.reply.answer

-- Of a report that keeps the rules before it the ninth holds, at the account with the texts that are shown, where it is so of
-- each step.
abbrev pub NinthIsShown : Type 0
NinthIsShown = (script : Script) (report : Report) → IsFitting script → IsWellFormed script report
    → RulesTo script report (account_of script report (nodes_told script report)) 8
    → OfEachStep script report (account_of script report (nodes_shown script report)) (StepShows script report report)
    ↔ Rule9 script report (account_of script report (nodes_shown script report))

-- PART BY PART

-- a part of an answer is as is asked, and the keeping counts what is kept behind it; or it is not
abbrev pub PassesTo : List ReplyLine → Type 0 → Kept → Counted → Bool → Type 0
PassesTo replies Asked after counted true = Asked × IsCounted replies after counted
PassesTo replies Asked after counted false = Asked → ⊥
