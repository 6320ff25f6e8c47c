-- When a report is that of a lawful run of a script.
use Rattle.std.specs.Prelude.{◌≡◌, ◌≢◌, ◌⊎◌, IsTrue, ℕ, ◌+◌, ◌<◌, List, length, map, Some, None, slice_get}
use Rattle.std.specs.List.{All, Contains, filter}
use Rattle.log_node.specs.declared.marks.Outcome.TheVariants.{Open}
use Rattle.log_node.specs.Standings.{Standing, open_entry}
use Rattle.col_core.specs.declared.Event.{Event}
use Rattle.col_core.specs.declared.Event.TheVariants.{Single, Propose, Settle, Raise, Give, Carry, Trim}
use Rattle.col_core.specs.declared.Entry.{Entry}
use Rattle.col_core.specs.History.{entries}
use Rattle.col_core.specs.Log.{Log, places_of}
use Rattle.col_core.specs.Keeping.{Kept}
use Rattle.col_core.specs.Rows.{BegunRow, is_of}
use Rattle.script_text.specs.declared.script.Command.{Command}
use Rattle.script_text.specs.declared.script.Script.{Script}
use Rattle.report_text.specs.declared.report.Answer.TheVariants as answers
use Rattle.report_text.specs.declared.report.ReplyLine.{ReplyLine}
use Rattle.report_text.specs.declared.report.ClientReport.{ClientReport}
use Rattle.report_text.specs.declared.report.Report.{Report}
use Rattle.lawful_run.specs.Callers.{caller_of, commands_of}
use Rattle.lawful_run.specs.Asks.{may_help}
use Rattle.lawful_run.specs.Deeds.{manner_of}
use Rattle.col_core.specs.Ids.{IsStepOf}
use Rattle.lawful_run.specs.Columns.{AreColumns, AreRowReports, HoldsTrueCopies}
use Rattle.lawful_run.specs.Explains.{Explained}

-- A client's replies are explained by the log. Its own steps stand just where its commands made them, in their order,
-- and it appended no nodes and began no rows but those of its commands.
pub record IsClientRun (log : Log) (script : Script) (client : ℕ) (replies : List ReplyLine) : Type 0 where
  pub kept : Kept
  pub explained : Explained log (caller_of script client) (commands_of script client) replies kept
  pub made : (region colour : ℕ) → region < script.shape.regions → colour < script.shape.colours
      → places_of client (log.histories region colour) ≡ kept.made region colour
  pub nodes : length (log.nodes client) ≡ kept.ids
  pub rows : length (filter (is_of client) (log.rows (caller_of script client).own)) ≡ kept.rows
  pub row_nodes : (r : BegunRow) → Contains (log.rows (caller_of script client).own) r → r.row.client ≡ client
      → slice_get (log.nodes client) r.node.id.count ≡ Some r.node

-- the event completes the append of another client
abbrev pub IsHelp : ℕ → Event → Type 0
IsHelp client (Single id floor wants) = ⊥
IsHelp client (Propose id floor wants) = id.client ≢ client
IsHelp client (Settle id outcome) = id.client ≢ client
IsHelp client (Raise to) = ⊥
IsHelp client (Give region from) = ⊥
IsHelp client (Carry region start heads) = ⊥
IsHelp client (Trim counts) = ⊥

-- a client has a command that may help
abbrev pub HasHelping : Script → ℕ → Type 0
HasHelping script client =
    (command : Command) × Contains (commands_of script client) command × IsTrue (may_help (manner_of command.what))

-- the last reply to a client is that its append stopped
pub record HasStopped (report : Report) (client : ℕ) : Type 0 where
  pub shown : ClientReport
  pub of_client : slice_get report.clients client ≡ Some shown
  pub before : ℕ
  pub reply : ReplyLine
  pub last : length shown.replies ≡ before + 1
  pub there : slice_get shown.replies before ≡ Some reply
  pub steps : ℕ
  pub stopped : reply.answer ≡ answers.Stopped steps

-- What is left open in the end is of clients that stopped: ids that are open in a column, and rows without an outcome.
pub record LeavesOpen (log : Log) (script : Script) (report : Report) : Type 0 where
  pub ids : (region colour : ℕ) → region < script.shape.regions → colour < script.shape.colours
      → All (λ (e : Standing). IsTrue e.settled ⊎ HasStopped report e.key.id.client)
      (entries (log.histories region colour))
  pub rows : (region : ℕ) → region < script.shape.regions
      → All (λ (r : BegunRow). r.last ≡ Open → HasStopped report r.row.client) (log.rows region)

-- The append of a row is complete: the row keeps an outcome, and its node is open in no column of the region.
pub record IsComplete (log : Log) (script : Script) (region : ℕ) (r : BegunRow) : Type 0 where
  pub decided : r.last ≢ Open
  pub open_nowhere : (colour : ℕ) → colour < script.shape.colours
      → open_entry r.node.id (entries (log.histories region colour)) ≡ None

-- Some log, of which the columns and rows of the report are the histories and rows, explains the replies to each
-- client.
pub record LawfulRun (script : Script) (report : Report) : Type 0 where
  pub log : Log
  pub version : report.version ≡ script.version
  pub names : map (λ (c : ClientReport). c.name) report.clients ≡ script.clients
  pub clients : (n : ℕ) (c : ClientReport) → slice_get report.clients n ≡ Some c → IsClientRun log script n c.replies
  pub columns : AreColumns log script report.columns
  pub begun : AreRowReports log script report.rows
  pub copies : HoldsTrueCopies log script
  -- who helps has a command that may help, and is of the column's region
  pub helpers : (region colour : ℕ) (e : Entry) → region < script.shape.regions → colour < script.shape.colours
      → Contains (log.histories region colour) e → IsHelp e.by e.event
      → HasHelping script e.by × ((caller_of script e.by).own ≡ region)
  -- who helps an append leaves it complete
  pub helped : (region colour : ℕ) (e : Entry) (r : BegunRow) → region < script.shape.regions
      → colour < script.shape.colours
      → Contains (log.histories region colour) e → IsHelp e.by e.event → Contains (log.rows region) r
      → IsStepOf r.node.id e.event → IsComplete log script region r
  pub left_open : LeavesOpen log script report
