-- The rules of a lawful run from the first to the eighth, each by itself, at an account that the report tells.
use Rattle.std.specs.Prelude.{◌≡◌, IsTrue, ℕ, zero, suc, ◌+◌, ◌<◌, List, [], ◌∷◌, length, map, Option, Some, None, slice_get}
use Rattle.std.specs.List.{All, Contains, filter}
use Rattle.std.specs.List.Sorted.{IsNonDecreasing}
use Rattle.log_node.specs.declared.ids.Colours.{Colours}
use Rattle.log_node.specs.declared.marks.ColourMark.{ColourMark}
use Rattle.col_core.specs.declared.Event.TheVariants.{Single}
use Rattle.col_core.specs.declared.Entry.{Entry}
use Rattle.col_core.specs.Computed.{dated}
use Rattle.col_core.specs.Legal.{IsColumnHistory}
use Rattle.col_core.specs.Ids.{IsStepOf}
use Rattle.col_core.specs.Log.{Log, places_of}
use Rattle.col_core.specs.Keeping.{Kept}
use Rattle.col_core.specs.Rows.{BegunRow, AreLawfulRows, is_of}
use Rattle.script_text.specs.declared.commands.What.{What}
use Rattle.script_text.specs.declared.commands.What.TheVariants as whats
use Rattle.script_text.specs.declared.script.Script.{Script}
use Rattle.script_text.specs.Commands.{word_of}
use Rattle.report_text.specs.declared.report.Answer.{Answer}
use Rattle.report_text.specs.declared.report.Answer.TheVariants as answers
use Rattle.report_text.specs.declared.report.Ended.{Ended}
use Rattle.report_text.specs.declared.report.Ended.TheVariants as ends
use Rattle.report_text.specs.declared.report.PointPiece.{PointPiece}
use Rattle.report_text.specs.declared.report.ClientReport.{ClientReport}
use Rattle.report_text.specs.declared.report.ColumnReport.{ColumnReport}
use Rattle.report_text.specs.declared.report.Report.{Report}
use Rattle.lawful_run.specs.Callers.{Caller, caller_of, node_of}
use Rattle.lawful_run.specs.Reads.{events_until}
use Rattle.lawful_run.specs.Appends.{Appends}
use Rattle.lawful_run.specs.Shapes.{AppendsBy}
use Rattle.lawful_run.specs.Stops.{Stops}
use Rattle.lawful_run.specs.Columns.{column_numbers, IsClientIn, ShowsClosing, HoldsTrueCopies}
use Rattle.lawful_run.specs.Lawful.{IsHelp, HasHelping, IsComplete, LeavesOpen}
use Rattle.run_rules.specs.Told.{Untold, Step, Account, kept_at, is_several, stamp_told, kept_after_append, kept_after_stop, kept_deciding, OfEachStep}
use Rattle.run_rules.specs.Naming.{Names}
use Rattle.run_rules.specs.Answering.{CanHave}

-- RULE 1. Each client has one reply for each of its commands, in order, with its line's number, its word and an answer that
-- the command can have; all columns are there, in order and under their names, and rows stand by client. (That each command
-- has its reply is asked by the account.)

pub record IsReplyTo (caller : Caller) (step : Step) : Type 0 where
  pub line : step.reply.line ≡ step.command.line
  pub word : step.reply.word ≡ word_of step.command.what
  pub answer : CanHave caller (kept_at step) step.command.what step.reply.nodes step.reply.answer

-- the names of its region and of its colour stand beside a column
pub record IsNamed (script : Script) (column : ColumnReport) : Type 0 where
  pub region : slice_get script.regions column.region ≡ Some column.region_name
  pub colour : slice_get script.colours column.colour ≡ Some column.colour_name

pub record Rule1 (script : Script) (report : Report) (account : Account) : Type 0 where
  pub version : report.version ≡ script.version
  pub names : map (λ (c : ClientReport). c.name) report.clients ≡ script.clients
  pub replies : OfEachStep script report account IsReplyTo
  pub columns : map (λ (c : ColumnReport). (c.region, c.colour)) report.columns
      ≡ column_numbers script.shape.regions script.shape.colours
  pub named : All (IsNamed script) report.columns
  pub by_client : (region : ℕ) → region < script.shape.regions
      → IsNonDecreasing (map (λ (r : BegunRow). r.row.client) (account.log.rows region))

-- RULE 2. Each column's events are a lawful history, made by clients, and its closing line shows what the whole is.

pub record IsLawfulColumn (script : Script) (column : ColumnReport) : Type 0 where
  pub legal : IsColumnHistory column.region script.shape.regions (dated column.region column.journal)
  pub makers : All (λ (e : Entry). e.by < length script.clients) column.journal
  pub closing : ShowsClosing script.shape.regions column.journal column

pub record Rule2 (script : Script) (report : Report) : Type 0 where
  pub each : All (IsLawfulColumn script) report.columns

-- RULE 3. Each region's rows are lawful beside its columns, for some nodes of theirs, and of clients of the region; what a
-- region holds of another is a true copy. A row's marks are of colours that there are.

pub record Rule3 (script : Script) (account : Account) : Type 0 where
  pub of_clients : (region : ℕ) → region < script.shape.regions
      → All (λ (r : BegunRow). IsClientIn script region r.row.client) (account.log.rows region)
  pub lawful : (region : ℕ) → region < script.shape.regions
      → AreLawfulRows region script.shape.colours (account.log.histories region) (account.log.rows region)
  pub marked : (region : ℕ) → region < script.shape.regions → All (λ (r : BegunRow).
      All (λ (m : ColourMark). m.colour < script.shape.colours) r.marks) (account.log.rows region)
  pub copies : HoldsTrueCopies account.log script

-- RULE 4. What a reply names is there, is of its client, and comes after all that this had seen; a client's own events are
-- those of its commands, in their order; who helps has a command that may, and is of the region.

pub record Rule4 (script : Script) (report : Report) (account : Account) : Type 0 where
  pub named : OfEachStep script report account (λ caller step.
      Names account.log step.untold caller (kept_at step) step.command.what step.reply.answer)
  pub made : (n : ℕ) (c : ClientReport) → slice_get report.clients n ≡ Some c
      → (region colour : ℕ) → region < script.shape.regions → colour < script.shape.colours
      → places_of n (account.log.histories region colour) ≡ (account.last n).made region colour
  pub helpers : (region colour : ℕ) (e : Entry) → region < script.shape.regions → colour < script.shape.colours
      → Contains (account.log.histories region colour) e → IsHelp e.by e.event
      → HasHelping script e.by × ((caller_of script e.by).own ≡ region)

-- RULE 5. Each id is that of a command's node, with the floor and the wants that its client had; a client has begun as many
-- rows as its commands, each for the node of one.

-- the client's next node is the one that the command appends
abbrev pub HasNode : Log → Caller → Kept → What → Type 0
HasNode log caller kept what = AppendsBy caller kept what (λ colours text.
    slice_get (log.nodes caller.client) kept.ids ≡ Some (node_of caller kept colours text))

-- an append to one colour: the event at its point, if there is one, enters this node
abbrev pub EntersAsNode : Log → Caller → Kept → Option ℕ → List PointPiece → Type 0
EntersAsNode log caller kept None [] = Unit {0}
EntersAsNode log caller kept None (point ∷ points) =
    (e : Entry) → slice_get (log.histories caller.own point.colour) (events_until point.at) ≡ Some e
    → e.event ≡ Single (record { client = caller.client; count = kept.ids }) kept.floor (kept.starts point.colour)
EntersAsNode log caller kept (Some number) points = Unit {0}

-- the append of a decision's node: where it stands it used an id up
abbrev pub UsesEnd : Log → Caller → Kept → What → Ended → Type 0
UsesEnd log caller kept what (ends.Stood stamp point) =
    HasNode log caller kept what × EntersAsNode log caller kept None (point ∷ [])
UsesEnd log caller kept what _ = Unit {0}

-- an answer to an append that used an id up
abbrev pub UsesNode : Log → Caller → Kept → What → Answer → Type 0
UsesNode log caller kept what (answers.Stood stamp row points) =
    HasNode log caller kept what × EntersAsNode log caller kept row points
UsesNode log caller kept what (answers.StampEnd colour) =
    IsTrue (is_several caller kept what) → HasNode log caller kept what
UsesNode log caller kept what (answers.Stopped zero) = Unit {0}
UsesNode log caller kept what (answers.Stopped (suc steps)) = HasNode log caller kept what
UsesNode log caller kept what (answers.Ruled conflict stamp row points read_stamp raises syncs) =
    HasNode log caller kept what × EntersAsNode log caller kept row points
UsesNode log caller kept what (answers.Changed failed stamp row points read_stamp raises syncs) =
    HasNode log caller kept what × EntersAsNode log caller kept row points
UsesNode log caller kept what (answers.Took value point sync) =
    HasNode log caller kept what × EntersAsNode log caller kept None (point ∷ [])
UsesNode log caller kept what (answers.Decided commits stamp sync read_stamp raises syncs ended) =
    UsesEnd log caller (kept_deciding log caller kept sync read_stamp raises syncs) what ended
UsesNode log caller kept what _ = Unit {0}

-- the nodes and the rows of a client are those of its commands
pub record HasOwnNodes (script : Script) (account : Account) (client : ℕ) : Type 0 where
  pub nodes : length (account.log.nodes client) ≡ (account.last client).ids
  pub rows : length (filter (is_of client) (account.log.rows (caller_of script client).own)) ≡ (account.last client).rows
  pub row_nodes : (r : BegunRow) → Contains (account.log.rows (caller_of script client).own) r → r.row.client ≡ client
      → slice_get (account.log.nodes client) r.node.id.count ≡ Some r.node

pub record Rule5 (script : Script) (report : Report) (account : Account) : Type 0 where
  pub used : OfEachStep script report account (λ caller step.
      UsesNode account.log caller (kept_at step) step.command.what step.reply.answer)
  pub own : (n : ℕ) (c : ClientReport) → slice_get report.clients n ≡ Some c → HasOwnNodes script account n

-- RULE 6. An append that was answered stands under one stamp in all its colours, where its points say.

-- a client with so many rows
abbrev pub with_rows : Caller → ℕ → Caller
with_rows caller rows = record caller { rows = rows }

-- the client with a row to spare: whether one was left is asked by the rule on refusals
abbrev pub with_room : Caller → Kept → Caller
with_room caller kept = with_rows caller (kept.rows + 1)

-- the command's node stands under the stamp at the points
abbrev pub StandsAsTold : Log → Untold → Caller → Kept → What → ℕ → Option ℕ → List PointPiece → Type 0
StandsAsTold log untold caller kept what stamp row points = AppendsBy caller kept what (λ colours text.
    Appends log (with_room caller kept) kept (node_of caller kept colours text) stamp row points
    (kept_after_append untold caller kept stamp row points))

-- so does a decision's node, where it stands; what it says is asked by the rule on decisions
abbrev pub StandsAtEnd : Log → Untold → Caller → Kept → What → Ended → Type 0
StandsAtEnd log untold caller kept what (ends.Stood stamp point) =
    StandsAsTold log untold caller kept what stamp None (point ∷ [])
StandsAtEnd log untold caller kept what _ = Unit {0}

abbrev pub Stands : Log → Untold → Caller → Kept → What → Answer → Type 0
Stands log untold caller kept what (answers.Stood stamp row points) =
    StandsAsTold log untold caller kept what stamp row points
Stands log untold caller kept what (answers.Ruled conflict stamp row points read_stamp raises syncs) =
    StandsAsTold log untold caller kept what (stamp_told log caller kept row points) row points
Stands log untold caller kept what (answers.Changed failed stamp row points read_stamp raises syncs) =
    StandsAsTold log untold caller kept what (stamp_told log caller kept row points) row points
Stands log untold caller kept what (answers.Took value point sync) =
    StandsAsTold log untold caller kept what (stamp_told log caller kept None (point ∷ [])) None (point ∷ [])
Stands log untold caller kept what (answers.Decided commits stamp sync read_stamp raises syncs ended) =
    StandsAtEnd log untold caller (kept_deciding log caller kept sync read_stamp raises syncs) what ended
Stands log untold caller kept what _ = Unit {0}

pub record Rule6 (script : Script) (report : Report) (account : Account) : Type 0 where
  pub stands : OfEachStep script report account (λ caller step.
      Stands account.log step.untold caller (kept_at step) step.command.what step.reply.answer)

-- RULE 7. A stopped append did its first steps, as many as were asked, and took no later one.

abbrev pub StopsAsTold : Log → Untold → Caller → Kept → What → Answer → Type 0
StopsAsTold log untold caller kept what (answers.Stopped steps) =
    (colours : Colours) × (text : List ℕ) × (what ≡ whats.Stop steps colours text)
    × Stops log (with_room caller kept) kept (node_of caller kept colours text) steps
    (kept_after_stop untold caller kept steps)
StopsAsTold log untold caller kept what _ = Unit {0}

pub record Rule7 (script : Script) (report : Report) (account : Account) : Type 0 where
  pub stops : OfEachStep script report account (λ caller step.
      StopsAsTold account.log step.untold caller (kept_at step) step.command.what step.reply.answer)

-- RULE 8. What is left open is of clients that stopped, and what was helped is complete.

pub record Rule8 (script : Script) (report : Report) (account : Account) : Type 0 where
  pub left_open : LeavesOpen account.log script report
  pub helped : (region colour : ℕ) (e : Entry) (r : BegunRow) → region < script.shape.regions
      → colour < script.shape.colours
      → Contains (account.log.histories region colour) e → IsHelp e.by e.event → Contains (account.log.rows region) r
      → IsStepOf r.node.id e.event → IsComplete account.log script region r
