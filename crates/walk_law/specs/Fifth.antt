-- The fifth rule, at the account with the nodes of the commands: what is looked at of each step and of each row.
use Rattle.std.specs.Prelude.{◌≡◌, ◌↔◌, IsTrue, ℕ, zero, suc, ◌<◌, List, [], ◌∷◌, length, map, Option, Some, None, slice_get}
use Rattle.std.specs.List.{All}
use Rattle.log_node.specs.declared.ids.Id.{Id}
use Rattle.log_node.specs.declared.ids.Counts.{Counts}
use Rattle.log_node.specs.declared.marks.Mark.{Mark}
use Rattle.log_node.specs.declared.marks.Mark.TheVariants as marks
use Rattle.log_node.specs.declared.marks.Why.TheVariants.{Memory, StampEnd}
use Rattle.log_node.specs.declared.marks.ColourMark.{ColourMark}
use Rattle.col_core.specs.declared.Event.{Event}
use Rattle.col_core.specs.declared.Event.TheVariants.{Single, Propose, Settle, Raise, Give, Carry, Trim}
use Rattle.col_core.specs.declared.Entry.{Entry}
use Rattle.col_core.specs.History.{IsAtEnd}
use Rattle.col_core.specs.Log.{Log}
use Rattle.col_core.specs.Keeping.{Kept}
use Rattle.script_text.specs.declared.commands.What.{What}
use Rattle.script_text.specs.declared.script.Script.{Script}
use Rattle.script_text.specs.Fitting.{IsFitting}
use Rattle.report_text.specs.declared.report.Answer.{Answer}
use Rattle.report_text.specs.declared.report.Answer.TheVariants as answers
use Rattle.report_text.specs.declared.report.Ended.{Ended}
use Rattle.report_text.specs.declared.report.Ended.TheVariants as ends
use Rattle.report_text.specs.declared.report.PointPiece.{PointPiece}
use Rattle.report_text.specs.declared.report.ClientReport.{ClientReport}
use Rattle.report_text.specs.declared.report.RowReport.{RowReport}
use Rattle.report_text.specs.declared.report.Report.{Report}
use Rattle.lawful_run.specs.Callers.{Caller, caller_of}
use Rattle.run_rules.specs.Told.{OfEachStep, Step, colours_asked, is_several, kept_at, kept_deciding}
use Rattle.run_rules.specs.Telling.{IsWellFormed, account_of, marked_colours, no_nodes}
use Rattle.run_rules.specs.Rules.{EntersAsNode}
use Rattle.run_rules.specs.Nodes.{nodes_told}
use Rattle.run_rules.specs.Keeping.{RulesTo}
use Rattle.walk_law.specs.declared.row_places.RowPlaces.{RowPlaces}
use Rattle.walk_law.specs.PlaceTables.{places_at, row_with}
use Rattle.walk_law.specs.Proposals.{proposal}
use Rattle.walk_law.specs.RowPlaces.{place_in, row_at}
use Rattle.walk_law.specs.RowsBeside.{rows_by}
use Rattle.walk_law.specs.Third.{rows_in}
use Rattle.walk_law.specs.Walking.{Walked, log_walked}

-- THE ROW OF A NODE

-- the event that proposes an id, where there is one, has this floor and these wants
abbrev pub ProposesNode : Id → ℕ → Counts → Option Entry → Type 0
ProposesNode id floor wants None = Unit {0}
ProposesNode id floor wants (Some e) = e.event ≡ Propose id floor wants

-- a fence for the stamps' end stands only where the column leaves no stamp for the floor
abbrev pub FencesNode : List Entry → ℕ → Mark → Type 0
FencesNode history floor marks.None = Unit {0}
FencesNode history floor (marks.Number stamp) = Unit {0}
FencesNode history floor (marks.Fenced Memory) = Unit {0}
FencesNode history floor (marks.Fenced StampEnd) = IsAtEnd history floor

-- the id of the node that a client appends next
abbrev pub next_id : Caller → Kept → Id
next_id caller kept = record { client = caller.client; count = kept.ids }

-- a mark is beside its column that of the client's next node
pub record MarksNext (colours : ℕ) (log : Log) (caller : Caller) (kept : Kept) (m : ColourMark) : Type 0 where
  pub below : m.colour < colours
  pub proposed : ProposesNode (next_id caller kept) kept.floor (kept.starts m.colour)
      (proposal (next_id caller kept) (log.histories caller.own m.colour))
  pub fenced : FencesNode (log.histories caller.own m.colour) kept.floor m.mark

-- the row is that of the client's next node, of these colours
pub record IsNextRow (colours : ℕ) (log : Log) (caller : Caller) (kept : Kept) (asked : List ℕ) (r : RowReport) : Type 0 where
  pub row : r.row ≡ record { client = caller.client; number = kept.rows }
  pub colours_are : marked_colours r.marks ≡ asked
  pub marks_are : All (MarksNext colours log caller kept) r.marks

-- so is the one that is found, where there is one
abbrev pub HasNextRow : ℕ → Log → Caller → Kept → List ℕ → Option RowReport → Type 0
HasNextRow colours log caller kept asked None = Unit {0}
HasNextRow colours log caller kept asked (Some r) = IsNextRow colours log caller kept asked r

-- STEPS

-- of a decision's node, where it stands
abbrev pub OfEnd : (Kept → Option ℕ → List PointPiece → Type 0) → Kept → Ended → Type 0
OfEnd P kept (ends.Stood stamp point) = P kept None (point ∷ [])
OfEnd P kept _ = Unit {0}

-- What is asked of the node for which an answer used an id up, if it is none to a decide: by what the client kept, and by the
-- row and the points that the answer names, if it names any.
abbrev pub OfPlain : (Kept → Option ℕ → List PointPiece → Type 0) → Caller → Kept → What → Answer → Type 0
OfPlain P caller kept what (answers.Stood stamp row points) = P kept row points
OfPlain P caller kept what (answers.StampEnd colour) = IsTrue (is_several caller kept what) → P kept None []
OfPlain P caller kept what (answers.Stopped zero) = Unit {0}
OfPlain P caller kept what (answers.Stopped (suc steps)) = P kept None []
OfPlain P caller kept what (answers.Ruled conflict stamp row points read_stamp raises syncs) = P kept row points
OfPlain P caller kept what (answers.Changed failed stamp row points read_stamp raises syncs) = P kept row points
OfPlain P caller kept what (answers.Took value point sync) = P kept None (point ∷ [])
OfPlain P caller kept what _ = Unit {0}

-- A decide has synced and read when its node is appended.
abbrev pub OfNode : (Kept → Option ℕ → List PointPiece → Type 0) → Log → Caller → Kept → What → Answer → Type 0
OfNode P log caller kept what (answers.Decided commits stamp sync read_stamp raises syncs ended) =
    OfEnd P (kept_deciding log caller kept sync read_stamp raises syncs) ended
OfNode P log caller kept what answer = OfPlain P caller kept what answer

-- how the row of a region with an id is found
abbrev pub Finding : Type 0
Finding = ℕ → Id → Option RowReport

-- the event at the point of a node's append enters it, and the row of its id is its own
pub record EntersBeside (find : Finding) (colours : ℕ) (log : Log) (caller : Caller) (what : What) (kept : Kept) (row : Option ℕ)
    (points : List PointPiece) : Type 0 where
  pub enters : EntersAsNode log caller kept row points
  pub beside : HasNextRow colours log caller kept (colours_asked caller kept what) (find caller.own (next_id caller kept))

-- what is asked of a step
abbrev pub EntersNode : Finding → Walked → Caller → Step → Type 0
EntersNode find walked caller step =
    OfNode (EntersBeside find walked.script.shape.colours (log_walked walked) caller step.command.what) (log_walked walked) caller
    (kept_at step) step.command.what step.reply.answer

-- A walk looks at the node when it is appended: by what the client keeps then, and by the row and the points of the answer.
abbrev pub OfAppended : (Kept → Option ℕ → List PointPiece → Type 0) → Caller → Kept → What → Answer → Type 0
OfAppended P caller kept what (answers.Decided commits stamp sync read_stamp raises syncs ended) = OfEnd P kept ended
OfAppended P caller kept what answer = OfPlain P caller kept what answer

-- how rows are found by a table of their places
abbrev pub finding_in : RowPlaces → List RowReport → Finding
finding_in table rows region id = row_at rows (place_in table region id)

-- what is asked of a client's node, by the rows that a table finds
abbrev pub EntersSo : RowPlaces → Walked → ℕ → What → Kept → Option ℕ → List PointPiece → Type 0
EntersSo table walked client what =
    EntersBeside (finding_in table walked.report.rows) walked.script.shape.colours (log_walked walked)
    (caller_of walked.script client) what

-- EVENTS

-- an event that proposes a node tells this floor and these wants
abbrev pub ProposesSo : ℕ → Counts → Event → Type 0
ProposesSo floor wants (Single id told wanted) = Unit {0}
ProposesSo floor wants (Propose id told wanted) = (told ≡ floor) × (wanted ≡ wants)
ProposesSo floor wants (Settle id outcome) = Unit {0}
ProposesSo floor wants (Raise to) = Unit {0}
ProposesSo floor wants (Give region from) = Unit {0}
ProposesSo floor wants (Carry region start heads) = Unit {0}
ProposesSo floor wants (Trim counts) = Unit {0}

-- ROWS

-- the numbers of the ids of a client's rows in its region
abbrev pub row_ids : Script → ℕ → List RowReport → List ℕ
row_ids script client rows = map (λ (r : RowReport). r.id.count) (rows_by client (rows_in (caller_of script client).own rows))

-- under the number of each client those of its rows
abbrev pub AreRowIds : Script → List RowReport → List (List ℕ) → Type 0
AreRowIds script rows lists =
    (client : ℕ) → client < length script.shape.homes → places_at lists client ≡ row_ids script client rows

-- a client that has used so many ids, and begun so many rows, has as many, of ids that it used
pub record HasItsRows (ids rows : ℕ) (counts : List ℕ) : Type 0 where
  pub many : length counts ≡ rows
  pub used : All (λ count. count < ids) counts

-- THE RULE

-- what is looked at of one client
pub record EntersItsOwn (script : Script) (report : Report) (client : ℕ) : Type 0 where
  pub steps : All (EntersNode (λ region id. row_with region id report.rows) (record { script = script; report = report })
      (caller_of script client)) ((account_of script report no_nodes).steps client)
  pub rows : HasItsRows ((account_of script report no_nodes).last client).ids
      ((account_of script report no_nodes).last client).rows (row_ids script client report.rows)

-- what is looked at of a report
pub record EntersItsNodes (script : Script) (report : Report) : Type 0 where
  pub steps : OfEachStep script report (account_of script report no_nodes)
      (EntersNode (λ region id. row_with region id report.rows) (record { script = script; report = report }))
  pub rows : (n : ℕ) (c : ClientReport) → slice_get report.clients n ≡ Some c
      → HasItsRows ((account_of script report no_nodes).last n).ids ((account_of script report no_nodes).last n).rows
      (row_ids script n report.rows)

-- A report that keeps the first four rules enters the nodes of its commands where the first five hold at the account with these.
abbrev pub FifthIsEntering : Type 0
FifthIsEntering = (script : Script) (report : Report) → IsFitting script → IsWellFormed script report
    → RulesTo script report (account_of script report no_nodes) 4
    → EntersItsNodes script report ↔ RulesTo script report (account_of script report (nodes_told script report)) 5
