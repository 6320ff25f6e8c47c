-- The sixth rule, at the account with the nodes of the commands: what is looked at of an append that stands.
use Rattle.std.specs.Prelude.{◌≡◌, ◌≢◌, ◌↔◌, IsTrue, ℕ, ◌<◌, List, [], ◌∷◌, Option, Some, None, slice_get}
use Rattle.std.specs.List.{All}
use Rattle.log_node.specs.declared.ids.Id.{Id}
use Rattle.log_node.specs.declared.node.At.{At}
use Rattle.log_node.specs.declared.node.At.TheVariants as ats
use Rattle.log_node.specs.declared.marks.Outcome.TheVariants.{Final}
use Rattle.col_core.specs.declared.Event.{Event}
use Rattle.col_core.specs.declared.Event.TheVariants.{Propose}
use Rattle.col_core.specs.declared.Entry.{Entry}
use Rattle.col_core.specs.History.{enters, entry_key, line}
use Rattle.col_core.specs.Log.{Log}
use Rattle.col_core.specs.Keeping.{Kept}
use Rattle.script_text.specs.declared.script.Script.{Script}
use Rattle.script_text.specs.Fitting.{IsFitting}
use Rattle.report_text.specs.declared.report.Answer.{Answer}
use Rattle.report_text.specs.declared.report.Answer.TheVariants as answers
use Rattle.report_text.specs.declared.report.Ended.{Ended}
use Rattle.report_text.specs.declared.report.Ended.TheVariants as ends
use Rattle.report_text.specs.declared.report.PointPiece.{PointPiece}
use Rattle.report_text.specs.declared.report.RowReport.{RowReport}
use Rattle.report_text.specs.declared.report.Report.{Report}
use Rattle.lawful_run.specs.Callers.{Caller}
use Rattle.column_track.specs.Tracks.{EntersAt}
use Rattle.run_rules.specs.Told.{OfEachStep, Step, kept_appending, kept_at, stamp_of, stamp_told}
use Rattle.run_rules.specs.Telling.{IsWellFormed, account_of}
use Rattle.run_rules.specs.Rules.{Rule6}
use Rattle.run_rules.specs.Nodes.{nodes_told}
use Rattle.run_rules.specs.Keeping.{RulesTo}
use Rattle.walk_law.specs.Fifth.{Finding, next_id}
use Rattle.walk_law.specs.PlaceTables.{row_with}
use Rattle.walk_law.specs.Walking.{Walked, log_walked}

-- AT A POINT

-- the id enters by the event at this place alone, or by none
pub record EntersOnlyAt (history : List Entry) (id : Id) (place : Option ℕ) : Type 0 where
  pub there : EntersAt history id place
  pub only : (n : ℕ) (e : Entry) → slice_get history n ≡ Some e → IsTrue (enters id e.event) → place ≡ Some n

-- the event proposes the client's next node
abbrev pub ProposesNext : Caller → Kept → ℕ → Event → Type 0
ProposesNext caller kept colour event = event ≡ Propose (next_id caller kept) kept.floor (kept.starts colour)

-- the column's event at a place is there, and proposes it
abbrev pub IsProposalAt : Log → Caller → Kept → ℕ → ℕ → Entry → Type 0
IsProposalAt log caller kept colour place e =
    (slice_get (log.histories caller.own colour) place ≡ Some e) × ProposesNext caller kept colour e.event

-- the event of another client proposes it
abbrev pub IsHelped : Caller → Kept → ℕ → Entry → Type 0
IsHelped caller kept colour e = ProposesNext caller kept colour e.event × (e.by ≢ caller.client)

-- the node was proposed by the event at a place, or by one of another client before a look
abbrev pub IsProposedBy : Log → Caller → Kept → ℕ → At → Type 0
IsProposedBy log caller kept colour (ats.Event place) = (e : Entry) × IsProposalAt log caller kept colour place e
IsProposedBy log caller kept colour (ats.Look seen) =
    (place : ℕ) × (place < seen) × (e : Entry) × IsProposalAt log caller kept colour place e × (e.by ≢ caller.client)

-- an event stands at the place, and gave the stamp
abbrev pub GaveStamp : Log → Caller → ℕ → ℕ → At → Type 0
GaveStamp log caller stamp colour (ats.Event place) = stamp_of (slice_get (log.histories caller.own colour) place) ≡ stamp
GaveStamp log caller stamp colour (ats.Look seen) = ⊥

-- How the node entered at a point: alone and under the stamp, or on a row.
abbrev pub HasEnteredBy : Log → Caller → Kept → ℕ → Option ℕ → PointPiece → Type 0
HasEnteredBy log caller kept stamp None point = GaveStamp log caller stamp point.colour point.at
HasEnteredBy log caller kept stamp (Some number) point = IsProposedBy log caller kept point.colour point.at

-- it stands under the stamp at the point's position of the line
abbrev pub IsInLine : Log → Caller → Kept → ℕ → PointPiece → Type 0
IsInLine log caller kept stamp point =
    slice_get (line (log.histories caller.own point.colour)) point.position ≡ Some (entry_key stamp (next_id caller kept))

-- the node entered and stands where the point says
pub record StandsThere (log : Log) (caller : Caller) (kept : Kept) (stamp : ℕ) (row : Option ℕ) (point : PointPiece) : Type 0 where
  pub entered : HasEnteredBy log caller kept stamp row point
  pub in_line : IsInLine log caller kept stamp point

-- THE ROW

-- a row is there, and is final under the stamp
abbrev pub IsFinalUnder : ℕ → Option RowReport → Type 0
IsFinalUnder stamp None = ⊥
IsFinalUnder stamp (Some r) = r.last ≡ Final stamp

-- an append on a row: it is the client's next one, and final
abbrev pub HasFinalRow : Finding → Caller → Kept → ℕ → Option ℕ → Type 0
HasFinalRow find caller kept stamp None = Unit {0}
HasFinalRow find caller kept stamp (Some number) =
    (number ≡ kept.rows) × IsFinalUnder stamp (find caller.own (next_id caller kept))

-- STEPS

-- what is looked at of an append that stands
pub record StandsSo (find : Finding) (log : Log) (caller : Caller) (kept : Kept) (stamp : ℕ) (row : Option ℕ)
    (points : List PointPiece) : Type 0 where
  pub above : kept.floor < stamp
  pub row_is : HasFinalRow find caller kept stamp row
  pub points_are : All (StandsThere log caller kept stamp row) points

-- of a decision's node, where it stands
abbrev pub OfStoodEnd : (Kept → ℕ → Option ℕ → List PointPiece → Type 0) → Kept → Ended → Type 0
OfStoodEnd P kept (ends.Stood stamp point) = P kept stamp None (point ∷ [])
OfStoodEnd P kept _ = Unit {0}

-- What is asked of an append that stands: by what the client keeps when its node is appended, the stamp, and the row and the points
-- that are named.
abbrev pub OfStood : (Kept → ℕ → Option ℕ → List PointPiece → Type 0) → Log → Caller → Kept → Answer → Type 0
OfStood P log caller kept (answers.Stood stamp row points) = P kept stamp row points
OfStood P log caller kept (answers.Ruled conflict stamp row points read_stamp raises syncs) =
    P kept (stamp_told log caller kept row points) row points
OfStood P log caller kept (answers.Changed failed stamp row points read_stamp raises syncs) =
    P kept (stamp_told log caller kept row points) row points
OfStood P log caller kept (answers.Took value point sync) =
    P kept (stamp_told log caller kept None (point ∷ [])) None (point ∷ [])
OfStood P log caller kept (answers.Decided commits stamp sync read_stamp raises syncs ended) =
    OfStoodEnd P kept ended
OfStood P log caller kept _ = Unit {0}

-- what is looked at of a step
abbrev pub StandsBeside : Finding → Walked → Caller → Step → Type 0
StandsBeside find walked caller step =
    OfStood (StandsSo find (log_walked walked) caller) (log_walked walked) caller
    (kept_appending (log_walked walked) caller (kept_at step) step.reply.answer) step.reply.answer

-- THE RULE

-- how rows are found is by their regions and ids
abbrev pub FindsRows : Report → Finding → Type 0
FindsRows report find = (region : ℕ) (id : Id) → find region id ≡ row_with region id report.rows

-- Where a report keeps the first five rules, the sixth is what is looked at of each step.
abbrev pub SixthIsStanding : Type 0
SixthIsStanding = (script : Script) (report : Report) (find : Finding) → IsFitting script → IsWellFormed script report
    → FindsRows report find → RulesTo script report (account_of script report (nodes_told script report)) 5
    → OfEachStep script report (account_of script report (nodes_told script report))
    (StandsBeside find (record { script = script; report = report }))
    ↔ Rule6 script report (account_of script report (nodes_told script report))
