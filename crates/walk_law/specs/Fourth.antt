-- The fourth rule: what answers name, what clients made, and who helps.
use Rattle.std.specs.Prelude.{◌≡◌, Bool, true, false, ℕ, ◌<◌, ◌≤◌, List, length, slice_index, slice_index_or}
use Rattle.std.specs.List.{All}
use Rattle.log_node.specs.declared.node.At.{At}
use Rattle.log_node.specs.declared.node.At.TheVariants.{Event, Look}
use Rattle.log_node.specs.declared.limits.TheConstants.{MAX_COLOURS, MAX_REGIONS}
use Rattle.col_core.specs.declared.Event as events
use Rattle.col_core.specs.declared.Entry.{Entry}
use Rattle.col_core.specs.Log.{places_of}
use Rattle.col_core.specs.Keeping.{Kept}
use Rattle.script_text.specs.declared.commands.What.{What}
use Rattle.script_text.specs.declared.script.Script.{Script}
use Rattle.report_text.specs.declared.report.Answer.{Answer}
use Rattle.report_text.specs.declared.report.Answer.TheVariants as answers
use Rattle.report_text.specs.declared.report.ColumnReport.{ColumnReport}
use Rattle.report_text.specs.declared.report.Ended.{Ended}
use Rattle.report_text.specs.declared.report.Ended.TheVariants as ends
use Rattle.report_text.specs.declared.report.PointPiece.{PointPiece}
use Rattle.report_text.specs.declared.report.RaisePiece.{RaisePiece}
use Rattle.report_text.specs.declared.report.SyncPiece.{SyncPiece}
use Rattle.lawful_run.specs.Callers.{Caller, caller_of}
use Rattle.lawful_run.specs.Lawful.{HasHelping, IsHelp}
use Rattle.column_track.specs.Tracks.{Tells}
use Rattle.run_rules.specs.Told.{Step, Untold, kept_at}
use Rattle.run_rules.specs.Telling.{account_of, no_nodes, replies_to, untold_told}
use Rattle.run_rules.specs.Naming.{CarriesOf, EntersOf, GivesTo, Has, IsRaise, IsTrim, Names}
use Rattle.walk_law.specs.declared.naming.Kind.{Kind}
use Rattle.walk_law.specs.declared.naming.Kind.TheVariants as kinds
use Rattle.walk_law.specs.Keepings.{Counted, IsCounted, made_at}
use Rattle.walk_law.specs.Walking.{Walked, journal_walked, log_walked, places_printed}

-- EVENTS

-- an event of this kind
abbrev pub IsOfKind : Kind → events.Event → Type 0
IsOfKind (kinds.Entry client) = EntersOf client
IsOfKind kinds.Raise = IsRaise
IsOfKind (kinds.Give region) = GivesTo region
IsOfKind (kinds.Carry region) = CarriesOf region
IsOfKind kinds.Trim = IsTrim

-- an event of such a kind by the client itself, behind so many events of a column; or a look at no fewer
abbrev pub IsNamed : ℕ → ℕ → List Entry → (events.Event → Type 0) → At → Type 0
IsNamed client seen history IsSuch (Event place) = (seen ≤ place) × Has client history IsSuch place
IsNamed client seen history IsSuch (Look events) = (seen ≤ events) × (events ≤ length history)

-- WHAT IS SEEN

-- What a client has seen of its region's columns, and how many nodes it knows to stand in their lines, by colour.
pub record Sighted : Type 0 where
  pub client : ℕ
  pub region : ℕ
  pub seen : List ℕ
  pub known : List ℕ

-- the region is one that a log can have, and so is each colour
pub record IsSighted (region : ℕ) (seen known : List ℕ) : Type 0 where
  pub within : region < MAX_REGIONS
  pub seen_len : length seen ≡ MAX_COLOURS
  pub known_len : length known ≡ MAX_COLOURS

-- so it is of a client that keeps this
pub record Sees (caller : Caller) (kept : Kept) (own : Sighted) : Type 0 where
  pub client : own.client ≡ caller.client
  pub region : own.region ≡ caller.own
  pub seen : (colour : ℕ) → colour < MAX_COLOURS → slice_index own.seen colour ≡ kept.seen caller.own colour
  pub known : (colour : ℕ) → colour < MAX_COLOURS → slice_index own.known colour ≡ kept.known colour

-- something is so, and this holds behind it; or it is not so
abbrev pub AndThen : Bool → Type 0 → Type 0 → Type 0
AndThen true Named Behind = Named × Behind
AndThen false Named Behind = Named → ⊥

-- COLOURS

-- points are of colours that a log can have
abbrev pub ArePointsLow : List PointPiece → Type 0
ArePointsLow points = All (λ (p : PointPiece). p.colour < MAX_COLOURS) points

-- raises are
abbrev pub AreRaisesLow : List RaisePiece → Type 0
AreRaisesLow raises = All (λ (r : RaisePiece). r.colour < MAX_COLOURS) raises

-- syncs are
abbrev pub AreSyncsLow : List SyncPiece → Type 0
AreSyncsLow syncs = All (λ (s : SyncPiece). s.colour < MAX_COLOURS) syncs

-- the append of a decision's node is
abbrev pub IsEndLow : Ended → Type 0
IsEndLow (ends.Stood stamp point) = point.colour < MAX_COLOURS
IsEndLow _ = Unit {0}

-- all columns that an answer names by a colour are of colours that a log can have
abbrev pub NamesLow : Answer → Type 0
NamesLow (answers.Stood stamp row points) = ArePointsLow points
NamesLow (answers.Synced sync plays) = sync.colour < MAX_COLOURS
NamesLow (answers.Scanned stamp count raises syncs) = AreRaisesLow raises × AreSyncsLow syncs
NamesLow (answers.Got value sync) = sync.colour < MAX_COLOURS
NamesLow (answers.GotMany values sync) = sync.colour < MAX_COLOURS
NamesLow (answers.GotKeys stamp shown raises syncs) = AreRaisesLow raises × AreSyncsLow syncs
NamesLow (answers.Ruled conflict stamp row points read_stamp raises syncs) =
    ArePointsLow points × AreRaisesLow raises × AreSyncsLow syncs
NamesLow (answers.Changed failed stamp row points read_stamp raises syncs) =
    ArePointsLow points × AreRaisesLow raises × AreSyncsLow syncs
NamesLow (answers.Listed names stamp raises syncs) = AreRaisesLow raises × AreSyncsLow syncs
NamesLow (answers.Undecided stamp sync) = sync.colour < MAX_COLOURS
NamesLow (answers.Decided commits stamp sync read_stamp raises syncs ended) =
    (sync.colour < MAX_COLOURS) × AreRaisesLow raises × AreSyncsLow syncs × IsEndLow ended
NamesLow (answers.Moved lined waiting colour events) = colour < MAX_COLOURS
NamesLow (answers.Took value point sync) = (point.colour < MAX_COLOURS) × (sync.colour < MAX_COLOURS)
NamesLow _ = Unit {0}

-- STEPS

-- What a client keeps when a command is answered is counted, what the reply leaves out is what the report tells, and the answer
-- names colours that a log can have.
pub record IsAsked (walked : Walked) (client : ℕ) (what : What) (answer : Answer) (kept : Kept) (untold : Untold) (counted : Counted)
    : Type 0 where
  pub counts : IsCounted (replies_to walked.report client) kept counted
  pub told : untold ≡ untold_told (log_walked walked) (caller_of walked.script client) (places_printed walked client) kept
      what answer
  pub low : NamesLow answer

-- what is asked of a step
abbrev pub NamesAll : Walked → Caller → Step → Type 0
NamesAll walked caller step =
    Names (log_walked walked) step.untold caller (kept_at step) step.command.what step.reply.answer

-- CLIENTS

-- the client made its own events of a region's columns, and no others
abbrev pub HasMadeIn : Walked → ℕ → Counted → ℕ → Type 0
HasMadeIn walked client counted region = (colour : ℕ) → colour < walked.script.shape.colours
    → places_of client (journal_walked walked region colour) ≡ made_at counted region colour

-- and so of all columns
abbrev pub HasMade : Walked → ℕ → Counted → Type 0
HasMade walked client counted =
    (region : ℕ) → region < walked.script.shape.regions → HasMadeIn walked client counted region

-- what a client's replies name is there, and its own events are those of its commands
pub record IsClientNamed (walked : Walked) (client : ℕ) : Type 0 where
  pub named : All (NamesAll walked (caller_of walked.script client))
      ((account_of walked.script walked.report no_nodes).steps client)
  pub made : (region colour : ℕ) → region < walked.script.shape.regions → colour < walked.script.shape.colours
      → places_of client (journal_walked walked region colour)
      ≡ ((account_of walked.script walked.report no_nodes).last client).made region colour

-- so it is of each client
abbrev pub AreNamed : Walked → Type 0
AreNamed walked = (client : ℕ) → client < length walked.report.clients → IsClientNamed walked client

-- HELPERS

-- under the number of each client whether it has a command that may help
pub record AreHelping (script : Script) (helping : List Bool) : Type 0 where
  pub many : length helping ≡ length script.shape.homes
  pub each : (client : ℕ) → client < length script.shape.homes
      → Tells (slice_index_or helping client false) (HasHelping script client)

-- where an event of a region's column helps, its client may help and is of the region
abbrev pub MayHelp : Script → ℕ → Entry → Type 0
MayHelp script region e = IsHelp e.by e.event → HasHelping script e.by × ((caller_of script e.by).own ≡ region)

-- and so of all events of a column
abbrev pub AreHelpers : Script → ColumnReport → Type 0
AreHelpers script column = All (MayHelp script column.region) column.journal
