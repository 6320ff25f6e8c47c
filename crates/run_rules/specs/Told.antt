-- The account that a report tells: a log, and each client's commands with their replies and with what it kept between them.
use Rattle.std.specs.Prelude.{◌≡◌, Bool, true, false, ℕ, zero, suc, nat_lt, List, [], ◌∷◌, length, map, Option, Some, None, slice_get}
use Rattle.std.specs.List.{All, find, flat_map, fold, range_with_len}
use Rattle.log_node.specs.declared.node.At.{At}
use Rattle.log_node.specs.declared.forms.Version.{Version}
use Rattle.log_node.specs.declared.marks.Outcome.{Outcome}
use Rattle.log_node.specs.declared.marks.Outcome.TheVariants.{Open}
use Rattle.log_node.specs.Order.{same_id}
use Rattle.log_node.specs.Outcomes.{final_number}
use Rattle.col_core.specs.declared.Entry.{Entry}
use Rattle.col_core.specs.Log.{Log}
use Rattle.col_core.specs.Rows.{BegunRow}
use Rattle.col_core.specs.Keeping.{Kept, nothing_kept, kept_after_single, kept_after_event, kept_after_look, with_floor, with_made, with_row, with_read}
use Rattle.script_text.specs.declared.commands.What.{What}
use Rattle.script_text.specs.declared.commands.What.TheVariants as whats
use Rattle.script_text.specs.declared.uses.ReadUse.TheVariants.{Takes}
use Rattle.script_text.specs.declared.uses.Use.{Use}
use Rattle.script_text.specs.declared.uses.Use.TheVariants.{OfObject}
use Rattle.script_text.specs.declared.script.Command.{Command}
use Rattle.script_text.specs.declared.script.Script.{Script}
use Rattle.script_text.specs.Commands.{use_of}
use Rattle.report_text.specs.declared.report.Answer.{Answer}
use Rattle.report_text.specs.declared.report.Answer.TheVariants as answers
use Rattle.report_text.specs.declared.report.Ended.{Ended}
use Rattle.report_text.specs.declared.report.Ended.TheVariants as ends
use Rattle.report_text.specs.declared.report.KeyAnswer.{KeyAnswer}
use Rattle.report_text.specs.declared.report.PointPiece.{PointPiece}
use Rattle.report_text.specs.declared.report.RaisePiece.{RaisePiece}
use Rattle.report_text.specs.declared.report.SyncPiece.{SyncPiece}
use Rattle.report_text.specs.declared.report.ReplyLine.{ReplyLine}
use Rattle.report_text.specs.declared.report.ClientReport.{ClientReport}
use Rattle.report_text.specs.declared.report.ColumnReport.{ColumnReport}
use Rattle.report_text.specs.declared.report.Report.{Report}
use Rattle.lawful_run.specs.Callers.{Caller, caller_of, commands_of}
use Rattle.lawful_run.specs.Asks.{object_colours, kind_asked}
use Rattle.lawful_run.specs.Deeds.{Saying, colours_reached, saying_of, found_by}
use Rattle.lawful_run.specs.Appends.{kept_after_points}
use Rattle.lawful_run.specs.Reads.{events_until, kept_after_place, kept_after_piece}
use Rattle.lawful_run.specs.Moves.{kept_after_pull}
use Rattle.lawful_run.specs.Refusals.{kept_before, kept_behind}
use Rattle.lawful_run.specs.Columns.{row_report}

-- WHAT A COMMAND APPENDS

-- the colours of a node that is said; none where none is
abbrev pub colours_said : List ℕ → Option Saying → List ℕ
colours_said own None = []
colours_said own (Some saying) = colours_reached own saying.reach

-- the colours on which a command appends, in rising number
abbrev pub colours_asked : Caller → Kept → What → List ℕ
colours_asked caller kept what =
    colours_said (object_colours (kind_asked caller what))
    (saying_of (kind_asked caller what) (found_by (use_of what) kept) what)

-- a command that appends on several takes a row
abbrev pub is_several : Caller → Kept → What → Bool
is_several caller kept what = nat_lt 1 (length (colours_asked caller kept what))

-- WHAT NO REPLY PRINTS

-- What a reply leaves out: where the client's own steps of an append to several colours stand, by colour; where a pull gave
-- before its give, as its number was too low; and what a read found, for each key its last committed writer.
pub record Untold : Type 0 where
  pub places : ℕ → List ℕ
  pub too_low : List ℕ
  pub found : List Version

-- the stamp of the event at a place
abbrev pub stamp_of : Option Entry → ℕ
stamp_of None = 0
stamp_of (Some e) = e.stamp

-- the outcome of a row
abbrev pub last_of : Option BegunRow → Outcome
last_of None = Open
last_of (Some r) = r.last

-- the stamp of an append that does not print it: that of its event, or that of its id's row
abbrev pub stamp_told : Log → Caller → Kept → Option ℕ → List PointPiece → ℕ
stamp_told log caller kept None [] = 0
stamp_told log caller kept None (point ∷ points) =
    stamp_of (slice_get (log.histories caller.own point.colour) (events_until point.at))
stamp_told log caller kept (Some number) points =
    final_number (last_of (find (λ (r : BegunRow). same_id (record { client = caller.client; count = kept.ids }) r.node.id)
    (log.rows caller.own)))

-- WHAT A CLIENT KEEPS

-- behind an append that stands
abbrev pub kept_after_append : Untold → Caller → Kept → ℕ → Option ℕ → List PointPiece → Kept
kept_after_append untold caller kept stamp None [] = kept
kept_after_append untold caller kept stamp None (point ∷ points) =
    kept_after_single kept caller.own point.colour (events_until point.at) stamp point.position
kept_after_append untold caller kept stamp (Some number) points =
    with_made (with_row (with_floor (kept_after_points kept caller.own points) stamp)) caller.own untold.places

-- behind an append that began a row, and does not stand
abbrev pub kept_after_row : Untold → Caller → Kept → Kept
kept_after_row untold caller kept = with_made (with_row kept) caller.own untold.places

-- the one or the other, as a row was begun or not
abbrev pub kept_where : Bool → Kept → Kept → Kept
kept_where true begun kept = begun
kept_where false begun kept = kept

-- behind a stop
abbrev pub kept_after_stop : Untold → Caller → Kept → ℕ → Kept
kept_after_stop untold caller kept zero = kept
kept_after_stop untold caller kept (suc steps) = kept_after_row untold caller kept

-- behind the raises of a stamped read
abbrev pub kept_after_raises : Caller → Kept → List RaisePiece → Kept
kept_after_raises caller kept raises =
    fold (λ k (r : RaisePiece). kept_after_place k caller.own r.colour r.at) kept raises

-- behind its syncs
abbrev pub kept_after_syncs : Log → Caller → Kept → List SyncPiece → Kept
kept_after_syncs log caller kept syncs = fold (λ k (s : SyncPiece). kept_after_piece log caller k s) kept syncs

-- behind a stamped read
abbrev pub kept_after_read : Log → Caller → Kept → ℕ → List RaisePiece → List SyncPiece → Kept
kept_after_read log caller kept stamp raises syncs =
    with_floor (kept_after_syncs log caller (kept_after_raises caller kept raises) syncs) stamp

-- behind the sync and the stamped read of a decision, when its node is appended
abbrev pub kept_deciding : Log → Caller → Kept → SyncPiece → ℕ → List RaisePiece → List SyncPiece → Kept
kept_deciding log caller kept sync stamp raises syncs =
    kept_after_read log caller (kept_after_piece log caller kept sync) stamp raises syncs

-- behind the append of a decision's node; no stamp was left, or no memory, and nothing was done
abbrev pub kept_after_end : Untold → Caller → Kept → Ended → Kept
kept_after_end untold caller kept (ends.Stood stamp point) =
    kept_after_append untold caller kept stamp None (point ∷ [])
kept_after_end untold caller kept (ends.StampEnd colour) = kept
kept_after_end untold caller kept ends.NoMemory = kept

-- a read of an object that a commit may use up keeps what it found
abbrev pub with_found : Use → List Version → Kept → Kept
with_found (OfObject object Takes) found kept = with_read kept object (Some found)
with_found _ found kept = kept

-- behind a pull
abbrev pub kept_pulled : Untold → Caller → Kept → What → At → At → Kept
kept_pulled untold caller kept (whats.Pull region colour) give carry =
    kept_after_pull kept caller.own region colour (events_until give) carry untold.too_low
kept_pulled untold caller kept _ give carry = kept

-- behind a trim
abbrev pub kept_trimmed : Caller → Kept → What → At → Kept
kept_trimmed caller kept (whats.Trim colour) at = kept_after_event kept caller.own colour (events_until at)
kept_trimmed caller kept _ at = kept

-- What a client keeps behind an answer. Answers that hide what was done are passed over: a report with one is not judged.
abbrev pub kept_told : Log → Untold → Caller → Kept → What → Answer → Kept
kept_told log untold caller kept what answers.NoMemory = kept
kept_told log untold caller kept what (answers.Stood stamp row points) =
    kept_after_append untold caller kept stamp row points
kept_told log untold caller kept what (answers.StampEnd colour) =
    kept_where (is_several caller kept what) (kept_after_row untold caller kept) kept
kept_told log untold caller kept what (answers.Full used) = kept
kept_told log untold caller kept what (answers.Stopped steps) = kept_after_stop untold caller kept steps
kept_told log untold caller kept what (answers.Synced sync plays) = kept_after_piece log caller kept sync
kept_told log untold caller kept what (answers.Scanned stamp count raises syncs) =
    kept_after_read log caller kept stamp raises syncs
kept_told log untold caller kept what (answers.Pulled count give carry) = kept_pulled untold caller kept what give carry
kept_told log untold caller kept what answers.SameRegion = kept
kept_told log untold caller kept what (answers.Based at base) = kept_trimmed caller kept what at
kept_told log untold caller kept what (answers.Got value sync) = kept_after_piece log caller kept sync
kept_told log untold caller kept what (answers.GotMany values sync) = kept_after_piece log caller kept sync
kept_told log untold caller kept what (answers.GotKeys stamp shown raises syncs) =
    with_found (use_of what) untold.found (kept_after_read log caller kept stamp raises syncs)
kept_told log untold caller kept what (answers.Ruled conflict stamp row points read_stamp raises syncs) =
    kept_after_read log caller (kept_after_append untold caller kept (stamp_told log caller kept row points) row points)
    read_stamp raises syncs
kept_told log untold caller kept what (answers.Changed failed stamp row points read_stamp raises syncs) =
    kept_after_read log caller (kept_after_append untold caller kept (stamp_told log caller kept row points) row points)
    read_stamp raises syncs
kept_told log untold caller kept what (answers.Listed names stamp raises syncs) =
    kept_after_read log caller kept stamp raises syncs
kept_told log untold caller kept what (answers.Undecided stamp sync) = kept_after_piece log caller kept sync
kept_told log untold caller kept what (answers.Decided commits stamp sync read_stamp raises syncs ended) =
    kept_after_end untold caller (kept_deciding log caller kept sync read_stamp raises syncs) ended
kept_told log untold caller kept what (answers.Moved lined waiting colour events) =
    kept_after_look kept caller.own colour events
kept_told log untold caller kept what answers.NoTx = kept
kept_told log untold caller kept what (answers.Took value point sync) =
    kept_after_piece log caller
    (kept_after_append untold caller kept (stamp_told log caller kept None (point ∷ [])) None (point ∷ [])) sync
kept_told log untold caller kept what (answers.UnreadTrimmed stamp colour base) = kept
kept_told log untold caller kept what (answers.UnreadNoMemory stamp) = kept
kept_told log untold caller kept what (answers.Trimmed colour base) = kept
kept_told log untold caller kept what (answers.NotHome home) = kept

-- what it keeps when the command's node is appended: a decide has synced and read before
abbrev pub kept_appending : Log → Caller → Kept → Answer → Kept
kept_appending log caller kept (answers.Decided commits stamp sync read_stamp raises syncs ended) =
    kept_deciding log caller kept sync read_stamp raises syncs
kept_appending log caller kept _ = kept

-- THE ACCOUNT

-- a command with its reply, in the account of a client
pub record Step : Type 0 where
  pub command : Command
  pub reply : ReplyLine
  -- what the client kept before it
  pub kept : Kept
  pub untold : Untold

-- what the client keeps while the step's command is answered
abbrev pub kept_at : Step → Kept
kept_at step = kept_before step.command.what step.kept

-- and behind its answer
abbrev pub kept_past : Log → Caller → Step → Kept
kept_past log caller step =
    kept_behind step.command.what
    (kept_told log step.untold caller (kept_at step) step.command.what step.reply.answer)

-- The steps follow one another: before each the client keeps what it keeps behind those before; and behind all it keeps this.
abbrev pub Follow : Log → Caller → Kept → List Step → Kept → Type 0
Follow log caller kept [] last = last ≡ kept
Follow log caller kept (step ∷ steps) last = (step.kept ≡ kept) × Follow log caller (kept_past log caller step) steps last

-- what was found is of the keys that the answer shows
abbrev pub AreKeysFound : List Version → Answer → Type 0
AreKeysFound found (answers.GotKeys stamp shown raises syncs) =
    map (λ (v : Version). v.key) found ≡ map (λ (k : KeyAnswer). k.key) shown
AreKeysFound found _ = Unit {0}

-- a log, for each client its steps, and what it keeps in the end
pub record Account : Type 0 where
  pub log : Log
  pub steps : ℕ → List Step
  pub last : ℕ → Kept

-- the steps of a client are its commands with these replies, and follow one another
pub record IsClientTold (script : Script) (account : Account) (client : ℕ) (replies : List ReplyLine) : Type 0 where
  pub commands : map (λ (s : Step). s.command) (account.steps client) ≡ commands_of script client
  pub replied : map (λ (s : Step). s.reply) (account.steps client) ≡ replies
  pub follow : Follow account.log (caller_of script client) nothing_kept (account.steps client) (account.last client)
  pub keys : All (λ (s : Step). AreKeysFound s.untold.found s.reply.answer) (account.steps client)

-- The report tells the account: its columns have the log's histories, its rows are the log's, with whatever nodes of their
-- ids, and each client's steps are told. What else the log has is without effect, or is fixed by rules: the places and what a
-- pull gave too low by rule 4, the nodes by rule 5, what reads found by rule 10.
pub record IsTold (script : Script) (report : Report) (account : Account) : Type 0 where
  pub histories : All (λ (c : ColumnReport). c.journal ≡ account.log.histories c.region c.colour) report.columns
  pub rows : report.rows ≡ flat_map (λ region. map (row_report region) (account.log.rows region))
      (range_with_len 0 script.shape.regions)
  pub clients : (n : ℕ) (c : ClientReport) → slice_get report.clients n ≡ Some c → IsClientTold script account n c.replies

-- of each step of each client that the report shows: of the client, what it kept, what it asked, and the step
abbrev pub OfEachStep : Script → Report → Account → (Caller → Step → Type 0) → Type 0
OfEachStep script report account P =
    (n : ℕ) (c : ClientReport) → slice_get report.clients n ≡ Some c → All (P (caller_of script n)) (account.steps n)
