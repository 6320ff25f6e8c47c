-- What calls of objects are answered.
use Rattle.std.specs.Prelude.{◌≡◌, ℕ, ◌<◌, ◌≤◌, List, [], ◌∷◌, length, map, Option, Some, None, Result, Ok, Err, IfOk, vec_capacity}
use Rattle.object_fold.specs.Maps.{Value}
use Rattle.append_core.specs.declared.several.MultiFault.{MultiFault}
use Rattle.append_core.specs.declared.several.MultiFault.TheVariants as append_faults
use Rattle.append_core.specs.declared.stood.Point.{Point}
use Rattle.report_text.specs.declared.report.Answer.{Answer}
use Rattle.report_text.specs.declared.report.Answer.TheVariants as answers
use Rattle.report_text.specs.declared.report.Ended.{Ended}
use Rattle.report_text.specs.declared.report.Ended.TheVariants as ends
use Rattle.report_text.specs.declared.report.KeyAnswer.{KeyAnswer}
use Rattle.report_text.specs.declared.report.PointPiece.{PointPiece}
use Rattle.report_text.specs.declared.report.RaisePiece.{RaisePiece}
use Rattle.report_text.specs.declared.report.SyncPiece.{SyncPiece}
use Rattle.lawful_run.specs.Objects.{AreAnswers}
use Rattle.log_client.specs.declared.answers.Appended.{Appended}
use Rattle.log_client.specs.declared.answers.StampedRead.{StampedRead}
use Rattle.log_client.specs.declared.answers.Synced.{Synced}
use Rattle.log_client.specs.declared.faults.SyncFault.TheVariants as sync_faults
use Rattle.log_client.specs.declared.object_fault.ObjectFault.{ObjectFault}
use Rattle.log_client.specs.declared.object_fault.ObjectFault.TheVariants as faults
use Rattle.log_client.specs.Appends.{piece_of}
use Rattle.log_client.specs.StampedReads.{raise_piece, sync_piece}
use Rattle.region_fold.specs.declared.transactions.Tx.{Tx}
use Rattle.tx_parts.specs.declared.answers.Decided.{Decided}
use Rattle.tx_parts.specs.declared.answers.Peek.{Peek}
use Rattle.tx_parts.specs.declared.answers.Peek.TheVariants as peeks
use Rattle.run_script.specs.declared.serving.reads.ReadRoom.{ReadRoom}

-- the answer to a call that was refused
abbrev pub fault_answer : ObjectFault → Answer
fault_answer (faults.NotHome home) = answers.NotHome home
fault_answer (faults.Append (append_faults.Full used)) = answers.Full used
fault_answer (faults.Append (append_faults.StampEnd colour)) = answers.StampEnd colour
fault_answer (faults.Append (append_faults.Stopped steps)) = answers.Stopped steps
fault_answer (faults.Append append_faults.NoMemory) = answers.NoMemory
fault_answer (faults.Sync (sync_faults.Trimmed colour base)) = answers.Trimmed colour base
fault_answer (faults.Sync sync_faults.NoMemory) = answers.NoMemory
fault_answer (faults.Unread stamp (sync_faults.Trimmed colour base)) = answers.UnreadTrimmed stamp colour base
fault_answer (faults.Unread stamp sync_faults.NoMemory) = answers.UnreadNoMemory stamp
fault_answer faults.NoTx = answers.NoTx
fault_answer faults.NoMemory = answers.NoMemory

-- to an append of an object
abbrev pub append_answer : Result Appended ObjectFault → Answer
append_answer (Ok a) = answers.Stood a.stood.key.stamp a.row (map piece_of a.stood.points)
append_answer (Err fault) = fault_answer fault

-- to a get of a map
abbrev pub get_answer : Result (Value × Synced) ObjectFault → Answer
get_answer (Ok got) = answers.Got got.0 (sync_piece got.1)
get_answer (Err fault) = fault_answer fault

-- to a get of a causal map
abbrev pub many_answer : Result (List (List ℕ) × Synced) ObjectFault → Answer
many_answer (Ok got) = answers.GotMany got.0 (sync_piece got.1)
many_answer (Err fault) = fault_answer fault

-- to a peek, by what it showed
abbrev pub peek_shown : Peek → SyncPiece → Answer
peek_shown (peeks.Value value) sync = answers.Got value sync
peek_shown (peeks.Undecided key) sync = answers.Undecided key.stamp sync

-- to a peek
abbrev pub peek_answer : Result (Peek × Synced) ObjectFault → Answer
peek_answer (Ok r) = peek_shown r.0 (sync_piece r.1)
peek_answer (Err fault) = fault_answer fault

-- STAMPED READS

-- nothing is shown yet
abbrev pub ShowsNone : ReadRoom → Type 0
ShowsNone room = (room.raises.items ≡ []) × (room.syncs.items ≡ [])

-- there is room for a raise and a sync of so many colours
abbrev pub HasPlaces : ℕ → ReadRoom → Type 0
HasPlaces count room = (count ≤ vec_capacity room.raises) × (count ≤ vec_capacity room.syncs)

-- there is room for the raises and syncs of the read
abbrev pub HasRoomFor : ReadRoom → StampedRead → Type 0
HasRoomFor room read =
    (length read.raises ≤ vec_capacity room.raises) × (length read.syncs ≤ vec_capacity room.syncs)

-- this is the answer to a read of these keys
abbrev pub ShowsKeys : List (List ℕ) → Result (List Value × StampedRead) ObjectFault → Answer → Type 0
ShowsKeys keys (Ok r) answer =
    (shown : List KeyAnswer) × AreAnswers keys r.0 shown
    × (answer ≡ answers.GotKeys r.1.stamp shown (map raise_piece r.1.raises) (map sync_piece r.1.syncs))
ShowsKeys keys (Err fault) answer = answer ≡ fault_answer fault

-- what a read of a transactional map found for its reply
abbrev pub keys_found : Result (List Value × Tx × StampedRead) ObjectFault → Result (List Value × StampedRead) ObjectFault
keys_found (Ok r) = Ok (r.0, r.2)
keys_found (Err fault) = Err fault

-- what it found for a commit
abbrev pub tx_found : Result (List Value × Tx × StampedRead) ObjectFault → Option Tx
tx_found (Ok r) = Some r.1
tx_found (Err fault) = None

-- to a command that is told what becomes of its node, by what shows that it is told so
abbrev pub told_answer : {T : Type 0} → (T → Option ℕ → List PointPiece → ℕ → List RaisePiece → List SyncPiece → Answer)
    → Result (T × Appended × StampedRead) ObjectFault → Answer
told_answer shown (Ok r) =
    shown r.0 r.1.row (map piece_of r.1.stood.points) r.2.stamp (map raise_piece r.2.raises) (map sync_piece r.2.syncs)
told_answer shown (Err fault) = fault_answer fault

-- to a list of the names in a path of a tree
abbrev pub names_answer : Result (Option (List (List ℕ)) × StampedRead) ObjectFault → Answer
names_answer (Ok r) = answers.Listed r.0 r.1.stamp (map raise_piece r.1.raises) (map sync_piece r.1.syncs)
names_answer (Err fault) = fault_answer fault

-- DECISIONS

-- the append of a decision, which has one colour, ended so
abbrev pub ShowsEnd : Result Appended MultiFault → Ended → Type 0
ShowsEnd (Ok a) ended =
    (point : Point) → a.stood.points ≡ point ∷ [] → ended ≡ ends.Stood a.stood.key.stamp (piece_of point)
ShowsEnd (Err (append_faults.StampEnd colour)) ended = ended ≡ ends.StampEnd colour
ShowsEnd (Err append_faults.NoMemory) ended = ended ≡ ends.NoMemory
ShowsEnd (Err fault) ended = Unit {0}

-- this is the answer to a decide that made this decision, or none
abbrev pub ShowsDecision : Synced → Option Decided → Answer → Type 0
ShowsDecision synced None answer = answer ≡ answers.Got None (sync_piece synced)
ShowsDecision synced (Some decided) answer =
    (ended : Ended) × ShowsEnd decided.appended ended
    × (answer ≡ answers.Decided decided.commits decided.key.stamp (sync_piece synced) decided.read.stamp
    (map raise_piece decided.read.raises) (map sync_piece decided.read.syncs) ended)

-- this is the answer to a decide
abbrev pub ShowsDecide : Result (Synced × Option Decided) ObjectFault → Answer → Type 0
ShowsDecide (Ok r) answer = ShowsDecision r.0 r.1 answer
ShowsDecide (Err fault) answer = answer ≡ fault_answer fault

-- where the decision's node stands, it stands at a point
abbrev pub HasPoint : Decided → Type 0
HasPoint decided = IfOk decided.appended (λ a. 0 < length a.stood.points)
