-- The rules of a lawful run from the ninth on: what reads and moves show, what objects answer, refusals, appends that may only
-- stand next, trees, and maps that are played by their parts.
use Rattle.std.specs.Prelude.{◌≡◌, ◌≢◌, ◌⊎◌, Bool, true, false, IsTrue, ℕ, zero, suc, ◌<◌, List, [], ◌∷◌, length, Option, Some, None}
use Rattle.std.specs.List.{All, AllZip}
use Rattle.log_node.specs.declared.ids.Key.{Key}
use Rattle.log_node.specs.declared.node.At.TheVariants.{Event}
use Rattle.log_node.specs.Seen.{PlacedNode}
use Rattle.log_node.specs.Vectors.{at}
use Rattle.log_node.specs.Sets.{members}
use Rattle.object_fold.specs.Maps.{Value}
use Rattle.object_fold.specs.Nodes.{ObjectNode}
use Rattle.part_fold.specs.Decisions.{decision_text}
use Rattle.col_core.specs.History.{entry_key}
use Rattle.col_core.specs.Log.{Log, HasText}
use Rattle.col_core.specs.Keeping.{Kept}
use Rattle.script_text.specs.declared.script.Kind.{Kind}
use Rattle.script_text.specs.declared.script.Kind.TheVariants as kinds
use Rattle.script_text.specs.declared.commands.What.{What}
use Rattle.script_text.specs.declared.commands.What.TheVariants as whats
use Rattle.script_text.specs.declared.script.Script.{Script}
use Rattle.report_text.specs.declared.report.Answer.{Answer}
use Rattle.report_text.specs.declared.report.Answer.TheVariants as answers
use Rattle.report_text.specs.declared.report.Ended.{Ended}
use Rattle.report_text.specs.declared.report.Ended.TheVariants as ends
use Rattle.report_text.specs.declared.report.RaisePiece.{RaisePiece}
use Rattle.report_text.specs.declared.report.SyncPiece.{SyncPiece}
use Rattle.report_text.specs.declared.report.Report.{Report}
use Rattle.lawful_run.specs.Callers.{Caller, node_of}
use Rattle.lawful_run.specs.Asks.{kind_of_object, kind_asked, object_colours, home_of_object, home_asked, rising, tells_stamp_end, Guarding}
use Rattle.lawful_run.specs.Deeds.{AsksForKey, colours_synced, manner_of}
use Rattle.lawful_run.specs.Appends.{HadNoStamp, HasNoStamp, HasNoRowLeft, IsSoLong, WasNext}
use Rattle.lawful_run.specs.Shapes.{AppendsBy}
use Rattle.lawful_run.specs.Reads.{Syncs, ShowsPlayed, IsTrimmed, ReadsAt, AreKeysRead, ShowsKey, kept_after_piece}
use Rattle.lawful_run.specs.Moves.{Pulls, Trims}
use Rattle.lawful_run.specs.Objects.{AreObjectNodes, GetsValues, TakesFront}
use Rattle.lawful_run.specs.Parts.{AnswersGet, AnswersUndecided, IsRuledAs, OfNodesPlayed, OfPart, WaitsFor}
use Rattle.lawful_run.specs.Refusals.{IsAway, IsHomeRefusal}
use Rattle.lawful_run.specs.Explains.{IsNoStopAtOnce, AnswersKeys, ShowsVerdict, ShowsChange, ShowsNames}
use Rattle.run_rules.specs.Told.{Untold, Account, kept_at, is_several, stamp_told, kept_after_append, kept_after_row, kept_after_read, kept_deciding, kept_where, with_found, OfEachStep}
use Rattle.run_rules.specs.Rules.{with_room}
use Rattle.script_text.specs.Commands.{use_of}

-- RULE 9. What syncs, stamped reads, pulls and trims show.

-- a stamped read of these colours
abbrev pub ReadsColours : Log → Caller → Kept → List ℕ → ℕ → List RaisePiece → List SyncPiece → Type 0
ReadsColours log caller kept colours stamp raises syncs =
    ReadsAt log caller kept colours stamp raises syncs (kept_after_read log caller kept stamp raises syncs)

-- one of the command's colours
abbrev pub ReadsAsTold : Log → Caller → Kept → What → ℕ → List RaisePiece → List SyncPiece → Type 0
ReadsAsTold log caller kept what stamp raises syncs =
    ReadsColours log caller kept (colours_synced caller what) stamp raises syncs

-- a sync within a command
abbrev pub SyncsAsTold : Log → Caller → Kept → SyncPiece → Type 0
SyncsAsTold log caller kept sync = Syncs log caller kept sync.colour sync.events sync.counts

abbrev pub Shows : Log → Untold → Caller → Kept → What → List PlacedNode → Answer → Type 0
Shows log untold caller kept what nodes (answers.Synced sync plays) =
    (plays ≡ length nodes) × SyncsAsTold log caller kept sync
    × ShowsPlayed log caller kept sync.colour sync.events sync.counts nodes
Shows log untold caller kept what nodes (answers.Scanned stamp count raises syncs) =
    (count ≡ length nodes) × ReadsAsTold log caller kept what stamp raises syncs
    × (keys : List Key) × AreKeysRead log caller stamp syncs keys × AllZip (ShowsKey log) keys nodes
Shows log untold caller kept what nodes (answers.Pulled count give carry) =
    (region : ℕ) × (colour : ℕ) × (what ≡ whats.Pull region colour) × (place : ℕ) × (give ≡ Event place)
    × Pulls log caller kept region colour count place carry untold.too_low
Shows log untold caller kept what nodes (answers.Based at base) =
    (colour : ℕ) × (what ≡ whats.Trim colour) × (place : ℕ) × (at ≡ Event place) × Trims log caller kept colour place base
Shows log untold caller kept what nodes (answers.Got value sync) = SyncsAsTold log caller kept sync
Shows log untold caller kept what nodes (answers.GotMany values sync) = SyncsAsTold log caller kept sync
Shows log untold caller kept what nodes (answers.GotKeys stamp shown raises syncs) =
    ReadsAsTold log caller kept what stamp raises syncs
Shows log untold caller kept what nodes (answers.Ruled conflict stamp row points read_stamp raises syncs) =
    ReadsAsTold log caller (kept_after_append untold caller kept (stamp_told log caller kept row points) row points) what
    read_stamp raises syncs
Shows log untold caller kept what nodes (answers.Changed failed stamp row points read_stamp raises syncs) =
    ReadsAsTold log caller (kept_after_append untold caller kept (stamp_told log caller kept row points) row points) what
    read_stamp raises syncs
Shows log untold caller kept what nodes (answers.Listed names stamp raises syncs) =
    ReadsAsTold log caller kept what stamp raises syncs
Shows log untold caller kept what nodes (answers.Undecided stamp sync) = SyncsAsTold log caller kept sync
Shows log untold caller kept what nodes (answers.Decided commits stamp sync read_stamp raises syncs ended) =
    SyncsAsTold log caller kept sync
    × ReadsColours log caller (kept_after_piece log caller kept sync) (rising (object_colours (kind_asked caller what)))
    read_stamp raises syncs
Shows log untold caller kept what nodes (answers.Took value point sync) =
    SyncsAsTold log caller
    (kept_after_append untold caller kept (stamp_told log caller kept None (point ∷ [])) None (point ∷ [])) sync
Shows log untold caller kept what nodes _ = Unit {0}

pub record Rule9 (script : Script) (report : Report) (account : Account) : Type 0 where
  pub shows : OfEachStep script report account (λ caller step.
      Shows account.log step.untold caller (kept_at step) step.command.what step.reply.nodes step.reply.answer)

-- RULE 10. Objects answer what an object of one thread answers over the nodes that were played or read; what a read found is
-- what the transactions among these nodes left. Trees and maps that are played by their parts have rules of their own.

-- this is so of the nodes that a stamped read read
abbrev pub OfNodesRead : Log → Caller → ℕ → List SyncPiece → (List ObjectNode → Type 0) → Type 0
OfNodesRead log caller stamp syncs Says =
    (keys : List Key) × AreKeysRead log caller stamp syncs keys
    × (nodes : List ObjectNode) × AreObjectNodes log keys nodes × Says nodes

-- the key of the client's next node, under this stamp
abbrev pub own_key : Caller → Kept → ℕ → Key
own_key caller kept stamp = entry_key stamp (record { client = caller.client; count = kept.ids })

-- this is so where the object is a map
abbrev pub OfMap : Option Kind → Type 0 → Type 0
OfMap (Some (kinds.Map home colours)) Said = Said
OfMap _ Said = Unit {0}

-- the value is the answer by the own nodes that the sync played
abbrev pub GetsRight : Log → Caller → What → SyncPiece → Value → Type 0
GetsRight log caller what sync value = OfNodesPlayed log caller sync (AnswersGet caller what sync value)

abbrev pub AnswersRight : Log → Untold → Caller → Kept → What → Answer → Type 0
AnswersRight log untold caller kept what (answers.Got value sync) =
    OfMap (kind_asked caller what) (GetsRight log caller what sync value)
AnswersRight log untold caller kept what (answers.GotMany values sync) =
    (object : ℕ) × (key : List ℕ) × AsksForKey what object key
    × (kind_of_object caller object ≡ Some (kinds.Causal sync.colour)) × GetsValues log caller sync key values
AnswersRight log untold caller kept what (answers.GotKeys stamp shown raises syncs) =
    OfNodesRead log caller stamp syncs (AnswersKeys caller what shown (kept_after_read log caller kept stamp raises syncs)
    (with_found (use_of what) untold.found (kept_after_read log caller kept stamp raises syncs)))
AnswersRight log untold caller kept what (answers.Ruled conflict stamp row points read_stamp raises syncs) =
    OfNodesRead log caller read_stamp syncs
    (ShowsVerdict conflict stamp (own_key caller kept (stamp_told log caller kept row points)))
AnswersRight log untold caller kept what (answers.Took value point sync) = TakesFront log caller point value
AnswersRight log untold caller kept what _ = Unit {0}

pub record Rule10 (script : Script) (report : Report) (account : Account) : Type 0 where
  pub right : OfEachStep script report account (λ caller step.
      AnswersRight account.log step.untold caller (kept_at step) step.command.what step.reply.answer)

-- RULE 11. Each refusal stands only where its cause does; who has begun all its rows begins none, and who is away from an
-- object's home is refused.

-- no stamp was left for a decision's node, which has one colour
abbrev pub EndHasCause : Log → Caller → Kept → What → Ended → Type 0
EndHasCause log caller kept what (ends.StampEnd colour) =
    AppendsBy caller kept what (λ colours text. (members colours ≡ colour ∷ []) × HadNoStamp log caller kept colour)
EndHasCause log caller kept what _ = Unit {0}

abbrev pub HasCause : Log → Untold → Caller → Kept → What → Answer → Type 0
HasCause log untold caller kept what (answers.StampEnd colour) =
    IsTrue (tells_stamp_end (manner_of what)) × AppendsBy caller kept what (λ colours text.
    HasNoStamp log (with_room caller kept) kept (node_of caller kept colours text) colour
    (kept_where (is_several caller kept what) (kept_after_row untold caller kept) kept))
HasCause log untold caller kept what (answers.Full used) =
    IsNoStopAtOnce what × AppendsBy caller kept what (λ colours text. HasNoRowLeft caller kept colours used)
HasCause log untold caller kept what answers.SameRegion = (colour : ℕ) × (what ≡ whats.Pull caller.own colour)
HasCause log untold caller kept what (answers.Decided commits stamp sync read_stamp raises syncs ended) =
    EndHasCause log caller (kept_deciding log caller kept sync read_stamp raises syncs) what ended
HasCause log untold caller kept what answers.NoTx =
    (object : ℕ) × (pairs : _) × (what ≡ whats.Commit object pairs)
    × (home_of_object caller object ≡ Some caller.own) × (kept.reads object ≡ None)
HasCause log untold caller kept what (answers.Trimmed colour base) = IsTrimmed log caller kept colour base
HasCause log untold caller kept what (answers.NotHome home) = (home_asked caller what ≡ Some home) × (caller.own ≢ home)
HasCause log untold caller kept what _ = Unit {0}

-- there is a row
abbrev pub is_row : Option ℕ → Bool
is_row None = false
is_row (Some number) = true

-- an answer behind which a row was begun, by whether the command appends on several colours
abbrev pub begins_row : Bool → Answer → Bool
begins_row several (answers.Stood stamp row points) = is_row row
begins_row several (answers.StampEnd colour) = several
begins_row several (answers.Stopped zero) = false
begins_row several (answers.Stopped (suc steps)) = true
begins_row several (answers.Ruled conflict stamp row points read_stamp raises syncs) = is_row row
begins_row several (answers.Changed failed stamp row points read_stamp raises syncs) = is_row row
begins_row several _ = false

pub record Rule11 (script : Script) (report : Report) (account : Account) : Type 0 where
  pub caused : OfEachStep script report account (λ caller step.
      HasCause account.log step.untold caller (kept_at step) step.command.what step.reply.answer)
  pub room : OfEachStep script report account (λ caller step.
      IsTrue (begins_row (is_several caller (kept_at step) step.command.what) step.reply.answer)
      → (kept_at step).rows < caller.rows)
  pub away : OfEachStep script report account (λ caller step.
      IsAway caller (home_asked caller step.command.what) → IsHomeRefusal step.reply.answer)

-- RULE 12. An append that may only stand next stands where nothing had come between; and it is refused only where something
-- had.

abbrev pub StandsNext : Log → Caller → Kept → What → Answer → Type 0
StandsNext log caller kept what (answers.Stood stamp row points) =
    manner_of what ≡ Guarding → All (WasNext log caller kept) points
StandsNext log caller kept what (answers.Moved lined waiting colour events) =
    (text : List ℕ) × (what ≡ whats.Only colour text) × IsSoLong log caller kept colour events lined waiting
    × ((waiting ≢ 0) ⊎ (lined ≢ at (kept.starts colour) caller.own))
StandsNext log caller kept what _ = Unit {0}

pub record Rule12 (script : Script) (report : Report) (account : Account) : Type 0 where
  pub next : OfEachStep script report account (λ caller step.
      StandsNext account.log caller (kept_at step) step.command.what step.reply.answer)

-- RULE 13. A change of a tree is told what becomes of it among the nodes read behind it, and a list has the names that are
-- then in its path.

abbrev pub TreeAnswers : Log → Caller → Kept → What → Answer → Type 0
TreeAnswers log caller kept what (answers.Changed failed stamp row points read_stamp raises syncs) =
    OfNodesRead log caller read_stamp syncs
    (ShowsChange failed stamp (own_key caller kept (stamp_told log caller kept row points)))
TreeAnswers log caller kept what (answers.Listed names stamp raises syncs) =
    (object : ℕ) × (path : List ℕ) × (what ≡ whats.Ls object path)
    × OfNodesRead log caller stamp syncs (ShowsNames path names)
TreeAnswers log caller kept what _ = Unit {0}

pub record Rule13 (script : Script) (report : Report) (account : Account) : Type 0 where
  pub tree : OfEachStep script report account (λ caller step.
      TreeAnswers account.log caller (kept_at step) step.command.what step.reply.answer)

-- RULE 14. A peek and a decide answer by what their part's own line tells; and a decision is the verdict among the nodes read,
-- as the text of its node says, where that stands.

-- this is so where the object is a map that is played by its parts
abbrev pub OfParts : Option Kind → Type 0 → Type 0
OfParts (Some (kinds.Parts home colours)) Said = Said
OfParts _ Said = Unit {0}

-- the client's next node has this text, where it stands
abbrev pub SaysSo : Log → Caller → Kept → List ℕ → Ended → Type 0
SaysSo log caller kept text (ends.Stood stamp point) =
    HasText log (record { client = caller.client; count = kept.ids }) text
SaysSo log caller kept text _ = Unit {0}

abbrev pub PartAnswers : Log → Caller → Kept → What → Answer → Type 0
PartAnswers log caller kept what (answers.Got value sync) =
    OfParts (kind_asked caller what) (GetsRight log caller what sync value)
PartAnswers log caller kept what (answers.Undecided stamp sync) =
    OfNodesPlayed log caller sync (AnswersUndecided caller what sync stamp)
PartAnswers log caller kept what (answers.Decided commits stamp sync read_stamp raises syncs ended) =
    (waits : Key) × (stamp ≡ waits.stamp)
    × OfNodesPlayed log caller sync (OfPart (object_colours (kind_asked caller what)) sync.colour (WaitsFor (Some waits)))
    × OfNodesRead log caller read_stamp syncs (IsRuledAs waits commits)
    × SaysSo log caller (kept_deciding log caller kept sync read_stamp raises syncs)
    (decision_text (record { key = waits; commits = commits })) ended
PartAnswers log caller kept what _ = Unit {0}

pub record Rule14 (script : Script) (report : Report) (account : Account) : Type 0 where
  pub part : OfEachStep script report account (λ caller step.
      PartAnswers account.log caller (kept_at step) step.command.what step.reply.answer)
