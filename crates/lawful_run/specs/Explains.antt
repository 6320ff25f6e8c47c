-- What the reply to a command says of the log, to a client that keeps what its earlier replies told.
use Rattle.std.specs.Prelude.{◌≡◌, ◌≢◌, ◌⊎◌, IsTrue, ℕ, List, [], ◌∷◌, ◌++◌, length, Option, Some, None}
use Rattle.std.specs.List.{All, AllZip}
use Rattle.log_node.specs.declared.ids.Colours.{Colours}
use Rattle.log_node.specs.declared.ids.Key.{Key}
use Rattle.log_node.specs.declared.node.At.TheVariants.{Event}
use Rattle.log_node.specs.Seen.{PlacedNode}
use Rattle.log_node.specs.Sets.{members}
use Rattle.log_node.specs.Vectors.{at}
use Rattle.object_form.specs.declared.tree_why.TreeWhy.{TreeWhy}
use Rattle.object_fold.specs.Folds.{told_of}
use Rattle.object_fold.specs.Nodes.{ObjectNode}
use Rattle.object_fold.specs.Maps.{values_among}
use Rattle.object_fold.specs.Transactions.{values_after, versions_after, verdict_of}
use Rattle.tree_fold.specs.Paths.{Path}
use Rattle.tree_fold.specs.Readings.{path_of}
use Rattle.tree_fold.specs.Trees.{tree_after, telling, told_under, IsNamesAnswer}
use Rattle.col_core.specs.Log.{Log}
use Rattle.col_core.specs.Keeping.{Kept, nothing_kept, kept_after_event, kept_after_look, kept_after_sync, with_read}
use Rattle.script_text.specs.declared.script.Kind.TheVariants as kinds
use Rattle.script_text.specs.declared.commands.What.{What}
use Rattle.script_text.specs.declared.commands.What.TheVariants as whats
use Rattle.script_text.specs.declared.script.Command.{Command}
use Rattle.script_text.specs.Commands.{word_of}
use Rattle.report_text.specs.declared.report.Answer.{Answer}
use Rattle.report_text.specs.declared.report.Answer.TheVariants as answers
use Rattle.report_text.specs.declared.report.KeyAnswer.{KeyAnswer}
use Rattle.report_text.specs.declared.report.PointPiece.{PointPiece}
use Rattle.report_text.specs.declared.report.ReplyLine.{ReplyLine}
use Rattle.lawful_run.specs.Callers.{Caller, node_of}
use Rattle.lawful_run.specs.Asks.{kind_of_object, home_of_object, colours_of_object, home_asked, tells_stamp_end, Appending, Guarding, Committing, Dequeuing, Deciding, Syncing, Getting, Reading}
use Rattle.lawful_run.specs.Deeds.{AsksForKey, colours_synced, manner_of}
use Rattle.lawful_run.specs.Appends.{Appends, AppendsUnshown, HasNoStamp, HasNoRowLeft, IsSoLong, WasNext}
use Rattle.lawful_run.specs.Shapes.{AppendsBy, TellsBehind, TellsRead}
use Rattle.lawful_run.specs.Stops.{Stops}
use Rattle.lawful_run.specs.Reads.{Syncs, ShowsPlayed, greatest_stamp, kept_after_piece, ReadsAt, AreKeysRead, ShowsKey}
use Rattle.lawful_run.specs.Moves.{Pulls, kept_after_pull, Trims}
use Rattle.lawful_run.specs.Objects.{GetsValues, AreAnswers, TakesFront, shown_verdict}
use Rattle.lawful_run.specs.Parts.{AnswersGet, AnswersUndecided, AsksToDecide, Decides, OfNodesPlayed}
use Rattle.lawful_run.specs.Refusals.{FindsNoMemory, Hides, Refuses, IsAway, IsHomeRefusal, kept_before, kept_behind}

-- the command is no stop before the first step, which is answered before anything is tried
abbrev pub IsNoStopAtOnce : What → Type 0
IsNoStopAtOnce what = (colours : Colours) (text : List ℕ) → what ≢ whats.Stop 0 colours text

-- By the nodes read these are the values of the keys that were asked for, and so much is kept behind them.
abbrev pub AnswersKeys : Caller → What → List KeyAnswer → Kept → Kept → List ObjectNode → Type 0
AnswersKeys caller what shown read after objects =
    ((object : ℕ) × (asked : List (List ℕ)) × (what ≡ whats.GetAll object asked)
    × AreAnswers asked (values_among (colours_of_object caller object) objects asked) shown × (after ≡ read))
    ⊎ ((object : ℕ) × (asked : List (List ℕ)) × (what ≡ whats.Read object asked)
    × AreAnswers asked (values_after objects asked) shown
    × (after ≡ with_read read object (Some (versions_after objects asked))))

-- by the nodes read this is the verdict on the own node
abbrev pub ShowsVerdict : Option (List ℕ) → ℕ → Key → List ObjectNode → Type 0
ShowsVerdict conflict stamp own objects = verdict_of objects own ≡ Some (shown_verdict conflict stamp)

-- By the nodes read this is what becomes of the change of a tree that the own node has.
abbrev pub ShowsChange : Option TreeWhy → ℕ → Key → List ObjectNode → Type 0
ShowsChange failed stamp own objects = told_of telling objects own ≡ Some (told_under stamp failed)

-- By the nodes read these are the names in the path with this text, or it is not there.
abbrev pub ShowsNames : List ℕ → Option (List (List ℕ)) → List ObjectNode → Type 0
ShowsNames text names objects = (path : Path) × (path_of text ≡ Some path) × IsNamesAnswer (tree_after objects) path names

-- A command that answers where its node stands: it is a plain append, or it found that nothing had come between.
abbrev pub MayStand : Log → Caller → Kept → What → List PointPiece → Type 0
MayStand log caller kept what points =
    (manner_of what ≡ Appending) ⊎ ((manner_of what ≡ Guarding) × All (WasNext log caller kept) points)

-- The answer, with its node lines, to what a client asked: what it says of the log, and what the client keeps
-- afterwards.
abbrev pub Explains : Log → Caller → Kept → What → Answer → List PlacedNode → Kept → Type 0
Explains log caller kept what answers.NoMemory nodes after = (nodes ≡ []) × FindsNoMemory log caller kept what after
Explains log caller kept what (answers.Stood stamp row points) nodes after =
    (nodes ≡ []) × MayStand log caller kept what points
    × AppendsBy caller kept what (λ colours text.
    Appends log caller kept (node_of caller kept colours text) stamp row points after)
Explains log caller kept what (answers.StampEnd colour) nodes after =
    (nodes ≡ []) × IsTrue (tells_stamp_end (manner_of what))
    × AppendsBy caller kept what (λ colours text.
    HasNoStamp log caller kept (node_of caller kept colours text) colour after)
Explains log caller kept what (answers.Full used) nodes after =
    (nodes ≡ []) × IsNoStopAtOnce what × (after ≡ kept)
    × AppendsBy caller kept what (λ colours text. HasNoRowLeft caller kept colours used)
Explains log caller kept what (answers.Stopped steps) nodes after =
    (nodes ≡ []) × (colours : Colours) × (text : List ℕ) × (what ≡ whats.Stop steps colours text)
    × Stops log caller kept (node_of caller kept colours text) steps after
Explains log caller kept what (answers.Synced sync plays) nodes after =
    (what ≡ whats.Sync sync.colour) × (plays ≡ length nodes)
    × Syncs log caller kept sync.colour sync.events sync.counts
    × ShowsPlayed log caller kept sync.colour sync.events sync.counts nodes
    × (after ≡ kept_after_sync kept caller.own sync.colour sync.events sync.counts (greatest_stamp nodes))
Explains log caller kept what (answers.Scanned stamp count raises syncs) nodes after =
    (colours : Colours) × (what ≡ whats.Scan colours) × (count ≡ length nodes)
    × ReadsAt log caller kept (members colours) stamp raises syncs after
    × (keys : List Key) × AreKeysRead log caller stamp syncs keys × AllZip (ShowsKey log) keys nodes
Explains log caller kept what (answers.Pulled count give carry) nodes after =
    (nodes ≡ []) × (region : ℕ) × (colour : ℕ) × (what ≡ whats.Pull region colour)
    × (place : ℕ) × (give ≡ Event place) × (too_low : List ℕ)
    × Pulls log caller kept region colour count place carry too_low
    × (after ≡ kept_after_pull kept caller.own region colour place carry too_low)
Explains log caller kept what answers.SameRegion nodes after =
    (nodes ≡ []) × (after ≡ kept) × (colour : ℕ) × (what ≡ whats.Pull caller.own colour)
Explains log caller kept what (answers.Based at base) nodes after =
    (nodes ≡ []) × (colour : ℕ) × (what ≡ whats.Trim colour) × (place : ℕ) × (at ≡ Event place)
    × Trims log caller kept colour place base × (after ≡ kept_after_event kept caller.own colour place)
Explains log caller kept what (answers.Got value sync) nodes after =
    (nodes ≡ []) × OfNodesPlayed log caller sync (AnswersGet caller what sync value)
    × Syncs log caller kept sync.colour sync.events sync.counts
    × (after ≡ kept_after_piece log caller kept sync)
Explains log caller kept what (answers.GotMany values sync) nodes after =
    (nodes ≡ []) × (object : ℕ) × (key : List ℕ) × AsksForKey what object key
    × (kind_of_object caller object ≡ Some (kinds.Causal sync.colour))
    × Syncs log caller kept sync.colour sync.events sync.counts
    × GetsValues log caller sync key values
    × (after ≡ kept_after_piece log caller kept sync)
Explains log caller kept what (answers.GotKeys stamp shown raises syncs) nodes after =
    (nodes ≡ []) × (read : Kept) × TellsRead log caller kept (colours_synced caller what) stamp raises syncs
    (AnswersKeys caller what shown read after) read
Explains log caller kept what (answers.Ruled conflict stamp row points read_stamp raises syncs) nodes after =
    (nodes ≡ []) × TellsBehind log caller kept what row points read_stamp raises syncs (ShowsVerdict conflict stamp) after
Explains log caller kept what (answers.Changed failed stamp row points read_stamp raises syncs) nodes after =
    (nodes ≡ []) × TellsBehind log caller kept what row points read_stamp raises syncs (ShowsChange failed stamp) after
Explains log caller kept what (answers.Listed names stamp raises syncs) nodes after =
    (nodes ≡ []) × (object : ℕ) × (path : List ℕ) × (what ≡ whats.Ls object path)
    × TellsRead log caller kept (colours_synced caller what) stamp raises syncs (ShowsNames path names) after
Explains log caller kept what (answers.Undecided stamp sync) nodes after =
    (nodes ≡ []) × OfNodesPlayed log caller sync (AnswersUndecided caller what sync stamp)
    × Syncs log caller kept sync.colour sync.events sync.counts
    × (after ≡ kept_after_piece log caller kept sync)
Explains log caller kept what (answers.Decided commits stamp sync read_stamp raises syncs ended) nodes after =
    (nodes ≡ []) × (colours : List ℕ) × AsksToDecide caller what sync colours
    × Decides log caller kept what colours commits stamp sync read_stamp raises syncs ended after
Explains log caller kept what (answers.Moved lined waiting colour events) nodes after =
    (nodes ≡ []) × (text : List ℕ) × (what ≡ whats.Only colour text)
    × IsSoLong log caller kept colour events lined waiting
    × ((waiting ≢ 0) ⊎ (lined ≢ at (kept.starts colour) caller.own))
    × (after ≡ kept_after_look kept caller.own colour events)
Explains log caller kept what answers.NoTx nodes after =
    (nodes ≡ []) × (after ≡ kept) × (object : ℕ) × (pairs : _) × (what ≡ whats.Commit object pairs)
    × (home_of_object caller object ≡ Some caller.own) × (kept.reads object ≡ None)
Explains log caller kept what (answers.Took value point sync) nodes after =
    (nodes ≡ []) × (manner_of what ≡ Dequeuing) × (sync.colour ≡ point.colour)
    × AppendsBy caller kept what (λ colours text. (own : ℕ) × (stood : Kept)
    × Appends log caller kept (node_of caller kept colours text) own None (point ∷ []) stood
    × Syncs log caller stood sync.colour sync.events sync.counts
    × TakesFront log caller point value
    × (after ≡ kept_after_piece log caller stood sync))
Explains log caller kept what (answers.UnreadTrimmed stamp colour base) nodes after =
    (nodes ≡ []) × ((manner_of what ≡ Committing) ⊎ (manner_of what ≡ Dequeuing))
    × AppendsBy caller kept what (λ colours text. (stood : Kept)
    × AppendsUnshown log caller kept (node_of caller kept colours text) stamp stood
    × Refuses log caller stood (colours_synced caller what) (manner_of what) colour base after)
Explains log caller kept what (answers.UnreadNoMemory stamp) nodes after =
    (nodes ≡ []) × ((manner_of what ≡ Committing) ⊎ (manner_of what ≡ Dequeuing))
    × AppendsBy caller kept what (λ colours text. (stood : Kept)
    × AppendsUnshown log caller kept (node_of caller kept colours text) stamp stood
    × Hides log caller stood (colours_synced caller what) (manner_of what) after)
Explains log caller kept what (answers.Trimmed colour base) nodes after =
    (nodes ≡ []) × ((manner_of what ≡ Syncing) ⊎ ((manner_of what ≡ Getting)
    ⊎ ((manner_of what ≡ Reading) ⊎ (manner_of what ≡ Deciding))))
    × Refuses log caller kept (colours_synced caller what) (manner_of what) colour base after
Explains log caller kept what (answers.NotHome home) nodes after =
    (nodes ≡ []) × (after ≡ kept) × (home_asked caller what ≡ Some home) × (caller.own ≢ home)

-- A reply line stands for its command: with the line's number, the command's word, and an answer that the log explains.
-- Away from its object's home a client is answered so.
pub record Answers (log : Log) (caller : Caller) (kept : Kept) (command : Command) (reply : ReplyLine)
    (after : Kept) : Type 0 where
  pub line : reply.line ≡ command.line
  pub word : reply.word ≡ word_of command.what
  pub answered : Kept
  pub explained : Explains log caller (kept_before command.what kept) command.what reply.answer reply.nodes answered
  pub after_is : after ≡ kept_behind command.what answered
  pub away : IsAway caller (home_asked caller command.what) → IsHomeRefusal reply.answer

-- The log explains a client's replies, one for each of its commands in their order, and it then keeps this.
pub data Explained (log : Log) (caller : Caller) : List Command → List ReplyLine → Kept → Type 0 where
  start : Explained log caller [] [] nothing_kept
  next : {commands : List Command} {replies : List ReplyLine} {kept after : Kept} (command : Command)
      (reply : ReplyLine)
      → Explained log caller commands replies kept → Answers log caller kept command reply after
      → Explained log caller (commands ++ command ∷ []) (replies ++ reply ∷ []) after
