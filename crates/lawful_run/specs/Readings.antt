-- What a reader takes from the report of a lawful run.
use Rattle.std.specs.Prelude.{◌≡◌, ◌≢◌, IsTrue, ℕ, zero, suc, ◌+◌, ◌==◌, ◌<◌, ◌≤◌, List, [], ◌∷◌, length, map, Option, Some, None, slice_get, refl, if◌then◌else◌}
use Rattle.std.specs.List.{Contains}
use Rattle.log_node.specs.declared.ids.Id.{Id}
use Rattle.log_node.specs.declared.ids.Key.{Key}
use Rattle.log_node.specs.declared.ids.Colours.{Colours}
use Rattle.log_node.specs.declared.node.Node.{Node}
use Rattle.log_node.specs.Order.{key_below}
use Rattle.log_node.specs.Seen.{PlacedNode}
use Rattle.log_node.specs.Sets.{members}
use Rattle.col_core.specs.History.{entry_key}
use Rattle.col_core.specs.Log.{Log}
use Rattle.col_core.specs.Keeping.{Kept, nothing_kept}
use Rattle.script_text.specs.declared.script.Command.{Command}
use Rattle.script_text.specs.declared.script.Script.{Script}
use Rattle.script_text.specs.Fitting.{IsFitting}
use Rattle.report_text.specs.declared.report.Answer.{Answer}
use Rattle.report_text.specs.declared.report.Answer.TheVariants as answers
use Rattle.report_text.specs.declared.report.Ended.{Ended}
use Rattle.report_text.specs.declared.report.Ended.TheVariants as ends
use Rattle.report_text.specs.declared.report.PointPiece.{PointPiece}
use Rattle.report_text.specs.declared.report.SyncPiece.{SyncPiece}
use Rattle.report_text.specs.declared.report.ReplyLine.{ReplyLine}
use Rattle.report_text.specs.declared.report.ClientReport.{ClientReport}
use Rattle.report_text.specs.declared.report.ColumnReport.{ColumnReport}
use Rattle.report_text.specs.declared.report.Report.{Report}
use Rattle.lawful_run.specs.Callers.{Caller, caller_of, commands_of}
use Rattle.lawful_run.specs.Deeds.{AsksToAppend}
use Rattle.lawful_run.specs.Explains.{Explained, start, next}
use Rattle.lawful_run.specs.Lawful.{LawfulRun}

-- what a client whose replies are explained keeps after so many of its commands
abbrev pub kept_at : {log : Log} {caller : Caller} {commands : List Command} {replies : List ReplyLine} {kept : Kept}
    → Explained log caller commands replies kept → ℕ → Kept
kept_at start k = nothing_kept
kept_at (next {commands} {replies} {kept} {after} command reply before answers) k =
    if k == length replies + 1 then after else kept_at before k

-- the same of a client's report, where there is one
abbrev pub kept_in : {script : Script} {report : Report} → LawfulRun script report → (client : ℕ)
    (shown : Option ClientReport)
    → slice_get report.clients client ≡ shown → ℕ → Kept
kept_in run client None there k = nothing_kept
kept_in run client (Some shown) there k = kept_at (run.clients client shown there).explained k

-- what a client keeps after so many of its commands
abbrev pub kept_of : {script : Script} {report : Report} → LawfulRun script report → ℕ → ℕ → Kept
kept_of {script} {report} run client k = kept_in run client (slice_get report.clients client) refl k

-- the report's reply number k to the client
abbrev pub HasReply : Report → ℕ → ℕ → ReplyLine → Type 0
HasReply report client k reply =
    (shown : ClientReport) × (slice_get report.clients client ≡ Some shown) × (slice_get shown.replies k ≡ Some reply)

-- the log has a node with this text at the id's place
abbrev pub IsLogged : Log → Id → List ℕ → Type 0
IsLogged log id text = (node : Node) × (slice_get (log.nodes id.client) id.count ≡ Some node) × (node.text ≡ text)

-- The client's command number k asks for a node with this id, on these colours and with this text, which the log has, and it
-- has this reply.
pub record IsAppend {script : Script} {report : Report} (run : LawfulRun script report) (client k : ℕ)
    (reply : ReplyLine) (id : Id) (colours : Colours) (text : List ℕ) : Type 0 where
  pub replied : HasReply report client k reply
  pub command : Command
  pub asked : slice_get (commands_of script client) k ≡ Some command
  pub asks : AsksToAppend (caller_of script client) (kept_of run client k) command.what colours text
  pub id_is : id ≡ record { client = client; count = (kept_of run client k).ids }
  pub logged : IsLogged run.log id text

-- what an answer tells of a node that its command appended
pub data NodeTold : Type 0 where
  -- there is none in any line
  Nowhere : NodeTold
  -- it stands under the stamp at these points
  UnderAt : (stamp : ℕ) → List PointPiece → NodeTold
  -- it stands at these points
  StoodAt : List PointPiece → NodeTold
  -- it stands under the stamp
  Under : (stamp : ℕ) → NodeTold
  -- others may complete it
  Perhaps : NodeTold

-- what the end of a decision's append tells of its node
abbrev pub told_end : Ended → NodeTold
told_end (ends.Stood stamp point) = UnderAt stamp (point ∷ [])
told_end (ends.StampEnd colour) = Nowhere
told_end ends.NoMemory = Nowhere

-- what each answer tells of its command's node
abbrev pub told : Answer → NodeTold
told (answers.Stood stamp row points) = UnderAt stamp points
told (answers.Ruled conflict stamp row points read_stamp raises syncs) = StoodAt points
told (answers.Changed failed stamp row points read_stamp raises syncs) = StoodAt points
told (answers.Took value point sync) = StoodAt (point ∷ [])
told (answers.UnreadTrimmed stamp colour base) = Under stamp
told (answers.UnreadNoMemory stamp) = Under stamp
told (answers.Decided commits stamp sync read_stamp raises syncs ended) = told_end ended
told (answers.Stopped zero) = Nowhere
told (answers.Stopped (suc steps)) = Perhaps
told answers.NoMemory = Nowhere
told (answers.StampEnd colour) = Nowhere
told (answers.Full used) = Nowhere
told (answers.Synced sync plays) = Nowhere
told (answers.Scanned stamp nodes raises syncs) = Nowhere
told (answers.Pulled nodes give carry) = Nowhere
told answers.SameRegion = Nowhere
told (answers.Based at base) = Nowhere
told (answers.Got value sync) = Nowhere
told (answers.GotMany values sync) = Nowhere
told (answers.GotKeys stamp keys raises syncs) = Nowhere
told (answers.Listed names stamp raises syncs) = Nowhere
told (answers.Undecided stamp sync) = Nowhere
told (answers.Moved lined waiting colour events) = Nowhere
told answers.NoTx = Nowhere
told (answers.Trimmed colour base) = Nowhere
told (answers.NotHome home) = Nowhere

-- the closing line of this region and colour has the key at the position
abbrev pub StandsAtEnd : Report → ℕ → ℕ → ℕ → Key → Type 0
StandsAtEnd report region colour position key =
    (column : ColumnReport) → Contains report.columns column → column.region ≡ region → column.colour ≡ colour
    → slice_get column.line position ≡ Some key

-- the id stands under the stamp at these points, one for each of the colours
pub record StandsAtPoints (report : Report) (region : ℕ) (id : Id) (colours : Colours) (stamp : ℕ)
    (points : List PointPiece) : Type 0 where
  pub all : map (λ (p : PointPiece). p.colour) points ≡ members colours
  pub each : (point : PointPiece) → Contains points point
      → StandsAtEnd report region point.colour point.position (entry_key stamp id)

-- the id stands in the region's closing lines of these colours as it was told
abbrev pub StandsAs : Report → ℕ → Id → Colours → NodeTold → Type 0
StandsAs report region id colours Nowhere = ⊥
StandsAs report region id colours (UnderAt stamp points) = StandsAtPoints report region id colours stamp points
StandsAs report region id colours (StoodAt points) = (stamp : ℕ) × StandsAtPoints report region id colours stamp points
StandsAs report region id colours (Under stamp) =
    (colour : ℕ) → Contains (members colours) colour
    → (position : ℕ) × StandsAtEnd report region colour position (entry_key stamp id)
StandsAs report region id colours Perhaps = Unit {0}

-- An append that returned stands where its answer says, in the closing lines of all its colours under one stamp.
abbrev pub ReturnedAppendsStand : Type 0
ReturnedAppendsStand =
    (script : Script) (report : Report) (run : LawfulRun script report) (client k : ℕ) (reply : ReplyLine)
    → HasReply report client k reply → told reply.answer ≢ Nowhere
    → (id : Id) × (colours : Colours) × (text : List ℕ) × IsAppend run client k reply id colours text
    × StandsAs report (caller_of script client).own id colours (told reply.answer)

-- An id is of one command alone.
abbrev pub OneCommand : Type 0
OneCommand =
    (script : Script) (report : Report) (run : LawfulRun script report) (client k m : ℕ) (reply other : ReplyLine)
    (id : Id) (colours set : Colours) (text words : List ℕ)
    → IsAppend run client k reply id colours text → told reply.answer ≢ Nowhere
    → IsAppend run client m other id set words → told other.answer ≢ Nowhere → k ≡ m

-- Each closing line rises in key.
abbrev pub ClosingLinesRise : Type 0
ClosingLinesRise =
    (script : Script) (report : Report) → LawfulRun script report
    → (column : ColumnReport) → Contains report.columns column → (i j : ℕ) (k l : Key)
    → slice_get column.line i ≡ Some k → slice_get column.line j ≡ Some l → i < j → IsTrue (key_below k l)

-- An id has one key in all closing lines, which are all of one region.
abbrev pub OneKey : Type 0
OneKey =
    (script : Script) (report : Report) → IsFitting script → LawfulRun script report
    → (a b : ColumnReport) → Contains report.columns a → Contains report.columns b
    → (k l : Key) → Contains a.line k → Contains b.line l → k.id ≡ l.id → (k ≡ l) × (a.region ≡ b.region)

-- So two nodes stand in one order in each line that has both, and each stands there once.
abbrev pub OneOrder : Type 0
OneOrder =
    (script : Script) (report : Report) → IsFitting script → LawfulRun script report
    → (a b : ColumnReport) → Contains report.columns a → Contains report.columns b → (i j m n : ℕ) (k l p q : Key)
    → slice_get a.line i ≡ Some k → slice_get b.line m ≡ Some p → k.id ≡ p.id
    → slice_get a.line j ≡ Some l → slice_get b.line n ≡ Some q → l.id ≡ q.id
    → i ≤ j → m ≤ n

-- Each key of a closing line is of a command of its client, in the client's region, which asked for this colour and
-- whose answer does not say that its node is nowhere.
abbrev pub NothingElseStands : Type 0
NothingElseStands =
    (script : Script) (report : Report) → IsFitting script → (run : LawfulRun script report)
    → (column : ColumnReport) → Contains report.columns column → (key : Key) → Contains column.line key
    → (k : ℕ) × (reply : ReplyLine) × (colours : Colours) × (text : List ℕ)
    × IsAppend run key.id.client k reply key.id colours text × (told reply.answer ≢ Nowhere)
    × Contains (members colours) column.colour × ((caller_of script key.id.client).own ≡ column.region)

-- A node line shows the text that the command of its id appended, whose answer does not say that its node is nowhere.
abbrev pub ShownAsAppended : Type 0
ShownAsAppended =
    (script : Script) (report : Report) → IsFitting script → (run : LawfulRun script report)
    → (client n : ℕ) (reply : ReplyLine) → HasReply report client n reply
    → (item : PlacedNode) → Contains reply.nodes item
    → (k : ℕ) × (other : ReplyLine) × (colours : Colours)
    × IsAppend run item.head.key.id.client k other item.head.key.id colours item.node.text
    × (told other.answer ≢ Nowhere)

-- No id is shown twice among the node lines of a client's syncs of one colour.
abbrev pub ShownOnce : Type 0
ShownOnce =
    (script : Script) (report : Report) → IsFitting script → LawfulRun script report
    → (client i j m n : ℕ) (one other : ReplyLine) (s t : SyncPiece) (plays more : ℕ) (a b : PlacedNode)
    → HasReply report client i one → one.answer ≡ answers.Synced s plays → slice_get one.nodes m ≡ Some a
    → HasReply report client j other → other.answer ≡ answers.Synced t more → slice_get other.nodes n ≡ Some b
    → s.colour ≡ t.colour → a.head.key.id ≡ b.head.key.id → (i ≡ j) × (m ≡ n)
