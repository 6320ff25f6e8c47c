-- What a reader takes of stamped reads and of the objects' answers: each is what its definition makes of nodes that
-- stand in the closing lines.
use Rattle.std.specs.Prelude.{◌≡◌, ◌≢◌, ◌⊎◌, Bool, ℕ, List, take, map, Option, Some, slice_get}
use Rattle.std.specs.List.{All, AllZip, Contains}
use Rattle.log_node.specs.declared.ids.Id.{Id}
use Rattle.log_node.specs.declared.ids.Key.{Key}
use Rattle.log_node.specs.declared.ids.Colours.{Colours}
use Rattle.log_node.specs.Seen.{PlacedNode}
use Rattle.log_node.specs.Vectors.{at}
use Rattle.object_form.specs.declared.tree_why.TreeWhy.{TreeWhy}
use Rattle.object_fold.specs.Folds.{told_of}
use Rattle.object_fold.specs.Nodes.{ObjectNode}
use Rattle.object_fold.specs.Maps.{Value, values_among}
use Rattle.object_fold.specs.Queues.{front_after}
use Rattle.object_fold.specs.Causal.{ChainNode, IsCausalAnswer}
use Rattle.object_fold.specs.Transactions.{values_after, verdict_of}
use Rattle.part_fold.specs.Decisions.{decision_text}
use Rattle.tree_fold.specs.Paths.{Path}
use Rattle.tree_fold.specs.Readings.{path_of}
use Rattle.tree_fold.specs.Trees.{tree_after, telling, told_under, IsNamesAnswer}
use Rattle.col_core.specs.History.{entry_key}
use Rattle.col_core.specs.PlayOrder.{Place}
use Rattle.col_core.specs.RegionOrder.{IsRegionOrder}
use Rattle.script_text.specs.declared.script.Kind.TheVariants as kinds
use Rattle.script_text.specs.declared.commands.What.{What}
use Rattle.script_text.specs.declared.commands.What.TheVariants as whats
use Rattle.script_text.specs.declared.script.Command.{Command}
use Rattle.script_text.specs.declared.script.Script.{Script}
use Rattle.script_text.specs.Fitting.{IsFitting}
use Rattle.report_text.specs.declared.report.Answer.TheVariants as answers
use Rattle.report_text.specs.declared.report.Ended.{Ended}
use Rattle.report_text.specs.declared.report.KeyAnswer.{KeyAnswer}
use Rattle.report_text.specs.declared.report.PointPiece.{PointPiece}
use Rattle.report_text.specs.declared.report.RaisePiece.{RaisePiece}
use Rattle.report_text.specs.declared.report.SyncPiece.{SyncPiece}
use Rattle.report_text.specs.declared.report.ReplyLine.{ReplyLine}
use Rattle.report_text.specs.declared.report.ColumnReport.{ColumnReport}
use Rattle.report_text.specs.declared.report.Report.{Report}
use Rattle.lawful_run.specs.Callers.{caller_of, commands_of}
use Rattle.lawful_run.specs.Asks.{kind_of_object, colours_of_object, rising}
use Rattle.lawful_run.specs.Deeds.{AsksForKey}
use Rattle.lawful_run.specs.Objects.{AreAnswers, places_within, shown_verdict}
use Rattle.lawful_run.specs.Parts.{AnswersGet, AnswersUndecided, AsksToDecide, IsRuledAs, OfPart, WaitsFor}
use Rattle.lawful_run.specs.Lawful.{LawfulRun}
use Rattle.lawful_run.specs.Readings.{HasReply, IsAppend, StandsAtEnd, StandsAtPoints, Nowhere, told}

-- the object reads the node as its command appended it
pub record IsNodeOf {script : Script} {report : Report} (run : LawfulRun script report)
    (node : ObjectNode) : Type 0 where
  pub k : ℕ
  pub reply : ReplyLine
  pub append : IsAppend run node.key.id.client k reply node.key.id node.colours node.text
  pub tells : told reply.answer ≢ Nowhere

-- the nodes with these keys, in this order, as they were appended
pub record AreNodesOf {script : Script} {report : Report} (run : LawfulRun script report) (keys : List Key)
    (nodes : List ObjectNode) : Type 0 where
  pub keys_are : map (λ (n : ObjectNode). n.key) nodes ≡ keys
  pub each : All (IsNodeOf run) nodes

-- the client's command number k asks this
abbrev pub Commands : Script → ℕ → ℕ → What → Type 0
Commands script client k what =
    (command : Command) × (slice_get (commands_of script client) k ≡ Some command) × (command.what ≡ what)

-- the line is the closing one of the region and the colour
abbrev pub IsClosing : Report → ℕ → ℕ → List Key → Type 0
IsClosing report region colour line =
    (column : ColumnReport) × Contains report.columns column × (column.region ≡ region) × (column.colour ≡ colour)
    × (column.line ≡ line)

-- the lines are the closing ones of the colours of a region's syncs
abbrev pub AreClosing : Report → ℕ → List SyncPiece → List (List Key) → Type 0
AreClosing report region syncs lines =
    AllZip (λ (s : SyncPiece) line. IsClosing report region s.colour line) syncs lines

-- A scan shows all nodes up to its stamp that the closing lines of its colours have, in the order of the region.
abbrev pub ScansAreWhole : Type 0
ScansAreWhole =
    (script : Script) (report : Report) → IsFitting script → LawfulRun script report
    → (client n : ℕ) (reply : ReplyLine) → HasReply report client n reply
    → (stamp count : ℕ) (raises : List RaisePiece) (syncs : List SyncPiece)
    → reply.answer ≡ answers.Scanned stamp count raises syncs
    → (lines : List (List Key)) → AreClosing report (caller_of script client).own syncs lines
    → IsRegionOrder lines stamp (map (λ (item : PlacedNode). item.head.key) reply.nodes)

-- A get of a map, a peek, and a decide that finds nothing to decide are answered by the first nodes of the closing line, as
-- many as the sync counts.
abbrev pub GetsAreFolds : Type 0
GetsAreFolds =
    (script : Script) (report : Report) → IsFitting script → (run : LawfulRun script report)
    → (client n : ℕ) (reply : ReplyLine) → HasReply report client n reply
    → (value : Value) (sync : SyncPiece) → reply.answer ≡ answers.Got value sync
    → (line : List Key) → IsClosing report (caller_of script client).own sync.colour line
    → (what : What) × Commands script client n what
    × (nodes : List ObjectNode) × AreNodesOf run (take (at sync.counts (caller_of script client).own) line) nodes
    × AnswersGet (caller_of script client) what sync value nodes

-- So is a peek that finds no value yet.
abbrev pub UndecidedAreFolds : Type 0
UndecidedAreFolds =
    (script : Script) (report : Report) → IsFitting script → (run : LawfulRun script report)
    → (client n : ℕ) (reply : ReplyLine) → HasReply report client n reply
    → (stamp : ℕ) (sync : SyncPiece) → reply.answer ≡ answers.Undecided stamp sync
    → (line : List Key) → IsClosing report (caller_of script client).own sync.colour line
    → (what : What) × Commands script client n what
    × (nodes : List ObjectNode) × AreNodesOf run (take (at sync.counts (caller_of script client).own) line) nodes
    × AnswersUndecided (caller_of script client) what sync stamp nodes

-- A decision is on the first transaction for which the part waits after the first nodes of its closing line, as many as the
-- sync counts; what it says is the verdict after all nodes up to its read's stamp that the closing lines of its colours have;
-- and where its node stands that has the decision's text.
abbrev pub DecisionsAreFolds : Type 0
DecisionsAreFolds =
    (script : Script) (report : Report) → IsFitting script → (run : LawfulRun script report)
    → (client n : ℕ) (reply : ReplyLine) → HasReply report client n reply
    → (commits : Bool) (stamp : ℕ) (sync : SyncPiece) (read_stamp : ℕ) (raises : List RaisePiece) (syncs : List SyncPiece)
    → (ended : Ended) → reply.answer ≡ answers.Decided commits stamp sync read_stamp raises syncs ended
    → (line : List Key) → IsClosing report (caller_of script client).own sync.colour line
    → (lines : List (List Key)) → AreClosing report (caller_of script client).own syncs lines
    → (what : What) × Commands script client n what
    × (colours : List ℕ) × AsksToDecide (caller_of script client) what sync colours
    × (waits : Key) × (stamp ≡ waits.stamp)
    × (played : List ObjectNode) × AreNodesOf run (take (at sync.counts (caller_of script client).own) line) played
    × OfPart colours sync.colour (WaitsFor (Some waits)) played
    × (keys : List Key) × IsRegionOrder lines read_stamp keys × (nodes : List ObjectNode) × AreNodesOf run keys nodes
    × IsRuledAs waits commits nodes × (map (λ (s : SyncPiece). s.colour) syncs ≡ rising colours)
    × (told (answers.Decided commits stamp sync read_stamp raises syncs ended) ≢ Nowhere
    → (id : Id) × (own : Colours) × IsAppend run client n reply id own (decision_text (record { key = waits; commits = commits })))

-- the node of a chain as its command appended it, where its region's closing line of the colour has it
pub record IsChainNodeOf {script : Script} {report : Report} (run : LawfulRun script report) (colour : ℕ)
    (place : Place) (node : ChainNode) : Type 0 where
  pub region_is : node.region ≡ place.region
  pub position_is : node.position ≡ place.position
  pub key : Key
  pub stands : StandsAtEnd report place.region colour place.position key
  pub k : ℕ
  pub reply : ReplyLine
  pub colours : Colours
  pub append : IsAppend run key.id.client k reply key.id colours node.text
  pub tells : told reply.answer ≢ Nowhere

-- A get of a causal map answers by the first nodes of the closing lines of all regions, as many as its sync counts.
abbrev pub CausalGetsAreFolds : Type 0
CausalGetsAreFolds =
    (script : Script) (report : Report) → IsFitting script → (run : LawfulRun script report)
    → (client n : ℕ) (reply : ReplyLine) → HasReply report client n reply
    → (values : List (List ℕ)) (sync : SyncPiece) → reply.answer ≡ answers.GotMany values sync
    → (line : List Key) → IsClosing report (caller_of script client).own sync.colour line
    → (what : What) × Commands script client n what × (object : ℕ) × (key : List ℕ) × AsksForKey what object key
    × (kind_of_object (caller_of script client) object ≡ Some (kinds.Causal sync.colour))
    × (nodes : List ChainNode) × AllZip (IsChainNodeOf run sync.colour) (places_within sync.counts) nodes
    × IsCausalAnswer nodes key values

-- A dequeue takes the front of the queue after the nodes before its own in the closing line.
abbrev pub DequeuesAreFolds : Type 0
DequeuesAreFolds =
    (script : Script) (report : Report) → IsFitting script → (run : LawfulRun script report)
    → (client n : ℕ) (reply : ReplyLine) → HasReply report client n reply
    → (value : Value) (point : PointPiece) (sync : SyncPiece) → reply.answer ≡ answers.Took value point sync
    → (line : List Key) → IsClosing report (caller_of script client).own point.colour line
    → (nodes : List ObjectNode) × AreNodesOf run (take point.position line) nodes × (value ≡ front_after nodes)

-- A read of several keys answers by all nodes up to its stamp that the closing lines of its colours have.
abbrev pub ReadsAreFolds : Type 0
ReadsAreFolds =
    (script : Script) (report : Report) → IsFitting script → (run : LawfulRun script report)
    → (client n : ℕ) (reply : ReplyLine) → HasReply report client n reply
    → (stamp : ℕ) (shown : List KeyAnswer) (raises : List RaisePiece) (syncs : List SyncPiece)
    → reply.answer ≡ answers.GotKeys stamp shown raises syncs
    → (lines : List (List Key)) → AreClosing report (caller_of script client).own syncs lines
    → (keys : List Key) × IsRegionOrder lines stamp keys × (nodes : List ObjectNode) × AreNodesOf run keys nodes
    × (object : ℕ) × (asked : List (List ℕ))
    × ((Commands script client n (whats.GetAll object asked)
    × AreAnswers asked (values_among (colours_of_object (caller_of script client) object) nodes asked) shown)
    ⊎ (Commands script client n (whats.Read object asked) × AreAnswers asked (values_after nodes asked) shown))

-- A verdict is that of its transaction's node, where this stands, over all nodes up to the read's stamp that the closing
-- lines of its colours have.
abbrev pub VerdictsAreFolds : Type 0
VerdictsAreFolds =
    (script : Script) (report : Report) → IsFitting script → (run : LawfulRun script report)
    → (client n : ℕ) (reply : ReplyLine) → HasReply report client n reply
    → (conflict : Value) (stamp : ℕ) (row : Option ℕ) (points : List PointPiece)
    → (read_stamp : ℕ) (raises : List RaisePiece) (syncs : List SyncPiece)
    → reply.answer ≡ answers.Ruled conflict stamp row points read_stamp raises syncs
    → (lines : List (List Key)) → AreClosing report (caller_of script client).own syncs lines
    → (keys : List Key) × IsRegionOrder lines read_stamp keys × (nodes : List ObjectNode) × AreNodesOf run keys nodes
    × (id : Id) × (colours : Colours) × (text : List ℕ) × IsAppend run client n reply id colours text
    × (own : ℕ) × StandsAtPoints report (caller_of script client).own id colours own points
    × (verdict_of nodes (entry_key own id) ≡ Some (shown_verdict conflict stamp))

-- A change of a tree is told what becomes of its own node, where this stands, over all nodes up to the read's stamp that
-- the closing lines of its colours have.
abbrev pub ChangesAreFolds : Type 0
ChangesAreFolds =
    (script : Script) (report : Report) → IsFitting script → (run : LawfulRun script report)
    → (client n : ℕ) (reply : ReplyLine) → HasReply report client n reply
    → (failed : Option TreeWhy) (stamp : ℕ) (row : Option ℕ) (points : List PointPiece)
    → (read_stamp : ℕ) (raises : List RaisePiece) (syncs : List SyncPiece)
    → reply.answer ≡ answers.Changed failed stamp row points read_stamp raises syncs
    → (lines : List (List Key)) → AreClosing report (caller_of script client).own syncs lines
    → (keys : List Key) × IsRegionOrder lines read_stamp keys × (nodes : List ObjectNode) × AreNodesOf run keys nodes
    × (id : Id) × (colours : Colours) × (text : List ℕ) × IsAppend run client n reply id colours text
    × (own : ℕ) × StandsAtPoints report (caller_of script client).own id colours own points
    × (told_of telling nodes (entry_key own id) ≡ Some (told_under stamp failed))

-- A list of names answers what is in the path after all nodes up to its stamp that the closing lines of its colours have.
abbrev pub ListsAreFolds : Type 0
ListsAreFolds =
    (script : Script) (report : Report) → IsFitting script → (run : LawfulRun script report)
    → (client n : ℕ) (reply : ReplyLine) → HasReply report client n reply
    → (names : Option (List (List ℕ))) (stamp : ℕ) (raises : List RaisePiece) (syncs : List SyncPiece)
    → reply.answer ≡ answers.Listed names stamp raises syncs
    → (lines : List (List Key)) → AreClosing report (caller_of script client).own syncs lines
    → (keys : List Key) × IsRegionOrder lines stamp keys × (nodes : List ObjectNode) × AreNodesOf run keys nodes
    × (object : ℕ) × (text : List ℕ) × Commands script client n (whats.Ls object text)
    × (path : Path) × (path_of text ≡ Some path) × IsNamesAnswer (tree_after nodes) path names
