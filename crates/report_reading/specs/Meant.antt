-- Which report of a script a text is meant to be: of all reports with one text the one that says no more than the text does.
use Rattle.std.specs.Prelude.{◌≡◌, ℕ, suc, ◌<◌, ◌≤◌, ◌^◌, ◌*◌, ◌/◌, ◌%◌, IsTrue, List, [], ◌∷◌, length, Option, None}
use Rattle.std.specs.List.{AllByRecursion}
use Rattle.std.specs.Prelude.{IfSome}
use Rattle.log_node.specs.declared.ids.Id.{Id}
use Rattle.log_node.specs.declared.ids.Key.{Key}
use Rattle.log_node.specs.declared.ids.Counts.{Counts}
use Rattle.log_node.specs.declared.node.At.{At}
use Rattle.log_node.specs.declared.node.At.TheVariants as places
use Rattle.log_node.specs.declared.node.Head.{Head}
use Rattle.log_node.specs.declared.node.Node.{Node}
use Rattle.log_node.specs.declared.marks.Mark.{Mark}
use Rattle.log_node.specs.declared.marks.Mark.TheVariants as marks
use Rattle.log_node.specs.declared.marks.ColourMark.{ColourMark}
use Rattle.log_node.specs.declared.marks.Outcome.{Outcome}
use Rattle.log_node.specs.declared.marks.Outcome.TheVariants.{Final}
use Rattle.log_node.specs.Seen.{PlacedNode}
use Rattle.log_node.specs.Vectors.{at, zeros}
use Rattle.col_core.specs.declared.Event.{Event}
use Rattle.col_core.specs.declared.Event.TheVariants as events
use Rattle.col_core.specs.declared.Entry.{Entry}
use Rattle.script_text.specs.declared.script.Script.{Script}
use Rattle.script_text.specs.Pieces.{name_of, is_key, is_text}
use Rattle.report_text.specs.declared.report.SyncPiece.{SyncPiece}
use Rattle.report_text.specs.declared.report.RaisePiece.{RaisePiece}
use Rattle.report_text.specs.declared.report.PointPiece.{PointPiece}
use Rattle.report_text.specs.declared.report.KeyAnswer.{KeyAnswer}
use Rattle.report_text.specs.declared.report.Ended.{Ended}
use Rattle.report_text.specs.declared.report.Ended.TheVariants as endings
use Rattle.report_text.specs.declared.report.Answer.{Answer}
use Rattle.report_text.specs.declared.report.Answer.TheVariants as answers
use Rattle.report_text.specs.declared.report.ReplyLine.{ReplyLine}
use Rattle.report_text.specs.declared.report.ClientReport.{ClientReport}
use Rattle.report_text.specs.declared.report.RowReport.{RowReport}
use Rattle.report_text.specs.declared.report.QueueKey.{QueueKey}
use Rattle.report_text.specs.declared.report.ColumnReport.{ColumnReport}
use Rattle.report_text.specs.declared.report.Report.{Report}
use Rattle.report_reading.specs.Answers.{has_answer}
use Rattle.report_reading.specs.Known.{Known, known_of, is_many}

-- a number that 64 bits hold
abbrev pub IsWord : ℕ → Type 0
IsWord n = n < 2 ^ 64

-- a number that 32 bits hold
abbrev pub IsSmall : ℕ → Type 0
IsSmall n = n < 2 ^ 32

-- a key or a value
abbrev pub IsKeyText : List ℕ → Type 0
IsKeyText text = IsTrue (is_key text)

-- the number of a client
abbrev pub IsClient : Script → ℕ → Type 0
IsClient script n = n < length script.clients

-- of a colour
abbrev pub IsColour : Script → ℕ → Type 0
IsColour script n = n < length script.colours

-- of a region
abbrev pub IsRegion : Script → ℕ → Type 0
IsRegion script n = n < length script.regions

-- the id of a client's node
pub record IsId (script : Script) (id : Id) : Type 0 where
  pub client : IsClient script id.client
  pub count : IsWord id.count

-- the same of a key
pub record IsKey (script : Script) (key : Key) : Type 0 where
  pub id : IsId script key.id
  pub stamp : IsWord key.stamp

-- counts for the script's regions, and 0 for all others
pub record AreCounts (script : Script) (counts : Counts) : Type 0 where
  pub long : length counts.0 ≡ 4
  pub small : (region : ℕ) → IsWord (at counts region)
  pub beyond : (region : ℕ) → length script.regions ≤ region → at counts region ≡ 0

-- a place, or a number of events, of 64 bits
abbrev pub IsAt : At → Type 0
IsAt (places.Event place) = IsWord place
IsAt (places.Look events) = IsWord events

-- a raise of one of the script's colours
pub record IsRaise (script : Script) (raise : RaisePiece) : Type 0 where
  pub colour : IsColour script raise.colour
  pub place : IsAt raise.at

-- where an append stands in one of them
pub record IsPoint (script : Script) (point : PointPiece) : Type 0 where
  pub colour : IsColour script point.colour
  pub place : IsAt point.at
  pub position : IsWord point.position

-- a sync of one of them
pub record IsSync (script : Script) (sync : SyncPiece) : Type 0 where
  pub colour : IsColour script sync.colour
  pub events : IsWord sync.events
  pub counts : AreCounts script sync.counts

-- a mark, of 64 bits where it is a stamp
abbrev pub IsMark : Mark → Type 0
IsMark (marks.Number stamp) = IsWord stamp
IsMark _ = Unit {0}

-- the mark of one of them
pub record IsColourMark (script : Script) (m : ColourMark) : Type 0 where
  pub colour : IsColour script m.colour
  pub mark : IsMark m.mark

-- an outcome, with a stamp of 64 bits
abbrev pub IsOutcome : Outcome → Type 0
IsOutcome (Final stamp) = IsWord stamp
IsOutcome _ = Unit {0}

-- ---- rows

-- a begun row
pub record IsRow (script : Script) (r : RowReport) : Type 0 where
  pub region : IsRegion script r.region
  pub client : IsClient script r.row.client
  pub number : IsSmall r.row.number
  pub id : IsId script r.id
  pub marks : AllByRecursion (IsColourMark script) r.marks
  pub last : IsOutcome r.last

-- ---- columns

-- a node that is carried
pub record IsHead (script : Script) (head : Head) : Type 0 where
  pub key : IsKey script head.key
  pub needs : AreCounts script head.needs

-- an id that enters, under the stamp that it was given
pub record Enters (script : Script) (entering : Id) (least : ℕ) (wanted : Counts) (given : ℕ) : Type 0 where
  pub id : IsId script entering
  pub floor : IsWord least
  pub wants : AreCounts script wanted
  pub stamp : IsWord given

-- an event; what gives no stamp has 0
abbrev pub IsEvent : Script → Event → ℕ → Type 0
IsEvent script (events.Single id floor wants) stamp = Enters script id floor wants stamp
IsEvent script (events.Propose id floor wants) stamp = Enters script id floor wants stamp
IsEvent script (events.Settle id outcome) stamp = IsId script id × IsOutcome outcome × (stamp ≡ 0)
IsEvent script (events.Raise to) stamp = IsWord to × (stamp ≡ 0)
IsEvent script (events.Give region from) stamp = IsRegion script region × IsWord from × (stamp ≡ 0)
IsEvent script (events.Carry region start heads) stamp =
    IsRegion script region × IsWord start × AllByRecursion (IsHead script) heads × (stamp ≡ 0)
IsEvent script (events.Trim counts) stamp = AreCounts script counts × (stamp ≡ 0)

-- an entry of a journal
pub record IsEntry (script : Script) (entry : Entry) : Type 0 where
  pub by : IsClient script entry.by
  pub event : IsEvent script entry.event entry.stamp

-- the column in a place: they stand by region, and of a region by colour
pub record IsColumn (script : Script) (place : ℕ) (column : ColumnReport) : Type 0 where
  pub region : column.region ≡ place / length script.colours
  pub colour : column.colour ≡ place % length script.colours
  pub region_name : column.region_name ≡ name_of script.regions column.region
  pub colour_name : column.colour_name ≡ name_of script.colours column.colour
  pub places : IsWord (length column.journal)
  pub journal : AllByRecursion (IsEntry script) column.journal
  pub clock : IsWord column.clock
  pub line : AllByRecursion (IsKey script) column.line
  pub queue : AllByRecursion (λ (q : QueueKey). IsKey script q.key) column.queue
  pub cut : AreCounts script column.cut
  pub base : AreCounts script column.base

-- ---- replies

-- the raises and the syncs of a stamped read
pub record AreRead (script : Script) (read : List RaisePiece × List SyncPiece) : Type 0 where
  pub raises : AllByRecursion (IsRaise script) read.0
  pub syncs : AllByRecursion (IsSync script) read.1

-- what a read says of a key
pub record IsKeyAnswer (answer : KeyAnswer) : Type 0 where
  pub key : IsKeyText answer.key
  pub value : IfSome answer.value IsKeyText

-- where the node of an append stands that was ruled on, and the stamped read that told it
pub record IsRuling (script : Script) (own : ℕ) (begun : Option ℕ) (places : List PointPiece) (last : ℕ) (reads : List RaisePiece × List SyncPiece) : Type 0 where
  pub stamp : IsWord own
  pub row : IfSome begun IsSmall
  pub points : AllByRecursion (IsPoint script) places
  pub read_stamp : IsWord last
  pub read : AreRead script reads

-- how the append of a decision ended
abbrev pub IsEnded : Script → Ended → Type 0
IsEnded script (endings.Stood stamp point) = IsWord stamp × IsPoint script point
IsEnded script (endings.StampEnd colour) = IsColour script colour
IsEnded script endings.NoMemory = Unit {0}

-- an answer: its numbers name something, and its texts are keys, values or names
abbrev pub IsAnswer : Script → Answer → Type 0
IsAnswer script (answers.Stood stamp row points) = IsWord stamp × IfSome row IsSmall × AllByRecursion (IsPoint script) points
IsAnswer script (answers.StampEnd colour) = IsColour script colour
IsAnswer script (answers.Full used) = IsSmall used
IsAnswer script (answers.Stopped steps) = steps < 2 ^ 8
IsAnswer script (answers.Synced sync plays) = IsSync script sync × IsWord plays
IsAnswer script (answers.Scanned stamp nodes raises syncs) = IsWord stamp × IsWord nodes × AreRead script (raises, syncs)
IsAnswer script (answers.Pulled nodes give carry) = IsWord nodes × IsAt give × IsAt carry
IsAnswer script answers.SameRegion = Unit {0}
IsAnswer script (answers.Based place base) = IsAt place × AreCounts script base
IsAnswer script (answers.Got value sync) = IfSome value IsKeyText × IsSync script sync
IsAnswer script (answers.GotMany values sync) = AllByRecursion IsKeyText values × IsSync script sync
IsAnswer script (answers.GotKeys stamp keys raises syncs) = IsWord stamp × AllByRecursion IsKeyAnswer keys × AreRead script (raises, syncs)
IsAnswer script (answers.Ruled conflict stamp row points read_stamp raises syncs) =
    IfSome conflict IsKeyText × IsRuling script stamp row points read_stamp (raises, syncs)
IsAnswer script (answers.Changed failed stamp row points read_stamp raises syncs) =
    IsRuling script stamp row points read_stamp (raises, syncs)
IsAnswer script (answers.Listed names stamp raises syncs) =
    IfSome names (AllByRecursion IsKeyText) × IsWord stamp × AreRead script (raises, syncs)
IsAnswer script (answers.Undecided stamp sync) = IsWord stamp × IsSync script sync
IsAnswer script (answers.Decided commits stamp sync read_stamp raises syncs ended) =
    IsWord stamp × IsSync script sync × IsWord read_stamp × AreRead script (raises, syncs) × IsEnded script ended
IsAnswer script (answers.Moved lined waiting colour events) =
    IsWord lined × IsWord waiting × IsColour script colour × IsWord events
IsAnswer script answers.NoTx = Unit {0}
IsAnswer script (answers.Took value point sync) = IfSome value IsKeyText × IsPoint script point × IsSync script sync
IsAnswer script (answers.UnreadTrimmed stamp colour base) = IsWord stamp × IsColour script colour × AreCounts script base
IsAnswer script (answers.UnreadNoMemory stamp) = IsWord stamp
IsAnswer script (answers.Trimmed colour base) = IsColour script colour × AreCounts script base
IsAnswer script (answers.NotHome home) = IsRegion script home
IsAnswer script answers.NoMemory = Unit {0}

-- a node of which no more is known than its id and its text
abbrev pub bare_node : Id → List ℕ → Node
bare_node id text =
    record { id = id; region = 0; colours = record { 0 = 0 }; text = text; floor = 0; wants = []; row = None }

-- a node that is shown
pub record IsShown (script : Script) (item : PlacedNode) : Type 0 where
  pub key : IsKey script item.head.key
  pub needs : item.head.needs ≡ zeros
  pub text : IsTrue (is_text item.node.text)
  pub bare : item.node ≡ bare_node item.head.key.id item.node.text

-- the reply in a place: its word has this answer
pub record IsReply (known : Known) (place : ℕ) (reply : ReplyLine) : Type 0 where
  pub line : IsSmall reply.line
  pub has : IsTrue (has_answer (is_many known place) reply.word reply.answer)
  pub answer : IsAnswer known.script reply.answer
  pub nodes : AllByRecursion (IsShown known.script) reply.nodes

-- each in its place, of which the first has this number
abbrev pub AllFrom : {X : Type 0} → (ℕ → X → Type 0) → ℕ → List X → Type 0
AllFrom P place [] = Unit {0}
AllFrom P place (x ∷ xs) = P place x × AllFrom P (suc place) xs

-- the client in a place
pub record IsClientReport (script : Script) (place : ℕ) (client : ClientReport) : Type 0 where
  pub name : client.name ≡ name_of script.clients place
  pub replies : AllFrom (IsReply (known_of script place)) 0 client.replies

-- the clients are the script's, and its columns are all there
pub record IsReportOf (script : Script) (report : Report) : Type 0 where
  pub version : report.version ≡ script.version
  pub all_clients : length report.clients ≡ length script.clients
  pub clients : AllFrom (IsClientReport script) 0 report.clients
  pub rows : AllByRecursion (IsRow script) report.rows
  pub all_columns : length report.columns ≡ length script.regions * length script.colours
  pub columns : AllFrom (IsColumn script) 0 report.columns
