-- What objects that keep their colours to themselves are for.
use Rattle.std.specs.Prelude.{◌≡◌, Bool, ℕ, ◌≤◌, List, Some, take}
use Rattle.std.specs.List.{AllZip}
use Rattle.log_node.specs.declared.ids.Key.{Key}
use Rattle.log_node.specs.Vectors.{at}
use Rattle.object_fold.specs.Maps.{Value}
use Rattle.object_fold.specs.Nodes.{ObjectNode}
use Rattle.object_fold.specs.Transactions.{value_of, writes_after}
use Rattle.col_core.specs.RegionOrder.{IsRegionOrder}
use Rattle.script_text.specs.declared.script.Kind.TheVariants as kinds
use Rattle.script_text.specs.declared.commands.What.TheVariants as whats
use Rattle.script_text.specs.declared.script.Script.{Script}
use Rattle.script_text.specs.Fitting.{IsFitting}
use Rattle.script_text.specs.Grammar.{IsScript}
use Rattle.report_text.specs.declared.report.Answer.TheVariants as answers
use Rattle.report_text.specs.declared.report.Ended.{Ended}
use Rattle.report_text.specs.declared.report.RaisePiece.{RaisePiece}
use Rattle.report_text.specs.declared.report.SyncPiece.{SyncPiece}
use Rattle.report_text.specs.declared.report.ReplyLine.{ReplyLine}
use Rattle.report_text.specs.declared.report.Report.{Report}
use Rattle.lawful_run.specs.Callers.{caller_of}
use Rattle.lawful_run.specs.Asks.{kind_of_object, rising}
use Rattle.lawful_run.specs.Lawful.{LawfulRun}
use Rattle.lawful_run.specs.ObjectReadings.{AreClosing, AreNodesOf, Commands, IsClosing}
use Rattle.lawful_run.specs.Parts.{IsRuledAs}
use Rattle.lawful_run.specs.Readings.{HasReply}
use Rattle.part_law.specs.Premises.{AreApart, AreTextsFree, ColoursDiffer}
use Rattle.part_law.specs.UpTo.{AreUpTo}

-- What is read as a script has no two objects that share a colour which one of them keeps to itself, no text that such an
-- object reserves, and no object with a colour twice.
abbrev pub ScriptsKeepApart : Type 0
ScriptsKeepApart = (bytes : List ℕ) (script : Script) → IsScript bytes script
    → AreApart script.objects × AreTextsFree script × ColoursDiffer script.objects

-- There are all keys up to a point, whatever the lines are and whatever was played.
abbrev pub UpToIsThere : Type 0
UpToIsThere = (lines : List (List Key)) (played : List Key) → (keys : List Key) × AreUpTo lines played keys

-- A peek that is answered by a value tells the one that the whole transactional map has: that which the object's nodes leave
-- in all its colours' closing lines, up to the last node of the key's line that the peek played.
abbrev pub PeeksAgree : Type 0
PeeksAgree = (script : Script) (report : Report) → IsFitting script → AreApart script.objects → AreTextsFree script
    → ColoursDiffer script.objects → (run : LawfulRun script report)
    → (client n : ℕ) (reply : ReplyLine) → HasReply report client n reply
    → (value : Value) (sync : SyncPiece) → reply.answer ≡ answers.Got value sync
    → (object : ℕ) (key : List ℕ) → Commands script client n (whats.Peek object key)
    → (home : ℕ) (colours : List ℕ) → kind_of_object (caller_of script client) object ≡ Some (kinds.Parts home colours)
    → (line : List Key) → IsClosing report (caller_of script client).own sync.colour line
    → (lines : List (List Key))
    → AllZip (λ colour of_it. IsClosing report (caller_of script client).own colour of_it) (rising colours) lines
    → (upto : List Key) → AreUpTo lines (take (at sync.counts (caller_of script client).own) line) upto
    → (nodes : List ObjectNode) × AreNodesOf run upto nodes × (value ≡ value_of (writes_after nodes) key)

-- What a decision says of its transaction stays the verdict on it: over all nodes up to each stamp from that of its read on.
abbrev pub DecisionsAreTrue : Type 0
DecisionsAreTrue = (script : Script) (report : Report) → IsFitting script → (run : LawfulRun script report)
    → (client n : ℕ) (reply : ReplyLine) → HasReply report client n reply
    → (commits : Bool) (stamp : ℕ) (sync : SyncPiece) (read_stamp : ℕ) (raises : List RaisePiece) (syncs : List SyncPiece)
    → (ended : Ended) → reply.answer ≡ answers.Decided commits stamp sync read_stamp raises syncs ended
    → (lines : List (List Key)) → AreClosing report (caller_of script client).own syncs lines
    → (waits : Key) × (stamp ≡ waits.stamp)
    × ((later : ℕ) (keys : List Key) → read_stamp ≤ later → IsRegionOrder lines later keys
    → (nodes : List ObjectNode) × AreNodesOf run keys nodes × IsRuledAs waits commits nodes)
