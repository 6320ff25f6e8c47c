-- What a run's log tells of its report, as the laws of peeks need it.
use Rattle.std.specs.Prelude.{◌≡◌, true, ℕ, List, [], ◌∷◌, Some, take, slice_get}
use Rattle.std.specs.List.{AllZip}
use Rattle.log_node.specs.declared.node.Node.{Node}
use Rattle.col_core.specs.Log.{Log}
use Rattle.log_node.specs.declared.ids.Key.{Key}
use Rattle.log_node.specs.declared.forms.Version.{Version}
use Rattle.log_node.specs.Sets.{members}
use Rattle.log_node.specs.Vectors.{at}
use Rattle.object_form.specs.Forms.{AreVersions, is_writer}
use Rattle.object_fold.specs.Nodes.{ObjectNode}
use Rattle.col_core.specs.Keeping.{Kept}
use Rattle.col_core.specs.RegionOrder.{IsRegionOrder}
use Rattle.col_core.proofs.CallerLemmas.{In}
use Rattle.script_text.specs.declared.script.Command.{Command}
use Rattle.script_text.specs.declared.script.Script.{Script}
use Rattle.report_text.specs.declared.report.RaisePiece.{RaisePiece}
use Rattle.report_text.specs.declared.report.SyncPiece.{SyncPiece}
use Rattle.report_text.specs.declared.report.ReplyLine.{ReplyLine}
use Rattle.report_text.specs.declared.report.Report.{Report}
use Rattle.lawful_run.specs.Callers.{caller_of, commands_of}
use Rattle.lawful_run.specs.Explains.{Explains}
use Rattle.lawful_run.specs.Lawful.{LawfulRun}
use Rattle.lawful_run.specs.Objects.{AreObjectNodes, IsObjectNode, own_played}
use Rattle.lawful_run.specs.ObjectReadings.{AreClosing, IsClosing, IsNodeOf}
use Rattle.lawful_run.specs.Readings.{HasReply, kept_of}
use Rattle.lawful_run.specs.Reads.{AreKeysRead, ReadsAt, Syncs}

-- what explains a reply
pub record Reason {script : Script} {report : Report} (run : LawfulRun script report) (client n : ℕ) (reply : ReplyLine)
    : Type 0 where
  pub command : Command
  pub asked : slice_get (commands_of script client) n ≡ Some command
  pub kept : Kept
  pub after : Kept
  pub ids : kept.ids ≡ (kept_of run client n).ids
  pub explained : Explains run.log (caller_of script client) kept command.what reply.answer reply.nodes after

-- the node with this key as the log has it
pub record IsLogged (log : Log) (key : Key) (node : ObjectNode) : Type 0 where
  pub appended : Node
  pub there : slice_get (log.nodes key.id.client) key.id.count ≡ Some appended
  pub key_is : node.key ≡ key
  pub colours : node.colours ≡ appended.colours
  pub text : node.text ≡ appended.text

-- these are the nodes with these keys
abbrev pub AreLogged : Log → List Key → List ObjectNode → Type 0
AreLogged log keys nodes = AllZip (IsLogged log) keys nodes

logged : (log : Log) (key : Key) (node : ObjectNode) → IsObjectNode log key node → IsLogged log key node
logged log key node o = record {
  appended = o.appended;
  there = o.there;
  key_is = o.key_is;
  colours = o.colours;
  text = o.text;
}

pub all_logged : (log : Log) (keys : List Key) (nodes : List ObjectNode) → AreObjectNodes log keys nodes
    → AreLogged log keys nodes
all_logged log [] [] a = a
all_logged log [] (n ∷ nodes) a = a
all_logged log (k ∷ keys) [] a = a
all_logged log (k ∷ keys) (n ∷ nodes) a = (logged log k n a.0, all_logged log keys nodes a.1)

-- a key of a closing line: what its node in the log is
pub record LineNode {script : Script} {report : Report} (run : LawfulRun script report) (region colour : ℕ) (key : Key)
    : Type 0 where
  pub node : ObjectNode
  pub is : IsLogged run.log key node
  pub appended : IsNodeOf run node
  pub among : In colour (members node.colours)
  pub own : (caller_of script node.key.id.client).own ≡ region
  pub ranged : is_writer (Some node.key) ≡ true

pub record Reading {script : Script} {report : Report} (run : LawfulRun script report) : Type 0 where
  pub reason : (client n : ℕ) (reply : ReplyLine) → HasReply report client n reply → Reason run client n reply
  -- there is one closing line of a column
  pub one : (region colour : ℕ) (a b : List Key) → IsClosing report region colour a → IsClosing report region colour b
      → a ≡ b
  pub nodes : (region colour : ℕ) (line : List Key) → IsClosing report region colour line → (key : Key) → In key line
      → LineNode run region colour key
  pub played : (client : ℕ) (kept : Kept) (sync : SyncPiece)
      → Syncs run.log (caller_of script client) kept sync.colour sync.events sync.counts → (line : List Key)
      → IsClosing report (caller_of script client).own sync.colour line
      → take (at sync.counts (caller_of script client).own) line ≡ own_played run.log (caller_of script client) sync
  pub order : (client : ℕ) (kept : Kept) (colours : List ℕ) (stamp : ℕ) (raises : List RaisePiece)
      (syncs : List SyncPiece) (after : Kept) (keys : List Key)
      → ReadsAt run.log (caller_of script client) kept colours stamp raises syncs after
      → AreKeysRead run.log (caller_of script client) stamp syncs keys → (lines : List (List Key))
      → AreClosing report (caller_of script client).own syncs lines → IsRegionOrder lines stamp keys
  pub ids : (client : ℕ) (kept : Kept) (colours : List ℕ) (stamp : ℕ) (raises : List RaisePiece) (syncs : List SyncPiece)
      (after : Kept) → ReadsAt run.log (caller_of script client) kept colours stamp raises syncs after
      → after.ids ≡ kept.ids
  -- what a read found is such as a transaction's text may name
  pub versions : (client n : ℕ) (reply : ReplyLine) → HasReply report client n reply → (object : ℕ) (found : List Version)
      → (kept_of run client n).reads object ≡ Some found → AreVersions found
