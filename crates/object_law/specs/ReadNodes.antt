-- What an object over the nodes of a reply says, decided by the nodes in a table.
use Rattle.std.specs.Prelude.{◌≡◌, ◌↔◌, ℕ, ◌^◌, ◌<◌, List, length, take}
use Rattle.std.specs.List.{All}
use Rattle.log_node.specs.declared.ids.Key.{Key}
use Rattle.log_node.specs.declared.node.Node.{Node}
use Rattle.log_node.specs.Vectors.{at}
use Rattle.object_fold.specs.Maps.{Value}
use Rattle.object_fold.specs.Nodes.{ObjectNode}
use Rattle.object_fold.specs.Queues.{front_after}
use Rattle.col_core.specs.History.{line}
use Rattle.col_core.specs.Keeping.{Kept}
use Rattle.col_core.specs.Log.{Log}
use Rattle.playback.specs.Merging.{up_to}
use Rattle.script_text.specs.Fitting.{IsFitting}
use Rattle.script_text.specs.declared.script.Script.{Script}
use Rattle.report_text.specs.declared.report.PointPiece.{PointPiece}
use Rattle.report_text.specs.declared.report.RaisePiece.{RaisePiece}
use Rattle.report_text.specs.declared.report.SyncPiece.{SyncPiece}
use Rattle.report_text.specs.declared.report.Report.{Report}
use Rattle.lawful_run.specs.Callers.{Caller, caller_of}
use Rattle.lawful_run.specs.Objects.{AreObjectNodes, TakesFront, own_played}
use Rattle.lawful_run.specs.Reads.{AreKeysRead, ReadsAt, Syncs}
use Rattle.run_rules.specs.Keeping.{RulesTo}
use Rattle.run_rules.specs.Told.{Account, IsTold}
use Rattle.object_law.specs.KeysRead.{whole_order}
use Rattle.object_law.specs.NodeTables.{AreNodes, nodes_under}

-- The account is told of a fitting script, the first nine rules hold at it, and the table has its nodes.
pub record HasTable (script : Script) (report : Report) (a : Account) (table : List (List Node)) : Type 0 where
  pub fitting : IsFitting script
  pub told : IsTold script report a
  pub rules : RulesTo script report a 9
  pub nodes : AreNodes a.log.nodes table

-- the nodes of the beginning of a whole line
abbrev pub first_nodes : Account → List (List Node) → ℕ → ℕ → ℕ → List ObjectNode
first_nodes a table region colour count = nodes_under table (take count (line (a.log.histories region colour)))

-- those of the beginning of the order of some colours
abbrev pub ordered_nodes : Account → List (List Node) → ℕ → List ℕ → ℕ → List ObjectNode
ordered_nodes a table region colours count = nodes_under table (take count (whole_order a.log region colours))

-- these are the nodes that a stamped read read, and no others are
pub record AreNodesRead (log : Log) (caller : Caller) (stamp : ℕ) (syncs : List SyncPiece) (nodes : List ObjectNode) : Type 0 where
  pub keys : List Key
  pub are_keys : AreKeysRead log caller stamp syncs keys
  pub are_nodes : AreObjectNodes log keys nodes
  pub only : (ks : List Key) (others : List ObjectNode) → AreKeysRead log caller stamp syncs ks → AreObjectNodes log ks others
      → others ≡ nodes

-- these are the own nodes that a sync played, and no others are
pub record AreNodesPlayed (log : Log) (caller : Caller) (sync : SyncPiece) (nodes : List ObjectNode) : Type 0 where
  pub are_nodes : AreObjectNodes log (own_played log caller sync) nodes
  pub only : (others : List ObjectNode) → AreObjectNodes log (own_played log caller sync) others → others ≡ nodes

-- The nodes that a stamped read of colours read are those of the beginning of their order up to its stamp.
abbrev pub ReadingDecides : Type 0
ReadingDecides = (script : Script) (report : Report) (a : Account) (table : List (List Node)) → HasTable script report a table
    → (client : ℕ) → client < length script.shape.homes
    → (kept : Kept) (colours : List ℕ) (stamp : ℕ) (raises : List RaisePiece) (syncs : List SyncPiece) (after : Kept) (count : ℕ)
    → All (λ colour. colour < script.shape.colours) colours → stamp < 2 ^ 64
    → ReadsAt a.log (caller_of script client) kept colours stamp raises syncs after
    → take count (whole_order a.log (caller_of script client).own colours)
    ≡ up_to stamp (whole_order a.log (caller_of script client).own colours)
    → AreNodesRead a.log (caller_of script client) stamp syncs (ordered_nodes a table (caller_of script client).own colours count)

-- Those that a sync played are the first of the whole own line.
abbrev pub PlayingDecides : Type 0
PlayingDecides = (script : Script) (report : Report) (a : Account) (table : List (List Node)) → HasTable script report a table
    → (client : ℕ) → client < length script.shape.homes
    → (kept : Kept) (sync : SyncPiece) → sync.colour < script.shape.colours
    → Syncs a.log (caller_of script client) kept sync.colour sync.events sync.counts
    → AreNodesPlayed a.log (caller_of script client) sync
    (first_nodes a table (caller_of script client).own sync.colour (at sync.counts (caller_of script client).own))

-- A dequeue takes the front behind the nodes before it.
abbrev pub TakingDecides : Type 0
TakingDecides = (script : Script) (report : Report) (a : Account) (table : List (List Node)) → HasTable script report a table
    → (client : ℕ) → client < length script.shape.homes
    → (point : PointPiece) (value : Value) → point.colour < script.shape.colours
    → TakesFront a.log (caller_of script client) point value
    ↔ (value ≡ front_after (first_nodes a table (caller_of script client).own point.colour point.position))
