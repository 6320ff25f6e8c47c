-- What answers of one shape say of the log, whatever they tell of the nodes that were read.
use Rattle.std.specs.Prelude.{◌≡◌, ℕ, List, Option}
use Rattle.log_node.specs.declared.ids.Colours.{Colours}
use Rattle.log_node.specs.declared.ids.Key.{Key}
use Rattle.object_fold.specs.Nodes.{ObjectNode}
use Rattle.col_core.specs.History.{entry_key}
use Rattle.col_core.specs.Log.{Log}
use Rattle.col_core.specs.Keeping.{Kept}
use Rattle.script_text.specs.declared.commands.What.{What}
use Rattle.report_text.specs.declared.report.PointPiece.{PointPiece}
use Rattle.report_text.specs.declared.report.RaisePiece.{RaisePiece}
use Rattle.report_text.specs.declared.report.SyncPiece.{SyncPiece}
use Rattle.lawful_run.specs.Callers.{Caller, node_of}
use Rattle.lawful_run.specs.Asks.{Committing}
use Rattle.lawful_run.specs.Deeds.{AsksToAppend, colours_synced, manner_of}
use Rattle.lawful_run.specs.Appends.{Appends}
use Rattle.lawful_run.specs.Reads.{ReadsAt, AreKeysRead}
use Rattle.lawful_run.specs.Objects.{AreObjectNodes}

-- the command appends this over what the client keeps
abbrev pub AppendsBy : Caller → Kept → What → (Colours → List ℕ → Type 0) → Type 0
AppendsBy caller kept what Says =
    (colours : Colours) × (text : List ℕ) × AsksToAppend caller kept what colours text × Says colours text

-- A stamped read of these colours was made, and this is so of the nodes read.
abbrev pub TellsRead : Log → Caller → Kept → List ℕ → ℕ → List RaisePiece → List SyncPiece → (List ObjectNode → Type 0) → Kept
    → Type 0
TellsRead log caller kept colours stamp raises syncs Says after =
    ReadsAt log caller kept colours stamp raises syncs after
    × (keys : List Key) × AreKeysRead log caller stamp syncs keys
    × (nodes : List ObjectNode) × AreObjectNodes log keys nodes × Says nodes

-- The command's node stands, a stamped read of the command's colours was made behind it, and this is so of the own key and of
-- the nodes read.
abbrev pub TellsBehind : Log → Caller → Kept → What → Option ℕ → List PointPiece → ℕ → List RaisePiece → List SyncPiece
    → (Key → List ObjectNode → Type 0) → Kept → Type 0
TellsBehind log caller kept what row points read_stamp raises syncs Says after =
    (manner_of what ≡ Committing)
    × AppendsBy caller kept what (λ colours text. (own : ℕ) × (stood : Kept)
    × Appends log caller kept (node_of caller kept colours text) own row points stood
    × TellsRead log caller stood (colours_synced caller what) read_stamp raises syncs
    (Says (entry_key own (node_of caller kept colours text).id)) after)
