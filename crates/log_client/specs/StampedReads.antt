-- What a stamped read of a client answers.
use Rattle.std.specs.Prelude.{◌≡◌, IsTrue, ℕ, ◌<◌, ◌≤◌, List, [], ◌∷◌, ◌++◌, map, Option, Some, None, slice_get}
use Rattle.std.specs.List.{All, AllZip, Contains, filter, fold}
use Rattle.log_node.specs.declared.ids.Key.{Key}
use Rattle.log_node.specs.Seen.{PlacedNode}
use Rattle.object_form.specs.Forms.{is_writer}
use Rattle.object_fold.specs.Folds.{is_behind}
use Rattle.col_core.specs.History.{clock, line}
use Rattle.col_core.specs.Log.{Log}
use Rattle.col_core.specs.RegionOrder.{IsRegionOrder, IsClearUpTo}
use Rattle.col_core.specs.Keeping.{Kept}
use Rattle.report_text.specs.declared.report.RaisePiece.{RaisePiece}
use Rattle.report_text.specs.declared.report.SyncPiece.{SyncPiece}
use Rattle.lawful_run.specs.Callers.{Caller}
use Rattle.lawful_run.specs.Reads.{ReadsAt, AreKeysRead, HidesRead, RefusesRead}
use Rattle.log_client.specs.declared.store.Store.{Store}
use Rattle.log_client.specs.declared.client.Client.{Client}
use Rattle.log_client.specs.declared.answers.Raised.{Raised}
use Rattle.log_client.specs.declared.answers.Synced.{Synced}
use Rattle.log_client.specs.declared.answers.StampedRead.{StampedRead}
use Rattle.log_client.specs.declared.faults.SyncFault.{SyncFault}
use Rattle.log_client.specs.declared.faults.SyncFault.TheVariants as sync_faults
use Rattle.client_law.specs.Knowing.{Rest, log_seen}
use Rattle.log_client.specs.Fits.{FitsHolds, HaveGoneOn}
use Rattle.log_client.specs.Clients.{holds_of, own_line, seen_of, IsClient}
use Rattle.log_client.specs.Calls.{IsExplained, IsSame}

-- a raise and a sync as a reply shows them
abbrev pub raise_piece : Raised → RaisePiece
raise_piece r = record { colour = r.colour; at = r.at }

abbrev pub sync_piece : Synced → SyncPiece
sync_piece y = record { colour = y.snapshot.colour; events = y.events; counts = y.snapshot.counts }

-- the node is the one that was appended with its id
abbrev pub IsAsAppended : Log → PlacedNode → Type 0
IsAsAppended log item =
    (slice_get (log.nodes item.head.key.id.client) item.head.key.id.count ≡ Some item.node)
    × (item.node.id ≡ item.head.key.id)

-- an item of a read has this key, and is the node that was appended with its id
abbrev pub ShowsItem : Log → Key → PlacedNode → Type 0
ShowsItem log key item = (item.head.key ≡ key) × IsAsAppended log item

-- each item's key is one that a version can name
abbrev pub CanBeNamed : List PlacedNode → Type 0
CanBeNamed items = All (λ (item : PlacedNode). IsTrue (is_writer (Some item.head.key))) items

-- the stamp is not below what the client has seen of the clock of any of the colours
abbrev pub IsAboveSeen : Client → List ℕ → ℕ → Type 0
IsAboveSeen c colours stamp = All (λ colour. clock (seen_of c c.region colour) ≤ stamp) colours

-- A client has read these colours up to the stamp: in their columns, as far as it has seen them, the clock is at the stamp and
-- nothing up to it is open; and these are the keys up to it of their lines, in the order of the region.
pub record HasRead (c : Client) (colours : List ℕ) (stamp : ℕ) (keys : List Key) : Type 0 where
  pub reached : All (λ colour. stamp ≤ clock (seen_of c c.region colour)) colours
  pub clear : All (λ colour. IsClearUpTo stamp (seen_of c c.region colour)) colours
  pub order : IsRegionOrder (map (λ colour. line (seen_of c c.region colour)) colours) stamp keys

-- the own line that the client holds of the colour has all nodes up to the stamp that it has seen in the column's line
abbrev pub HoldsUpTo : Client → ℕ → ℕ → Type 0
HoldsUpTo c stamp colour =
    (key : Key) → key.stamp ≤ stamp → Contains (line (seen_of c c.region colour)) key
    → Contains (map (λ (item : PlacedNode). item.head.key) (own_line c colour)) key

-- The read is one of these colours, with these keys, and its items show the nodes of those that come behind the last one.
abbrev pub ReadsAs : List ℕ → Option Key → StampedRead → List Key → Log → Caller → Kept → Kept → Type 0
ReadsAs colours last read keys log caller kept after =
    ReadsAt log caller kept colours read.stamp (map raise_piece read.raises) (map sync_piece read.syncs) after
    × AreKeysRead log caller read.stamp (map sync_piece read.syncs) keys
    × AllZip (ShowsItem log) (filter (is_behind last) keys) read.items

-- the items have these keys, and show their nodes beside whatever nodes and rows fit what the client knows
abbrev pub ShowsItems : Client → List Key → List PlacedNode → Type 0
ShowsItems c keys items =
    (map (λ (item : PlacedNode). item.head.key) items ≡ keys)
    × ((rest : Rest) → FitsHolds (holds_of c) rest → AllZip (ShowsItem (log_seen (seen_of c) rest)) keys items)

-- From c to d the client read these colours, and its answer has the nodes behind the last key.
abbrev pub ReadsOn : Store → Client → Client → List ℕ → Option Key → StampedRead → Type 0
ReadsOn s c d colours last read =
    (keys : List Key) × HasRead d colours read.stamp keys × ShowsItems d (filter (is_behind last) keys) read.items
    × IsExplained s c d (ReadsAs colours last read keys)

-- the same, with the nodes of all keys
abbrev pub ReadsAll : Store → Client → Client → List ℕ → StampedRead → Type 0
ReadsAll s c d colours read =
    (keys : List Key) × HasRead d colours read.stamp keys
    × IsExplained s c d (λ log caller kept after.
    ReadsAt log caller kept colours read.stamp (map raise_piece read.raises) (map sync_piece read.syncs) after
    × AreKeysRead log caller read.stamp (map sync_piece read.syncs) keys
    × AllZip (ShowsItem log) keys read.items)

-- the last of some keys, if there is one
abbrev pub last_key : List Key → Option Key
last_key [] = None
last_key (key ∷ keys) = Some (fold (λ last next. next) key keys)

-- the keys go on from the first of them by those behind their last, which have greater stamps than this one
pub record GoOnFrom (stamp : ℕ) (first keys : List Key) : Type 0 where
  pub whole : keys ≡ first ++ filter (is_behind (last_key first)) keys
  pub above : All (λ key. stamp < key.stamp) (filter (is_behind (last_key first)) keys)

-- What a client has read it goes on having read, and a later read of the same colours goes on from it.
abbrev pub ReadsGoOn : Type 0
ReadsGoOn =
    (s : Store) (c d : Client) → IsClient s d → IsSame c d → HaveGoneOn (holds_of c) (holds_of d)
    → (colours : List ℕ) (stamp : ℕ) (keys : List Key) → HasRead c colours stamp keys
    → HasRead d colours stamp keys
    × ((later : ℕ) (all : List Key) → stamp ≤ later → HasRead d colours later all → GoOnFrom stamp keys all)

-- A read of these colours may have been made, of which no answer tells.
abbrev pub ReadHidden : Store → Client → Client → List ℕ → Type 0
ReadHidden s c d colours = IsExplained s c d (λ log caller kept after. HidesRead log caller kept colours after)

-- Why a stamped read was refused: a node of one of its colours that was not played is trimmed, as the base shows, and those
-- before it are played; or memory was refused. What it did before stands.
abbrev pub ReadRefused : Store → Client → Client → List ℕ → SyncFault → Type 0
ReadRefused s c d colours (sync_faults.Trimmed colour base) =
    IsExplained s c d (λ log caller kept after. RefusesRead log caller kept colours colour base after)
ReadRefused s c d colours sync_faults.NoMemory = ReadHidden s c d colours
