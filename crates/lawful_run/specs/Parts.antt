-- What replies on a transactional map say that is played by one colour: what its own line tells of a key, and decisions.
use Rattle.std.specs.Prelude.{◌≡◌, ◌⊎◌, Bool, ℕ, List, [], ◌∷◌, Option, Some, None, slice_get}
use Rattle.log_node.specs.declared.ids.Key.{Key}
use Rattle.object_fold.specs.Maps.{Value, shard_value}
use Rattle.object_fold.specs.Nodes.{ObjectNode, shard_of}
use Rattle.object_fold.specs.Transactions.{verdict_of}
use Rattle.part_fold.specs.Agreement.{outcome, part_at}
use Rattle.part_fold.specs.Decisions.{decision_text}
use Rattle.part_fold.specs.Parts.{Part, part_value, undecided_after}
use Rattle.col_core.specs.Log.{Log}
use Rattle.col_core.specs.Keeping.{Kept}
use Rattle.script_text.specs.declared.script.Kind.{Kind}
use Rattle.script_text.specs.declared.script.Kind.TheVariants as kinds
use Rattle.script_text.specs.declared.commands.What.{What}
use Rattle.script_text.specs.declared.commands.What.TheVariants as whats
use Rattle.report_text.specs.declared.report.Ended.{Ended}
use Rattle.report_text.specs.declared.report.Ended.TheVariants as ends
use Rattle.report_text.specs.declared.report.RaisePiece.{RaisePiece}
use Rattle.report_text.specs.declared.report.SyncPiece.{SyncPiece}
use Rattle.lawful_run.specs.Callers.{Caller, node_of}
use Rattle.lawful_run.specs.Asks.{kind_of_object, rising}
use Rattle.lawful_run.specs.Deeds.{AsksForKey, colours_synced}
use Rattle.lawful_run.specs.Appends.{Appends, HasNoStamp}
use Rattle.lawful_run.specs.Objects.{AreObjectNodes, own_played}
use Rattle.lawful_run.specs.Reads.{Syncs, kept_after_piece}
use Rattle.lawful_run.specs.Shapes.{AppendsBy, TellsRead}

-- ONE COLOUR'S LINE

-- The map with these colours has this one at a place, and this is so of the part there and of the nodes.
abbrev pub OfPart : List ℕ → ℕ → (Part → List ObjectNode → Type 0) → List ObjectNode → Type 0
OfPart colours colour Says nodes =
    (place : ℕ) × (slice_get colours place ≡ Some colour) × Says (part_at colours place) nodes

-- the first transaction of the part's line of which it is not known whether it commits, or none
abbrev pub WaitsFor : Option Key → Part → List ObjectNode → Type 0
WaitsFor key part nodes = undecided_after part nodes ≡ key

-- the part waits for nothing, and has this value of a key
abbrev pub HasPartValue : List ℕ → Value → Part → List ObjectNode → Type 0
HasPartValue key value part nodes = WaitsFor None part nodes × (value ≡ part_value part nodes key)

-- what an object of this kind, a map or one that is played by its parts, has for a key after these nodes of the shard's line
abbrev pub HasValue : Option Kind → ℕ → List ℕ → Value → List ObjectNode → Type 0
HasValue (Some (kinds.Map home colours)) colour key value nodes = value ≡ shard_value colours colour nodes key
HasValue (Some (kinds.Parts home colours)) colour key value nodes = OfPart colours colour (HasPartValue key value) nodes
HasValue _ colour key value nodes = ⊥

-- WHAT IS ASKED

-- the command asks for a key of an object of this kind, and the sync is of its shard
abbrev pub AsksOf : Caller → What → SyncPiece → Option Kind → List ℕ → Type 0
AsksOf caller what sync kind key =
    (object : ℕ) × AsksForKey what object key × (kind_of_object caller object ≡ kind)
    × (colours_synced caller what ≡ sync.colour ∷ [])

-- The command asks for a decision on an object with these colours, and the sync is of its key's shard.
abbrev pub AsksToDecide : Caller → What → SyncPiece → List ℕ → Type 0
AsksToDecide caller what sync colours =
    (object : ℕ) × (key : List ℕ) × (what ≡ whats.Decide object key)
    × (home : ℕ) × (kind_of_object caller object ≡ Some (kinds.Parts home colours))
    × (sync.colour ≡ shard_of colours key)

-- By these nodes of the sync's line the value is the command's answer: that of the key for which it asks; or none, as nothing
-- waits for the decision for which it asks.
abbrev pub AnswersGet : Caller → What → SyncPiece → Value → List ObjectNode → Type 0
AnswersGet caller what sync value nodes =
    ((kind : Option Kind) × (key : List ℕ) × AsksOf caller what sync kind key × HasValue kind sync.colour key value nodes)
    ⊎ ((colours : List ℕ) × AsksToDecide caller what sync colours × (value ≡ None)
    × OfPart colours sync.colour (WaitsFor None) nodes)

-- By these nodes of the sync's line the command finds no value yet: a transaction with this stamp waits for a decision.
abbrev pub AnswersUndecided : Caller → What → SyncPiece → ℕ → List ObjectNode → Type 0
AnswersUndecided caller what sync stamp nodes =
    (home : ℕ) × (colours : List ℕ) × (key : List ℕ) × AsksOf caller what sync (Some (kinds.Parts home colours)) key
    × (waits : Key) × (stamp ≡ waits.stamp) × OfPart colours sync.colour (WaitsFor (Some waits)) nodes

-- this is so of the own nodes of the snapshot
abbrev pub OfNodesPlayed : Log → Caller → SyncPiece → (List ObjectNode → Type 0) → Type 0
OfNodesPlayed log caller sync Says =
    (nodes : List ObjectNode) × AreObjectNodes log (own_played log caller sync) nodes × Says nodes

-- DECISIONS

-- among these nodes the transaction with this key commits, or does not, as is said
abbrev pub IsRuledAs : Key → Bool → List ObjectNode → Type 0
IsRuledAs key commits nodes = outcome (verdict_of nodes key) ≡ Some commits

-- How the append of the command's node with this text ended: it stands; no stamp was left; or memory was refused, and nothing
-- was done.
abbrev pub EndsAs : Log → Caller → Kept → What → List ℕ → Ended → Kept → Type 0
EndsAs log caller kept what said (ends.Stood stamp point) after =
    AppendsBy caller kept what (λ colours text. (text ≡ said)
    × Appends log caller kept (node_of caller kept colours text) stamp None (point ∷ []) after)
EndsAs log caller kept what said (ends.StampEnd colour) after =
    AppendsBy caller kept what (λ colours text. (text ≡ said)
    × HasNoStamp log caller kept (node_of caller kept colours text) colour after)
EndsAs log caller kept what said ends.NoMemory after = after ≡ kept

-- A decision of a map with these colours: behind the sync its part waits for a transaction with this stamp; a stamped read of
-- all colours tells whether that commits; and the append of the node that says so ended thus.
pub record Decides (log : Log) (caller : Caller) (kept : Kept) (what : What) (colours : List ℕ) (commits : Bool) (stamp : ℕ)
    (sync : SyncPiece) (read_stamp : ℕ) (raises : List RaisePiece) (syncs : List SyncPiece) (ended : Ended) (after : Kept)
    : Type 0 where
  pub synced : Syncs log caller kept sync.colour sync.events sync.counts
  pub waits : Key
  pub stamp_is : stamp ≡ waits.stamp
  pub waiting : OfNodesPlayed log caller sync (OfPart colours sync.colour (WaitsFor (Some waits)))
  pub read : Kept
  pub tells : TellsRead log caller (kept_after_piece log caller kept sync) (rising colours) read_stamp raises syncs
      (IsRuledAs waits commits) read
  pub ends : EndsAs log caller read what (decision_text (record { key = waits; commits = commits })) ended after
