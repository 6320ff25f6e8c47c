-- What the objects' replies say: each is the answer of an object of one thread over nodes of the log.
use Rattle.std.specs.Prelude.{◌≡◌, ℕ, List, take, map, Option, Some, None, slice_get}
use Rattle.std.specs.List.{AllZip, flat_map, range_with_len}
use Rattle.log_node.specs.declared.ids.Key.{Key}
use Rattle.log_node.specs.declared.node.Head.{Head}
use Rattle.log_node.specs.declared.node.Node.{Node}
use Rattle.log_node.specs.declared.ids.Counts.{Counts}
use Rattle.log_node.specs.Vectors.{at, all_regions}
use Rattle.object_fold.specs.declared.verdict.Verdict.{Verdict}
use Rattle.object_fold.specs.declared.verdict.Verdict.TheVariants.{Committed, Conflict}
use Rattle.object_fold.specs.Nodes.{ObjectNode}
use Rattle.object_fold.specs.Maps.{Value, shard_value}
use Rattle.object_fold.specs.Queues.{front_after}
use Rattle.object_fold.specs.Causal.{ChainNode, IsCausalAnswer}
use Rattle.col_core.specs.History.{line}
use Rattle.log_node.specs.Reach.{Chains}
use Rattle.col_core.specs.Cuts.{chain}
use Rattle.col_core.specs.PlayOrder.{Place, Stands}
use Rattle.col_core.specs.Log.{Log, first, HasText}
use Rattle.report_text.specs.declared.report.KeyAnswer.{KeyAnswer}
use Rattle.report_text.specs.declared.report.PointPiece.{PointPiece}
use Rattle.report_text.specs.declared.report.SyncPiece.{SyncPiece}
use Rattle.lawful_run.specs.Callers.{Caller}

-- the object reads the node with this key as it was appended
pub record IsObjectNode (log : Log) (key : Key) (node : ObjectNode) : Type 0 where
  pub appended : Node
  pub there : slice_get (log.nodes key.id.client) key.id.count ≡ Some appended
  pub same : appended.id ≡ key.id
  pub key_is : node.key ≡ key
  pub colours : node.colours ≡ appended.colours
  pub text : node.text ≡ appended.text

-- these are the nodes with these keys
abbrev pub AreObjectNodes : Log → List Key → List ObjectNode → Type 0
AreObjectNodes log keys nodes = AllZip (IsObjectNode log) keys nodes

-- the keys of the own line that a sync's snapshot counts
abbrev pub own_played : Log → Caller → SyncPiece → List Key
own_played log caller sync = take (at sync.counts caller.own)
    (line (take sync.events (log.histories caller.own sync.colour)))

-- a map's value of a key, after the own nodes of the snapshot; the map has these colours
pub record GetsValue (log : Log) (caller : Caller) (colours : List ℕ) (sync : SyncPiece) (key : List ℕ)
    (value : Value) : Type 0 where
  pub nodes : List ObjectNode
  pub played : AreObjectNodes log (own_played log caller sync) nodes
  pub value_is : value ≡ shard_value colours sync.colour nodes key

-- the answers to keys: these keys in this order, with these values
pub record AreAnswers (keys : List (List ℕ)) (values : List Value) (answers : List KeyAnswer) : Type 0 where
  pub keys_are : map (λ (k : KeyAnswer). k.key) answers ≡ keys
  pub values_are : map (λ (k : KeyAnswer). k.value) answers ≡ values

-- what the node of a dequeue takes: it answers by the nodes before it in its line
pub record TakesFront (log : Log) (caller : Caller) (point : PointPiece) (value : Value) : Type 0 where
  pub nodes : List ObjectNode
  pub before : AreObjectNodes log (take point.position (line (log.histories caller.own point.colour))) nodes
  pub value_is : value ≡ front_after nodes

-- a verdict as a reply shows it: with no key it is that the transaction committed
abbrev pub shown_verdict : Option (List ℕ) → ℕ → Verdict
shown_verdict None stamp = Committed stamp
shown_verdict (Some key) stamp = Conflict key stamp

-- all places that a snapshot counts
abbrev pub places_within : Counts → List Place
places_within snapshot =
    flat_map (λ region. map (λ position. record { region = region; position = position })
    (range_with_len 0 (at snapshot region))) all_regions

-- the node at the place, with its needs and its text
pub record IsChainNode (log : Log) (chains : Chains) (place : Place) (node : ChainNode) : Type 0 where
  pub head : Head
  pub stands : Stands chains place head
  pub region_is : node.region ≡ place.region
  pub position_is : node.position ≡ place.position
  pub needs_are : node.needs ≡ head.needs
  pub text : HasText log head.key.id node.text

-- a causal map's values of a key, over all nodes of the snapshot
pub record GetsValues (log : Log) (caller : Caller) (sync : SyncPiece) (key : List ℕ)
    (values : List (List ℕ)) : Type 0 where
  pub nodes : List ChainNode
  pub played : AllZip (IsChainNode log (chain caller.own (first log caller.own sync.colour sync.events)))
      (places_within sync.counts) nodes
  pub answer : IsCausalAnswer nodes key values
