-- What objects answer that are played from answer to answer.
use Rattle.std.specs.Prelude.{◌≡◌, ℕ, ◌<◌, List, Some, slice_get}
use Rattle.std.specs.List.{All}
use Rattle.std.specs.Option.{option_map}
use Rattle.log_node.specs.declared.node.Node.{Node}
use Rattle.object_fold.specs.States.{IsShardMap, IsTxState, IsValueQueue}
use Rattle.col_core.specs.History.{line}
use Rattle.script_text.specs.declared.script.Object.{Object}
use Rattle.script_text.specs.declared.script.Script.{Script}
use Rattle.lawful_run.specs.Asks.{object_colours}
use Rattle.object_law.specs.declared.key_order.KeyOrder.{KeyOrder}
use Rattle.object_law.specs.declared.queue_plays.QueuePlay.{QueuePlay}
use Rattle.object_law.specs.declared.several_plays.SeveralPlay.{SeveralPlay}
use Rattle.object_law.specs.declared.shard_plays.ShardId.{ShardId}
use Rattle.object_law.specs.declared.shard_plays.ShardPlay.{ShardPlay}
use Rattle.object_law.specs.declared.shard_plays.ShardPlays.{ShardPlays}
use Rattle.object_law.specs.AmongMaps.{IsAmongMap}
use Rattle.object_law.specs.KeysRead.{whole_order}
use Rattle.object_law.specs.declared.tx_plays.TxPlay.{TxPlay}
use Rattle.object_law.specs.ObjectPlays.{HoldsKeys, HoldsLine}
use Rattle.walk_law.specs.Walking.{Walked, journal_walked, log_walked}

-- the colours of a script's object, by its number
abbrev pub colours_used : Script → ℕ → List ℕ
colours_used script object = object_colours (option_map (λ (o : Object). o.kind) (slice_get script.objects object))

-- the map of a shard is played over the own line of its colour in a region
pub record IsShardPlay (walked : Walked) (table : List (List Node)) (p : ShardPlay) : Type 0 where
  pub holds : HoldsLine IsShardMap table (line (journal_walked walked p.region p.colour)) p.play
  pub colours : p.play.fold.colours ≡ colours_used walked.script p.object
  pub shard : p.play.fold.shard ≡ p.colour

-- so are all of these
abbrev pub AreShardPlays : Walked → List (List Node) → ShardPlays → Type 0
AreShardPlays walked table all = All (IsShardPlay walked table) all.plays.items

-- the map of this shard stands at the place
pub record IsShardAt (all : ShardPlays) (id : ShardId) (place : ℕ) : Type 0 where
  pub play : ShardPlay
  pub there : slice_get all.plays.items place ≡ Some play
  pub object : play.object ≡ id.object
  pub region : play.region ≡ id.region
  pub colour : play.colour ≡ id.colour

-- and a queue is played over the own line of its colour
abbrev pub IsQueuePlay : Walked → List (List Node) → QueuePlay → Type 0
IsQueuePlay walked table p = HoldsLine IsValueQueue table (line (journal_walked walked p.region p.colour)) p.play

-- the keys are those of the whole own lines of colours of a region, in its order
pub record IsKeyOrder (walked : Walked) (o : KeyOrder) : Type 0 where
  pub region : o.region < walked.script.shape.regions
  pub colours : All (λ colour. colour < walked.script.shape.colours) o.colours
  pub keys : o.keys.items ≡ whole_order (log_walked walked) o.region o.colours

-- a transactional map is played over the nodes of these keys
pub record IsTxPlay (walked : Walked) (table : List (List Node)) (p : TxPlay) : Type 0 where
  pub order : IsKeyOrder walked p.order
  pub holds : HoldsKeys IsTxState table p.order.keys.items p.play

-- and so is a map of several keys at once
pub record IsSeveralPlay (walked : Walked) (table : List (List Node)) (p : SeveralPlay) : Type 0 where
  pub order : IsKeyOrder walked p.order
  pub colours : p.play.fold.colours ≡ p.own
  pub holds : HoldsLine IsAmongMap table p.order.keys.items p.play
