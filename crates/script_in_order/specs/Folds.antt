-- What of each object is folded, and when that is right.
use Rattle.std.specs.Prelude.{◌≡◌, IsTrue, ℕ, ◌≤◌, ◌<◌, List, [], length, map, take, drop, Some, slice_get, slice_index}
use Rattle.std.specs.List.{Contains, fold}
use Rattle.log_node.specs.declared.ids.Key.{Key}
use Rattle.object_fold.specs.declared.kept_line.KeptLine.{KeptLine}
use Rattle.object_fold.specs.declared.queue.ValueQueue.{ValueQueue}
use Rattle.object_fold.specs.declared.shard_map.ShardMap.{ShardMap}
use Rattle.object_fold.specs.Nodes.{ObjectNode}
use Rattle.object_fold.specs.States.{IsShardMap, IsValueQueue, IsTxState}
use Rattle.part_fold.specs.declared.part_fold.PartFold.{PartFold}
use Rattle.part_fold.specs.Agreement.{part_at}
use Rattle.part_fold.specs.PartStates.{IsPart}
use Rattle.part_fold.specs.Ruled.{IsRuled}
use Rattle.tree_fold.specs.TreeStates.{IsTree}
use Rattle.col_core.specs.History.{line}
use Rattle.playback.specs.Merging.{merged, up_to}
use Rattle.world_laws.specs.Worlds.{World, home_of, home_history}
use Rattle.script_text.specs.declared.script.Kind.{Kind}
use Rattle.script_text.specs.declared.script.Kind.TheVariants as kinds
use Rattle.script_text.specs.declared.script.Object.{Object}
use Rattle.script_text.specs.Fitting.{is_tx}
use Rattle.script_meaning.specs.States.{kind_in}
use Rattle.script_meaning.specs.Dequeues.{object_node_at}
use Rattle.script_in_order.specs.CausalFolds.{AreCausalFolds}
use Rattle.script_in_order.specs.declared.lines_fold.LinesFold.{LinesFold}
use Rattle.script_in_order.specs.declared.tx_folds.TxFolds.{TxFolds}
use Rattle.script_in_order.specs.declared.folds.FirstNodes.{FirstNodes}
use Rattle.script_in_order.specs.declared.folds.Fold.{Fold}
use Rattle.script_in_order.specs.declared.folds.Fold.TheVariants as folds

-- the own line of the column of which the first nodes are meant
abbrev pub whole_line : World → FirstNodes → List Key
whole_line w first = line (w.histories first.region first.colour)

-- these nodes
abbrev pub nodes_at : World → FirstNodes → List ObjectNode
nodes_at w first = map (object_node_at w) (take first.count (whole_line w first))

-- the column is one of the world's, and its line has so many nodes
pub record AreThere (w : World) (first : FirstNodes) : Type 0 where
  pub region : first.region < w.shape.regions
  pub colour : first.colour < w.shape.colours
  pub count : first.count ≤ length (whole_line w first)

-- the fold is of the first nodes of the line of a region's column
pub record IsKeptLine {F : Type 0} (Holds : F → List ObjectNode → Type 0) (w : World) (home colour : ℕ)
    (kept : KeptLine F) : Type 0 where
  pub within : kept.count ≤ length (line (w.histories home colour))
  pub folded : Holds kept.state (nodes_at w (record { region = home; colour = colour; count = kept.count }))

-- the fold is of the shard with this colour, of a map with these colours, and of the first nodes of its line at home
pub record IsShardFold (w : World) (home : ℕ) (colours : List ℕ) (colour : ℕ) (kept : KeptLine ShardMap) : Type 0 where
  pub colours_are : kept.state.colours ≡ colours
  pub shard_is : kept.state.shard ≡ colour
  pub folded : IsKeptLine IsShardMap w home colour kept

-- a map has one for each colour that there is
pub record AreShardFolds (w : World) (home : ℕ) (colours : List ℕ) (shards : List (KeptLine ShardMap)) : Type 0 where
  pub all : length shards ≡ w.shape.colours
  pub each : (colour : ℕ) (kept : KeptLine ShardMap) → slice_get shards colour ≡ Some kept
      → IsShardFold w home colours colour kept

-- the fold is of the first nodes of the queue's line at home
abbrev pub IsQueueFold : World → ℕ → ℕ → KeptLine ValueQueue → Type 0
IsQueueFold w home colour kept = IsKeptLine IsValueQueue w home colour kept

-- the keys of the first nodes of some lines, in rising key, each once
abbrev pub first_keys : World → List FirstNodes → List Key
first_keys w firsts = fold (λ keys first. merged keys (take first.count (whole_line w first))) [] firsts

-- the keys of the nodes behind these first ones up to a stamp
abbrev pub keys_behind : World → ℕ → List FirstNodes → List Key
keys_behind w stamp firsts =
    fold (λ keys first. merged keys (up_to stamp (drop first.count (whole_line w first)))) [] firsts

-- the lines are those of a client's region of these colours, and the first nodes of each are all up to the stamp
pub record AreReadUpTo (w : World) (client stamp : ℕ) (colours : List ℕ) (firsts : List FirstNodes) : Type 0 where
  pub lines : map (whole_line w) firsts ≡ map (λ colour. line (home_history w client colour)) colours
  pub there : (first : FirstNodes) → Contains firsts first → AreThere w first
  pub cut : (first : FirstNodes) → Contains firsts first
      → take first.count (whole_line w first) ≡ up_to stamp (whole_line w first)

-- the fold is of the part at a place of a map with these colours, and of the first nodes of its line at home
pub record IsPartFold (w : World) (home : ℕ) (colours : List ℕ) (place : ℕ) (kept : KeptLine PartFold) : Type 0 where
  pub part_is : kept.state.part ≡ part_at colours place
  pub folded : IsKeptLine IsPart w home (slice_index colours place) kept

-- a map that is played by its parts has a fold of each
pub record ArePartFolds (w : World) (home : ℕ) (colours : List ℕ) (parts : List (KeptLine PartFold)) : Type 0 where
  -- as many as it has colours
  pub all : length parts ≡ length colours
  -- each of the part at its place
  pub each : (place : ℕ) (kept : KeptLine PartFold) → slice_get parts place ≡ Some kept
      → IsPartFold w home colours place kept

-- the parts of an object of this kind, if it is a map that is played by them
abbrev pub AreItsParts : World → Kind → List (KeptLine PartFold) → Type 0
AreItsParts w (kinds.Parts home colours) parts = ArePartFolds w home colours parts
AreItsParts w _ parts = Unit {0}

-- an object is folded from the first nodes of some lines, whose stamps are up to the fold's
pub record IsLinesFold {F : Type 0} (Holds : F → List ObjectNode → Type 0) (w : World) (fold : LinesFold F) : Type 0 where
  pub there : (first : FirstNodes) → Contains fold.firsts.items first → AreThere w first
  pub low : (key : Key) → Contains (first_keys w fold.firsts.items) key → key.stamp ≤ fold.stamp
  pub folded : Holds fold.kept.state (map (object_node_at w) (first_keys w fold.firsts.items))

-- what is folded of a transactional map of this kind is right
pub record AreTxFolds (w : World) (kind : Kind) (fold : TxFolds) : Type 0 where
  pub map : IsLinesFold IsTxState w fold.map
  pub parts : AreItsParts w kind fold.parts.items
  pub ruled : IsLinesFold IsRuled w fold.ruled

-- the fold is of an object of this kind, and right
abbrev pub IsFoldOf : World → Kind → Fold → Type 0
IsFoldOf w kind (folds.Map shards) =
    (home : ℕ) × (colours : List ℕ) × (kind ≡ kinds.Map home colours) × AreShardFolds w home colours shards.items
IsFoldOf w kind (folds.Queue queue) =
    (home : ℕ) × (colour : ℕ) × (kind ≡ kinds.Queue home colour) × IsQueueFold w home colour queue
IsFoldOf w kind (folds.Causal regions) =
    (colour : ℕ) × (kind ≡ kinds.Causal colour) × AreCausalFolds w colour regions.items
IsFoldOf w kind (folds.Tx fold) = IsTrue (is_tx kind) × AreTxFolds w kind fold
IsFoldOf w kind (folds.Tree fold) =
    (home : ℕ) × (colours : List ℕ) × (kind ≡ kinds.Tree home colours) × IsLinesFold IsTree w fold

-- there is a right one for each of the objects
pub record AreFolded (w : World) (objects : List Object) (all : List Fold) : Type 0 where
  pub many : length all ≡ length objects
  pub each : (n : ℕ) (o : Object) (fold : Fold) → slice_get objects n ≡ Some o → slice_get all n ≡ Some fold
      → IsFoldOf w o.kind fold

-- what is folded right in one world is so in the other
abbrev pub FoldsStay : World → World → List Object → Type 0
FoldsStay old new objects = (all : List Fold) → AreFolded old objects all → AreFolded new objects all

-- of these colours no shard of the object is folded past its bound
abbrev pub ShardsWithin : List Fold → ℕ → List ℕ → (ℕ → ℕ) → Type 0
ShardsWithin all object colours bound =
    (colour : ℕ) → Contains colours colour → (shards : _) (kept : KeptLine ShardMap)
    → slice_get all object ≡ Some (folds.Map shards) → slice_get shards.items colour ≡ Some kept
    → kept.count ≤ bound colour

-- the queue is not folded past this number
abbrev pub QueueWithin : List Fold → ℕ → ℕ → Type 0
QueueWithin all object count =
    (kept : KeptLine ValueQueue) → slice_get all object ≡ Some (folds.Queue kept) → kept.count ≤ count

-- The first nodes of a line may be folded, of the object with a number, which is of this kind.
pub record MayFold (w : World) (objects : List Object) (all : List Fold) (object : ℕ) (kind : Kind)
    (first : FirstNodes) : Type 0 where
  pub folded : AreFolded w objects all
  pub is_kind : kind_in objects object ≡ Some kind
  pub there : AreThere w first

-- the object is a map with these colours, at home in the client's region
abbrev pub IsMapAt : World → ℕ → List Object → ℕ → List ℕ → Type 0
IsMapAt w client objects object colours = kind_in objects object ≡ Some (kinds.Map (home_of w client) colours)

-- the object is a queue on the colour, at home in the client's region
abbrev pub IsQueueAt : World → ℕ → List Object → ℕ → ℕ → Type 0
IsQueueAt w client objects object colour = kind_in objects object ≡ Some (kinds.Queue (home_of w client) colour)

-- the object is a tree
abbrev pub IsTreeAt : List Object → ℕ → Type 0
IsTreeAt objects object = (home : ℕ) × (colours : List ℕ) × (kind_in objects object ≡ Some (kinds.Tree home colours))
