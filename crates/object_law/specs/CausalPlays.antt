-- Causal maps that are played from get to get.
use Rattle.std.specs.Prelude.{◌≡◌, Bool, true, false, ℕ, ◌<◌, List, Option, Some, None}
use Rattle.std.specs.List.{All, AllZip}
use Rattle.std.specs.List.Sorted.{IsPermutation}
use Rattle.log_node.specs.declared.ids.Counts.{Counts}
use Rattle.log_node.specs.declared.ids.Id.{Id}
use Rattle.log_node.specs.declared.node.Node.{Node}
use Rattle.log_node.specs.Reach.{IsGreatestReachable}
use Rattle.log_node.specs.Vectors.{at}
use Rattle.object_fold.specs.Causal.{ChainNode, IsCausalAnswer}
use Rattle.object_fold.specs.declared.causal_map.CausalMap.{CausalMap}
use Rattle.object_fold.specs.CausalStates.{IsCausalMap, counts_of}
use Rattle.col_core.specs.Cuts.{chain}
use Rattle.col_core.specs.Log.{HasText, Log, first}
use Rattle.report_text.specs.declared.report.SyncPiece.{SyncPiece}
use Rattle.lawful_run.specs.Callers.{caller_of}
use Rattle.lawful_run.specs.Objects.{IsChainNode, places_within}
use Rattle.object_law.specs.declared.causal_plays.CausalPlay.{CausalPlay}
use Rattle.object_law.specs.declared.causal_plays.CausalPlays.{CausalPlays}
use Rattle.object_law.specs.PartAnswers.{IfThere}
use Rattle.object_law.specs.Tenth.{log_with}
use Rattle.walk_law.specs.Playing.{lines_of}
use Rattle.walk_law.specs.Walking.{Walked, log_walked}

-- NODES

-- the node has this id and this text in the log; or the log has none with this id
abbrev pub HasNode : Log → Id → Option Node → Type 0
HasNode log id None = (text : List ℕ) → HasText log id text → ⊥
HasNode log id (Some node) = HasText log id node.text

-- these are the nodes of the lines of a colour up to a vector
abbrev pub AreLineNodes : Walked → List (List Node) → ℕ → Counts → List ChainNode → Type 0
AreLineNodes walked table colour counts nodes =
    AllZip (IsChainNode (log_with walked table) (lines_of walked colour)) (places_within counts) nodes

-- the values of a key over all nodes of the lines of a colour up to a vector
pub record GetsByLines (walked : Walked) (table : List (List Node)) (colour : ℕ) (counts : Counts) (key : List ℕ)
    (values : List (List ℕ)) : Type 0 where
  pub nodes : List ChainNode
  pub played : AreLineNodes walked table colour counts nodes
  pub answer : IsCausalAnswer nodes key values

-- a client's sync shows the cut that its column had after so many events
abbrev pub ShowsCut : Walked → ℕ → SyncPiece → Type 0
ShowsCut walked client sync =
    let own = (caller_of walked.script client).own in
    IsGreatestReachable (chain own (first (log_walked walked) own sync.colour sync.events)) sync.counts

-- MAPS

-- the map was fed the nodes of the lines of a colour up to its own counts, each once
pub record IsFed (walked : Walked) (table : List (List Node)) (colour : ℕ) (map : CausalMap) : Type 0 where
  pub fed : List ChainNode
  pub holds : IsCausalMap map fed
  pub nodes : List ChainNode
  pub are : AreLineNodes walked table colour (counts_of map) nodes
  pub each_once : IsPermutation fed nodes

-- so is a map that is played
abbrev pub IsCausalPlay : Walked → List (List Node) → CausalPlay → Type 0
IsCausalPlay walked table p = IsFed walked table p.colour p.map

-- and so are all that are there
abbrev pub AreCausalPlays : Walked → List (List Node) → CausalPlays → Type 0
AreCausalPlays walked table all = All (IfThere (IsCausalPlay walked table)) all.plays.items

-- all nodes up to a vector are counted; or the table lacks one of them
abbrev pub IsFedTo : Walked → List (List Node) → ℕ → Counts → Counts → Bool → Type 0
IsFedTo walked table colour to counts true = (region : ℕ) → region < 4 → at counts region ≡ at to region
IsFedTo walked table colour to counts false = (nodes : List ChainNode) → AreLineNodes walked table colour to nodes → ⊥
