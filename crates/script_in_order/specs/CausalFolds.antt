-- Which nodes a causal map's fold was fed.
use Rattle.std.specs.Prelude.{◌≡◌, Bool, ℕ, ◌<◌, nat_lt, ◌&&◌, List, length, map, Some, slice_get}
use Rattle.std.specs.List.Sorted.{IsPermutation}
use Rattle.log_node.specs.declared.ids.Counts.{Counts}
use Rattle.log_node.specs.Vectors.{at, is_within, IsWithin}
use Rattle.log_node.specs.declared.limits.TheConstants.{MAX_COLOURS}
use Rattle.col_core.specs.PlayOrder.{Place}
use Rattle.object_fold.specs.Causal.{ChainNode}
use Rattle.object_fold.specs.declared.causal_map.CausalMap.{CausalMap}
use Rattle.object_fold.specs.CausalStates.{IsCausalMap, counts_of}
use Rattle.world_laws.specs.Worlds.{World, chains_after, cut_after}
use Rattle.lawful_run.specs.Objects.{places_within}
use Rattle.script_meaning.specs.CausalGets.{causal_node}

-- a place of a region's chain
abbrev pub place_at : ℕ → ℕ → Place
place_at region position = record { region = region; position = position }

-- the node at a place of the chains that a region's column of a colour holds, as a causal map reads it
abbrev pub held_node : World → ℕ → ℕ → Place → ChainNode
held_node w own colour place = causal_node w (chains_after own (w.histories own colour)) place

-- the nodes of these chains up to some counts
abbrev pub held_nodes : World → ℕ → ℕ → Counts → List ChainNode
held_nodes w own colour counts = map (held_node w own colour) (places_within counts)

-- how far a region's column of a colour may be played
abbrev pub cut_to_play : World → ℕ → ℕ → Counts
cut_to_play w own colour = cut_after own (w.histories own colour)

-- after so many nodes of each chain the next one of a region's chain may be played
abbrev pub is_next : World → ℕ → ℕ → Counts → ℕ → Bool
is_next w own colour counts region =
    nat_lt (at counts region) (at (cut_to_play w own colour) region)
    && is_within (held_node w own colour (place_at region (at counts region))).needs counts

-- The map was fed the nodes that a region's column of a colour holds up to the map's own counts, each once; they may be
-- played there.
pub record IsCausalFold (w : World) (own colour : ℕ) (fold : CausalMap) : Type 0 where
  pub nodes : List ChainNode
  pub folded : IsCausalMap fold nodes
  pub are : IsPermutation nodes (held_nodes w own colour (counts_of fold))
  pub within : IsWithin (counts_of fold) (cut_to_play w own colour)

-- a causal map on a colour has one for each region that there is
pub record AreCausalFolds (w : World) (colour : ℕ) (folds : List CausalMap) : Type 0 where
  pub small : colour < MAX_COLOURS
  pub all : length folds ≡ w.shape.regions
  pub each : (region : ℕ) (fold : CausalMap) → slice_get folds region ≡ Some fold
      → IsCausalFold w region colour fold
