-- The nodes of the own lines of several colours in one order, as they are merged.
use Rattle.std.specs.Prelude.{◌≡◌, ◌⊎◌, ℕ, nat_le, List, [], ◌++◌, map, drop, slice_get, Option}
use Rattle.std.specs.List.{Contains, filter, fold}
use Rattle.log_node.specs.declared.ids.Key.{Key}
use Rattle.log_node.specs.Seen.{PlacedNode}
use Rattle.object_fold.specs.Folds.{is_behind}
use Rattle.playback.specs.Merging.{merged, merged_behind}
use Rattle.log_client.specs.declared.track.Track.{Track}
use Rattle.log_client.specs.Clients.{line_in}
use Rattle.log_client.specs.Reading.{keys_of}

-- the nodes of a line that come behind the last key and have stamps up to this one
abbrev pub part_of : Option Key → ℕ → List PlacedNode → List PlacedNode
part_of last stamp line =
    filter (λ (item : PlacedNode). nat_le item.head.key.stamp stamp)
    (filter (λ (item : PlacedNode). is_behind last item.head.key) line)

-- such parts of the own lines of these colours
abbrev pub are_parts : List Track → Option Key → ℕ → List ℕ → List (List PlacedNode)
are_parts tracks last stamp colours = map (λ colour. part_of last stamp (line_in (slice_get tracks colour))) colours

-- From a position on those that come before an item were taken, and then this one.
pub record TakesUntil (old new others : List PlacedNode) (start next : ℕ) (item : PlacedNode) : Type 0 where
  pub keys : (rest : List Key → List Key)
      → keys_of new ++ rest (drop next (keys_of others))
      ≡ keys_of old ++ merged_behind item.head.key rest (drop start (keys_of others))
  pub among : (i : PlacedNode) → Contains new i → (Contains old i ⊎ Contains others i) ⊎ (i ≡ item)

-- two lists in rising key are merged, each key once
pub record AreMerged (items others all : List PlacedNode) : Type 0 where
  pub keys : keys_of all ≡ merged (keys_of items) (keys_of others)
  pub among : (i : PlacedNode) → Contains all i → Contains items i ⊎ Contains others i

-- these parts are merged, one after another
pub record AreMergedParts (parts : List (List PlacedNode)) (items : List PlacedNode) : Type 0 where
  pub keys : keys_of items ≡ fold (λ keys part. merged keys (keys_of part)) [] parts
  pub among : (i : PlacedNode) → Contains items i → (part : List PlacedNode) × Contains parts part × Contains part i
