-- The order of a region, computed: the lines of its columns are merged.
use Rattle.std.specs.Prelude.{IsTrue, ℕ, nat_le, List, [], ◌∷◌, if◌then◌else◌}
use Rattle.std.specs.List.{AllPairs, filter, fold}
use Rattle.log_node.specs.declared.ids.Key.{Key}
use Rattle.log_node.specs.Order.{key_below, same_key}

-- A key and those behind it are merged with other keys, where `rest` merges those behind with what is left.
abbrev pub merged_behind : Key → (List Key → List Key) → List Key → List Key
merged_behind key rest [] = key ∷ rest []
merged_behind key rest (other ∷ others) =
    if key_below other key then other ∷ merged_behind key rest others
    else key ∷ rest (if same_key other key then others else other ∷ others)

-- two lists in rising key as one, each key once
abbrev pub merged : List Key → List Key → List Key
merged [] others = others
merged (key ∷ keys) others = merged_behind key (merged keys) others

-- the keys of a line with stamps up to this one
abbrev pub up_to : ℕ → List Key → List Key
up_to stamp line = filter (λ key. nat_le key.stamp stamp) line

-- all keys of some lines with stamps up to this one, each once, in rising key
abbrev pub region_order : ℕ → List (List Key) → List Key
region_order stamp lines = fold (λ keys line. merged keys (up_to stamp line)) [] lines

-- the keys rise
abbrev pub AreRising : List Key → Type 0
AreRising keys = AllPairs (λ a b. IsTrue (key_below a b)) keys
