-- The order of play, computed: again and again the free node that goes first is played.
use Rattle.std.specs.Prelude.{Bool, false, true, ℕ, zero, suc, ◌&&◌, nat_lt, List, [], ◌∷◌, Option, Some, None}
use Rattle.std.specs.Prelude.{slice_get, map, sum, if◌then◌else◌}
use Rattle.std.specs.Option.{option_map_or}
use Rattle.log_node.specs.declared.ids.Counts.{Counts}
use Rattle.log_node.specs.declared.node.Head.{Head}
use Rattle.log_node.specs.Vectors.{at, all_regions, one_more}
use Rattle.log_node.specs.Reach.{Chains, is_covered}
use Rattle.col_core.specs.PlayOrder.{Place, goes_first}

-- where a region's chain goes on, where so many nodes of each chain are played
abbrev pub next_place : Counts → ℕ → Place
next_place played region = record { region = region; position = at played region }

-- the next node of a region's chain is to be played, and its needs are played
abbrev pub is_free : Chains → Counts → Counts → ℕ → Bool
is_free chains played to region =
    nat_lt (at played region) (at to region) && is_covered played (slice_get (chains region) (at played region))

-- of two nodes that stand at these places the one goes first
abbrev pub goes_before : Option Head → Place → Option Head → Place → Bool
goes_before None p other q = false
goes_before (Some a) p None q = true
goes_before (Some a) p (Some b) q = goes_first a p b q

-- the region goes before another one: its next node goes first
abbrev pub is_before : Chains → Counts → ℕ → ℕ → Bool
is_before chains played region other =
    goes_before (slice_get (chains region) (at played region)) (next_place played region)
    (slice_get (chains other) (at played other)) (next_place played other)

-- of a region and another one, where there is one, that which goes before
abbrev pub first_region : Chains → Counts → ℕ → Option ℕ → ℕ
first_region chains played region None = region
first_region chains played region (Some other) = if is_before chains played other region then other else region

-- of these regions the one whose next node is free and goes first, where there is one
abbrev pub next_region : Chains → Counts → Counts → List ℕ → Option ℕ
next_region chains played to [] = None
next_region chains played to (region ∷ regions) =
    let next = next_region chains played to regions in
    if is_free chains played to region then Some (first_region chains played region next) else next

-- the places of the nodes that are played next, so many at most
abbrev pub order_of : ℕ → Chains → Counts → Counts → List Place
order_of zero chains played to = []
order_of (suc n) chains played to =
    option_map_or (λ region. next_place played region ∷ order_of n chains (one_more played region) to)
    (next_region chains played to all_regions) []

-- the nodes from the first vector to the second, in the order of play
abbrev pub play_order : Chains → Counts → Counts → List Place
play_order chains from to = order_of (sum (map (at to) all_regions)) chains from to
