-- What the functions of this crate say of each other: free nodes as a view shows them, and the next one.
use Rattle.std.specs.Prelude.{◌≡◌, Bool, ℕ, ◌<◌, ◌≤◌, ◌&&◌, ◌||◌, nat_lt, List, Option, Some, None, map, if◌then◌else◌}
use Rattle.log_node.specs.declared.ids.Counts.{Counts}
use Rattle.log_node.specs.Order.{key_below, same_key}
use Rattle.log_node.specs.Seen.{PlacedNode}
use Rattle.log_node.specs.Vectors.{at, is_within, with_number, all_regions}
use Rattle.col_core.specs.declared.view.View.{View}
use Rattle.log_node.specs.Reach.{Chains, Reachable}
use Rattle.playback.specs.declared.free.Free.{Free}
use Rattle.playback.specs.Orders.{next_place, next_region, play_order}
use Rattle.playback.specs.Playing.{ShowsChains, item_at}

-- the node, where there is one and its needs are played
abbrev pub free_item : Counts → ℕ → Option PlacedNode → Option Free
free_item played region None = None
free_item played region (Some item) =
    if is_within item.head.needs played then Some (record { region = region; key = item.head.key }) else None

-- the next node of a region's chain, where it is to be played and its needs are played
abbrev pub free_in : View → Counts → ℕ → Option Free
free_in view played region =
    if nat_lt (at played region) (at view.cut region)
    then free_item played region (item_at view (next_place played region)) else None

-- of two free nodes the one goes before the other
abbrev pub free_before : Free → Free → Bool
free_before a b = key_below a.key b.key || (same_key a.key b.key && nat_lt a.region b.region)

-- of two that may be free the one that goes first
abbrev pub first_of : Option Free → Option Free → Option Free
first_of None other = other
first_of (Some one) None = Some one
first_of (Some one) (Some other) = Some (if free_before other one then other else one)

-- the view shows the region's next node, and it is the next to be played in all chains that the view shows
pub record GoesNext (view : View) (played : Counts) (region : ℕ) : Type 0 where
  pub in_range : region < 4
  pub past : at view.from region ≤ at played region
  pub wanted : at played region < at view.cut region
  pub item : PlacedNode
  pub shown : item_at view (next_place played region) ≡ Some item
  pub next : (chains : Chains) → ShowsChains view chains
      → next_region chains played view.cut all_regions ≡ Some region

-- the region whose next node is played next, where there is one
abbrev pub IsNextRegion : View → Counts → Option ℕ → Type 0
IsNextRegion view played None = (chains : Chains) → ShowsChains view chains
    → next_region chains played view.cut all_regions ≡ None
IsNextRegion view played (Some region) = GoesNext view played region

-- The items are those at the places of the computed order, in all chains that the view shows and in which its cut can
-- be reached.
abbrev pub AreInOrder : View → Counts → List PlacedNode → Type 0
AreInOrder view from items = (chains : Chains) → ShowsChains view chains → Reachable chains view.cut
    → map Some items ≡ map (item_at view) (play_order chains from view.cut)

-- no other region's chain has nodes from the first vector to the second
abbrev pub is_lone : Counts → Counts → ℕ → Bool
is_lone from to region = is_within (with_number to region 0) from
