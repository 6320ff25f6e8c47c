-- What a play gives of a view, and why it is refused.
use Rattle.std.specs.Prelude.{◌≡◌, true, false, ℕ, ◌<◌, ◌-◌, max, List, [], ◌∷◌, ◌++◌, Option, Some, map, codes}
use Rattle.std.specs.Prelude.{decimal, slice_get, slice_index_or}
use Rattle.log_node.specs.declared.ids.Counts.{Counts}
use Rattle.log_node.specs.declared.node.Head.{Head}
use Rattle.log_node.specs.Seen.{PlacedNode}
use Rattle.log_node.specs.Vectors.{at, vector, is_within}
use Rattle.col_core.specs.declared.view.View.{View}
use Rattle.log_node.specs.Reach.{Chains}
use Rattle.col_core.specs.PlayOrder.{Place, IsPlayOrder, nodes_between}
use Rattle.playback.specs.declared.faults.PlayFault.{PlayFault}
use Rattle.playback.specs.declared.faults.PlayFault.TheVariants.{Trimmed, NoMemory}
use Rattle.playback.specs.Orders.{play_order}

-- the view was looked at from these counts: for each region it starts at the greater of the count and the base
abbrev pub IsLookedFrom : View → Counts → Type 0
IsLookedFrom view counts = view.from ≡ vector (λ region. max (at counts region) (at view.base region))

-- the nodes that a view shows of a region's chain
abbrev pub items_of : View → ℕ → List PlacedNode
items_of view region = slice_index_or view.items region []

-- the view shows of these chains the nodes from its start up to its cut
abbrev pub ShowsChains : View → Chains → Type 0
ShowsChains view chains = (region : ℕ) → region < 4
    → map (λ (i : PlacedNode). i.head) (items_of view region) ≡ nodes_between chains view.from view.cut region

-- the node at a place from the view's start on, as the view shows it
abbrev pub item_at : View → Place → Option PlacedNode
item_at view place = slice_get (items_of view place.region) (place.position - at view.from place.region)

-- the head of the node at a place
abbrev pub head_at : Chains → Place → Option Head
head_at chains place = slice_get (chains place.region) place.position

-- The items are the nodes of the chains from these counts up to the view's cut, each once, in the order of play, as the
-- view shows them.
pub record ArePlayed (view : View) (chains : Chains) (from : Counts) (items : List PlacedNode) : Type 0 where
  pub in_order : IsPlayOrder chains from view.cut (play_order chains from view.cut)
  pub items_shown : map Some items ≡ map (item_at view) (play_order chains from view.cut)
  pub heads : map (λ (i : PlacedNode). Some i.head) items ≡ map (head_at chains) (play_order chains from view.cut)

-- Why nothing was played from these counts: a count is below the view's base, which is told before want of memory; or
-- memory was refused.
abbrev pub HasPlayCause : View → Counts → PlayFault → Type 0
HasPlayCause view played (Trimmed base) = (base ≡ view.base) × (is_within view.base played ≡ false)
HasPlayCause view played NoMemory = is_within view.base played ≡ true

-- how a refusal is told
abbrev pub fault_text : PlayFault → List ℕ
fault_text (Trimmed base) =
    codes "trimmed below " ++ decimal (at base 0) ++ 44 ∷ decimal (at base 1) ++ 44 ∷ decimal (at base 2)
    ++ 44 ∷ decimal (at base 3)
fault_text NoMemory = codes "out of memory"
