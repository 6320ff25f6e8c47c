-- How boxes are joined: bands, the arrows of chains, and cross-edges.
use Rattle.std.specs.Prelude.{Bool, ℕ, ◌+◌, ◌-◌, ◌==◌, nat_lt, nat_le, not, ◌&&◌, ◌||◌, List, [], ◌∷◌, ◌++◌, Option, Some, None, decimal, codes, if◌then◌else◌}
use Rattle.std.specs.List.{list_any, find, flat_map}
use Rattle.log_node.specs.Order.{same_id}
use Rattle.log_node.specs.Vectors.{at, all_regions}
use Rattle.run_picture.specs.declared.picture.NodeBox.{NodeBox}
use Rattle.run_picture.specs.declared.picture.Tie.{Tie}
use Rattle.run_picture.specs.declared.picture.Tie.TheVariants.{Band, Chain, Edge}
use Rattle.run_picture.specs.declared.picture.Spot.{Spot}
use Rattle.run_picture.specs.Pieces.{texts_joined}
use Rattle.run_picture.specs.Spots.{slot_x, spot_y, tie_class, tie_start, tie_end}
use Rattle.run_picture.specs.Marks.{is_in_line}

-- the box is of the node at this position of the line of this region and colour
abbrev pub stands_at : ℕ → ℕ → ℕ → NodeBox → Bool
stands_at region colour position node =
    is_in_line node.mark.kind && (node.region == region) && (node.colour == colour) && (node.mark.position == position)

-- the box of the node at this position, where it is drawn
abbrev pub node_at : List NodeBox → ℕ → ℕ → ℕ → Option NodeBox
node_at boxes region colour position = find (stands_at region colour position) boxes

-- the second box is of the same node in a later colour
abbrev pub is_next_of : NodeBox → NodeBox → Bool
is_next_of node other =
    same_id other.mark.key.id node.mark.key.id && (other.region == node.region) && nat_lt node.colour other.colour

-- the box is of one of the first nodes of this region and colour, and wants so many of a region
abbrev pub covers : ℕ → ℕ → ℕ → ℕ → ℕ → NodeBox → Bool
covers by colour count region wanted node =
    is_in_line node.mark.kind && (node.region == by) && (node.colour == colour) && nat_lt node.mark.position count
    && nat_le wanted (at node.wants region)

-- how many nodes of a region a node comes after: of its own those before it, and of another those that it wants
abbrev pub count_before : NodeBox → ℕ → ℕ
count_before node by = if by == node.region then node.mark.position else at node.wants by

-- a drawn node of the region that comes before this one wants as much as it does
abbrev pub is_covered : List NodeBox → NodeBox → ℕ → ℕ → Bool
is_covered boxes node region by =
    not (by == region) && list_any (covers by node.colour (count_before node by) region (at node.wants region)) boxes

-- drawn nodes that come before this one imply what it wants of the region
abbrev pub is_implied : List NodeBox → NodeBox → ℕ → Bool
is_implied boxes node region = list_any (is_covered boxes node region) all_regions

-- the box of the predecessor in the chain, where it is drawn
abbrev pub chain_of : List NodeBox → NodeBox → Option NodeBox
chain_of boxes node =
    if not (is_in_line node.mark.kind) || (node.mark.position == 0) then None
    else node_at boxes node.region node.colour (node.mark.position - 1)

-- The box of the last node that the entering event wants of another region, where it is drawn and not implied.
abbrev pub edge_to : List NodeBox → NodeBox → ℕ → Option NodeBox
edge_to boxes node region =
    if (region == node.region) || (at node.wants region == 0) || is_implied boxes node region then None
    else node_at boxes region node.colour (at node.wants region - 1)

-- a line from the one box to the other
abbrev pub link_text : Tie → Spot → Spot → List ℕ
link_text tie from to =
    texts_joined (codes "<path class='" ∷ tie_class tie ∷ codes "' d='M" ∷ decimal (slot_x from.slot + tie_start tie)
    ∷ codes " " ∷ decimal (spot_y from + 18) ∷ codes "L" ∷ decimal (slot_x to.slot + tie_end tie)
    ∷ codes " " ∷ decimal (spot_y to + 18) ∷ codes "'/>\n" ∷ [])

-- the same, where there is another box
abbrev pub link_to : Tie → NodeBox → Option NodeBox → List ℕ
link_to tie node None = []
link_to tie node (Some other) = link_text tie node.at other.at

-- the band to the same node's box in its next colour, where there is one
abbrev pub band_link : List NodeBox → NodeBox → List ℕ
band_link boxes node = link_to Band node (find (is_next_of node) boxes)

-- the arrow to the predecessor in the chain, where that is drawn
abbrev pub chain_link : List NodeBox → NodeBox → List ℕ
chain_link boxes node = link_to Chain node (chain_of boxes node)

-- the edge to a region, where there is one
abbrev pub edge_link : List NodeBox → NodeBox → ℕ → List ℕ
edge_link boxes node region = link_to Edge node (edge_to boxes node region)

-- The links from a box: to its node's box in the next colour, to its predecessor, and to what it wants of others.
abbrev pub links_of : List NodeBox → NodeBox → List ℕ
links_of boxes node = band_link boxes node ++ chain_link boxes node ++ flat_map (edge_link boxes node) all_regions
