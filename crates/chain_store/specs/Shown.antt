-- Views of a column: from its base on, with more added, and in part.
use Rattle.std.specs.Prelude.{◌≡◌, ℕ, ◌-◌, List, ◌++◌, map, drop, slice_index_or, [], true, false}
use Rattle.log_node.specs.declared.ids.Counts.{Counts}
use Rattle.log_node.specs.Seen.{PlacedNode}
use Rattle.log_node.specs.Vectors.{all_regions, at, greater, is_within, zeros}
use Rattle.col_core.specs.declared.view.View.{View}
use Rattle.chain_store.specs.declared.looks.Looked.{Looked}
use Rattle.chain_store.specs.declared.looks.Looked.TheVariants.{On, Behind}
use Rattle.chain_store.specs.declared.read_view.shown.Shown.{Shown}
use Rattle.chain_store.specs.Kept.{kept_items}

-- the nodes that a view has of a region's chain
abbrev pub items_at : View → ℕ → List PlacedNode
items_at v region = slice_index_or v.items region []

-- the view that is shown: it begins at the base
abbrev pub shown_view : Shown → View
shown_view s = record {
  region = s.region;
  colour = s.colour;
  events = s.events;
  cut = s.cut;
  base = s.base;
  from = greater zeros s.base;
  items = kept_items s.chains;
}

-- a view with one that goes on from its cut: what lies below the newer base is left out
abbrev pub merged : View → View → View
merged s v = record {
  region = v.region;
  colour = v.colour;
  events = v.events;
  cut = v.cut;
  base = v.base;
  from = greater zeros v.base;
  items = map (λ region. drop (at v.base region - at s.base region) (items_at s region) ++ items_at v region) all_regions;
}

-- a view that begins at its base, from these counts on
abbrev pub part : View → Counts → View
part s from = record {
  region = s.region;
  colour = s.colour;
  events = s.events;
  cut = s.cut;
  base = s.base;
  from = greater from s.base;
  items = map (λ region. drop (at from region - at s.base region) (items_at s region)) all_regions;
}

-- what is shown of a view to one who goes on from these counts: the part from there on where they are not behind the
-- base, and else the base alone
abbrev pub IsPart : View → Counts → Looked → Type 0
IsPart s from (On view) = (view ≡ part s from) × (is_within s.base from ≡ true)
IsPart s from (Behind shown) = (shown ≡ s.base) × (is_within shown from ≡ false)
