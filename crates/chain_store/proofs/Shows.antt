-- What a view shows with more added, and in part.
use Rattle.std.proofs.Common.{◌≡◌, ℕ, ◌+◌, ◌-◌, ◌<◌, ◌≤◌, max, true, List, [], ◌∷◌, ◌++◌, length, map, drop, take, Some, refl, ap, sym, subst, ◌∙◌, arith, inl, inr, ◌⊎◌}
use Rattle.std.proofs.Math.Seq.{drop-drop, take-add}
use Rattle.std.proofs.lemmas.Bool.{cases_lt}
use Rattle.std.proofs.lemmas.List.{drop-take, drop_all, drop-append-le, take-append-le, map-append, drop-map, length-take, length-drop}
use Rattle.std.specs.Prelude.{slice_get, slice_index_or}
use mathlib.Core.List.{IsPrefix}
use Rattle.log_node.specs.declared.ids.Counts.{Counts}
use Rattle.log_node.specs.declared.node.Head.{Head}
use Rattle.log_node.specs.Seen.{PlacedNode}
use Rattle.log_node.specs.Vectors.{all_regions, at, greater, zeros, is_within}
use Rattle.log_node.proofs.CallerLemmas.{each_region, at-vector, at-zeros, within-at}
use Rattle.col_core.specs.declared.view.View.{View}
use Rattle.col_core.specs.Cuts.{Dated, chain, base, base_from}
use Rattle.col_core.specs.Computed.{cut, dated}
use Rattle.col_core.specs.Legal.{IsColumnHistory}
use Rattle.col_core.proofs.CallerLemmas.{chains_grow, cut-is_greatest, cut_grows, dates_longer, later, reached_within}
use Rattle.chain_store.specs.declared.told.Tag.{Tag}
use Rattle.chain_store.specs.declared.told.Told.{Told}
use Rattle.chain_store.specs.declared.looks.Looked.{Looked}
use Rattle.chain_store.specs.declared.looks.Looked.TheVariants.{On, Behind}
use Rattle.chain_store.specs.Histories.{entries_in, Names}
use Rattle.chain_store.specs.Looking.{ShowsOn}
use Rattle.chain_store.specs.Passes.{ShowsHistory, IsLawfulTold, dated_in}
use Rattle.chain_store.specs.Shown.{IsPart, items_at, merged, part}
use Rattle.chain_store.proofs.Entering.{names_more}
use Rattle.chain_store.proofs.Moving.{get_split, get_dropped}

-- STRETCHES OF LISTS

module _ {A : Type 0} where
  -- the items from one place on up to another
  abbrev stretch : List A → ℕ → ℕ → List A
  stretch xs from to = take (to - from) (drop from xs)

  -- none up to a place that is no greater
  no_stretch : (xs : List A) (from to : ℕ) → to ≤ from → stretch xs from to ≡ []
  no_stretch xs from to le =
      let none : to - from ≡ 0 = omega (arith, le) in
      ap (λ (n : ℕ). take n (drop from xs)) none

  drop_again : (xs : List A) (b from : ℕ) → b ≤ from → drop (from - b) (drop b xs) ≡ drop from xs
  drop_again xs b from le =
      drop-drop (from - b) b xs ∙ ap (λ (n : ℕ). drop n xs) (let e : b + (from - b) ≡ from = omega (arith, le) in e)

  -- one that begins later
  later_stretch : (xs : List A) (b from to : ℕ) → b ≤ from → drop (from - b) (stretch xs b to) ≡ stretch xs from to
  later_stretch xs b from to le = turn (cases_lt from to) where
    turn : (from < to) ⊎ (to ≤ from) → drop (from - b) (stretch xs b to) ≡ stretch xs from to
    turn (inl less) =
        ap (λ (n : ℕ). drop (from - b) (take n (drop b xs)))
        (let e : to - b ≡ (from - b) + (to - from) = omega (arith, le, less) in e)
        ∙ (drop-take (from - b) (to - from) (drop b xs) ∙ ap (take (to - from)) (drop_again xs b from le))
    turn (inr past) =
        let long = length-take (to - b) (drop b xs) in
        drop_all (from - b) (stretch xs b to) (omega (arith, long, past)) ∙ sym (no_stretch xs from to past)

  -- one from a number on that may be below
  part_stretch : (xs : List A) (b from to : ℕ) → drop (from - b) (stretch xs b to) ≡ stretch xs (max from b) to
  part_stretch xs b from to = turn (cases_lt from b) where
    turn : (from < b) ⊎ (b ≤ from) → drop (from - b) (stretch xs b to) ≡ stretch xs (max from b) to
    turn (inl below) =
        ap (λ (n : ℕ). drop n (stretch xs b to)) (let e : from - b ≡ 0 = omega (arith, below) in e)
        ∙ ap (λ (n : ℕ). stretch xs n to) (let e : b ≡ max from b = omega (arith, below) in e)
    turn (inr above) =
        later_stretch xs b from to above
        ∙ ap (λ (n : ℕ). stretch xs n to) (let e : from ≡ max from b = omega (arith, above) in e)

  -- two that join
  joined_stretch : (xs : List A) (from mid to : ℕ) → from ≤ mid → mid ≤ to
      → stretch xs from mid ++ stretch xs mid to ≡ stretch xs from to
  joined_stretch xs from mid to low high =
      ap (λ (l : List A). stretch xs from mid ++ take (to - mid) l) (sym (drop_again xs from mid low))
      ∙ (sym (take-add (mid - from) (to - mid) (drop from xs))
      ∙ ap (λ (n : ℕ). take n (drop from xs))
      (let e : (mid - from) + (to - mid) ≡ to - from = omega (arith, low, high) in e))

  -- that of a longer list
  longer_stretch : (xs ys : List A) (from to : ℕ) → IsPrefix xs ys → to ≤ length xs
      → stretch xs from to ≡ stretch ys from to
  longer_stretch xs ys from to p within = turn (cases_lt from to) where
    turn : (from < to) ⊎ (to ≤ from) → stretch xs from to ≡ stretch ys from to
    turn (inl less) =
        let long = length-drop from xs in
        sym (take-append-le (to - from) (drop from xs) p.0 (omega (arith, long, less, within)))
        ∙ (ap (take (to - from)) (sym (drop-append-le from xs p.0 (omega (arith, less, within))))
        ∙ ap (λ (l : List A). stretch l from to) p.1)
    turn (inr past) = no_stretch xs from to past ∙ sym (no_stretch ys from to past)

  -- one that begins at a newer base, and one that goes on from where it ends
  merged_stretch : (xs ys : List A) (b c d e : ℕ) → IsPrefix xs ys → c ≤ length xs → b ≤ d → c ≤ e
      → drop (d - b) (stretch xs b c) ++ stretch ys (max c d) e ≡ stretch ys d e
  merged_stretch xs ys b c d e p within low high =
      ap (λ (l : List A). l ++ stretch ys (max c d) e)
      (later_stretch xs b d c low ∙ longer_stretch xs ys d c p within)
      ∙ turn (cases_lt c d) where
        turn : (c < d) ⊎ (d ≤ c) → stretch ys d c ++ stretch ys (max c d) e ≡ stretch ys d e
        turn (inl less) =
            ap (λ (l : List A). l ++ stretch ys (max c d) e) (no_stretch ys d c (omega (arith, less)))
            ∙ ap (λ (n : ℕ). stretch ys n e) (let m : max c d ≡ d = omega (arith, less) in m)
        turn (inr above) =
            ap (λ (n : ℕ). stretch ys d c ++ stretch ys n e) (let m : max c d ≡ c = omega (arith, above) in m)
            ∙ joined_stretch ys d c e above high

-- VIEWS

-- an item of each region
at_region : {A : Type 0} (f : ℕ → List A) (r : ℕ) → r < 4 → slice_index_or (map f all_regions) r [] ≡ f r
at_region f = each_region (λ r. slice_index_or (map f all_regions) r [] ≡ f r) refl refl refl refl

at_greater : (v w : Counts) (r : ℕ) → r < 4 → at (greater v w) r ≡ max (at v r) (at w r)
at_greater v w = at-vector (λ region. max (at v region) (at w region))

-- a view from the base on
at_base : (v : Counts) (r : ℕ) → r < 4 → at (greater zeros v) r ≡ at v r
at_base v r lt =
    let e = at_greater zeros v r lt in
    let z = at-zeros r lt in
    omega (arith, e, z)

abbrev heads : List PlacedNode → List Head
heads items = map (λ (i : PlacedNode). i.head) items

-- the nodes of a region's chain in a view with more added, and in a part
merged_at : (s v : View) (r : ℕ) → r < 4
    → items_at (merged s v) r ≡ drop (at v.base r - at s.base r) (items_at s r) ++ items_at v r
merged_at s v = at_region (λ region. drop (at v.base region - at s.base region) (items_at s region) ++ items_at v region)

part_at : (s : View) (from : Counts) (r : ℕ) → r < 4
    → items_at (part s from) r ≡ drop (at from r - at s.base r) (items_at s r)
part_at s from = at_region (λ region. drop (at from region - at s.base region) (items_at s region))

-- an item of a view with more added is of one or the other
from_either : (s v : View) (r n : ℕ) (i : PlacedNode) → r < 4
    → slice_get (items_at (merged s v) r) n ≡ Some i
    → ((m : ℕ) × (slice_get (items_at s r) m ≡ Some i)) ⊎ ((m : ℕ) × (slice_get (items_at v r) m ≡ Some i))
from_either s v r n i lt e =
    elim (get_split (drop (at v.base r - at s.base r) (items_at s r)) (items_at v r) n i
    (ap (λ (l : List PlacedNode). slice_get l n) (sym (merged_at s v r lt)) ∙ e)) [
      | inl old ↦ inl (get_dropped (at v.base r - at s.base r) (items_at s r) n i old)
      | inr new ↦ inr new
    ]

-- HISTORIES

-- the dates of a longer history begin as before
dates_grow : (t : Tag) (old log : List Told) → IsPrefix old log → IsPrefix (dated_in t old) (dated_in t log)
dates_grow t old log p = (
  later t.region (dated_in t old) (entries_in p.0),
  sym (dates_longer t.region (entries_in old) (entries_in p.0))
      ∙ (ap (dated t.region) (sym (map-append (λ (u : Told). u.entry) old p.0)) ∙ ap (dated_in t) p.1),
)

base_longer : (own regions region : ℕ) (before ds more : List Dated)
    → base_from own regions region before ds ≤ base_from own regions region before (ds ++ more)
base_longer own regions region before [] more = omega arith
base_longer own regions region before (d ∷ ds) more =
    let h = base_longer own regions region (before ++ d ∷ []) ds more in omega (arith, h)

-- what a column has of a history, and of one that begins with it
module _ (t : Tag) (old log : List Told) (p : IsPrefix (dated_in t old) (dated_in t log))
    (lawful : IsLawfulTold t log) where
  whole : IsColumnHistory t.region t.regions (dated_in t old ++ p.0)
  whole = subst (IsColumnHistory t.region t.regions) (sym p.1) lawful

  chain_grows : (r : ℕ) → IsPrefix (chain t.region (dated_in t old) r) (chain t.region (dated_in t log) r)
  chain_grows r = subst (λ (ds : List Dated). IsPrefix (chain t.region (dated_in t old) r) (chain t.region ds r)) p.1
      (chains_grow t.region t.regions (dated_in t old) p.0 whole r)

  cut_rises : (r : ℕ) → r < 4 → at (cut t.region (dated_in t old)) r ≤ at (cut t.region (dated_in t log)) r
  cut_rises r lt = subst (λ (ds : List Dated). at (cut t.region (dated_in t old)) r ≤ at (cut t.region ds) r) p.1
      (within-at _ _ (cut_grows t.region t.regions (dated_in t old) p.0 whole) r lt)

  base_rises : (r : ℕ) → r < 4
      → at (base t.region t.regions (dated_in t old)) r ≤ at (base t.region t.regions (dated_in t log)) r
  base_rises r lt =
      let was = at-vector (λ r. base_from t.region t.regions r [] (dated_in t old)) r lt in
      let is = at-vector (λ r. base_from t.region t.regions r [] (dated_in t log)) r lt in
      let grows = subst (λ (ds : List Dated). base_from t.region t.regions r [] (dated_in t old)
      ≤ base_from t.region t.regions r [] ds) p.1 (base_longer t.region t.regions r [] (dated_in t old) p.0) in
      omega (arith, was, is, grows)

-- THE TWO

-- a view from a base on with one that goes on from its cut shows what that one's history is
pub merged_shows : (t : Tag) (old log : List Told) (s v : View) → IsPrefix old log → IsLawfulTold t log
    → ShowsHistory t old zeros s → ShowsHistory t log s.cut v → ShowsHistory t log zeros (merged s v)
merged_shows t old log s v p lawful of_old of_new = record {
  region = of_new.region;
  colour = of_new.colour;
  events = of_new.events;
  cut = of_new.cut;
  base = of_new.base;
  start = refl;
  chains = refl;
  heads = λ r lt. ap heads (merged_at s v r lt) ∙ (merged_heads r lt
      ∙ ap (λ (n : ℕ). stretch (chain t.region (dated_in t log) r) n (at v.cut r)) (sym (at_base v.base r lt)));
  nodes = λ r n i lt e. elim (from_either s v r n i lt e) [
    | inl was ↦ subst (λ (l : List Told). Names l i.head.key.id i.node) p.1
        (names_more old p.0 i.head.key.id i.node (of_old.nodes r was.0 i lt was.1))
    | inr is ↦ of_new.nodes r is.0 i lt is.1
  ];
  stamped = λ r n i lt other e. elim (from_either s v r n i lt e) [
    | inl was ↦ of_old.stamped r was.0 i lt other was.1
    | inr is ↦ of_new.stamped r is.0 i lt other is.1
  ];
  regions = λ r n i lt e. elim (from_either s v r n i lt e) [
    | inl was ↦ of_old.regions r was.0 i lt was.1
    | inr is ↦ of_new.regions r is.0 i lt is.1
  ];
} where
  merged_heads : (r : ℕ) → r < 4
      → heads (drop (at v.base r - at s.base r) (items_at s r) ++ items_at v r)
      ≡ stretch (chain t.region (dated_in t log) r) (at v.base r) (at v.cut r)
  merged_heads r lt =
      let g = dates_grow t old log p in
      let xs = chain t.region (dated_in t old) r in
      let ys = chain t.region (dated_in t log) r in
      let within : at s.cut r ≤ length xs =
      subst (λ (c : Counts). at c r ≤ length xs) (sym of_old.cut)
      (reached_within (chain t.region (dated_in t old)) (cut-is_greatest t.region (dated_in t old)).reached r lt) in
      let low : at s.base r ≤ at v.base r =
      subst (λ (b : Counts). at b r ≤ at v.base r) (sym of_old.base)
      (subst (λ (b : Counts). at (base t.region t.regions (dated_in t old)) r ≤ at b r) (sym of_new.base)
      (base_rises t old log g lawful r lt)) in
      let high : at s.cut r ≤ at v.cut r =
      subst (λ (c : Counts). at c r ≤ at v.cut r) (sym of_old.cut)
      (subst (λ (c : Counts). at (cut t.region (dated_in t old)) r ≤ at c r) (sym of_new.cut)
      (cut_rises t old log g lawful r lt)) in
      let from_old : at s.from r ≡ at s.base r = ap (λ (c : Counts). at c r) of_old.start ∙ at_base s.base r lt in
      let from_new : at v.from r ≡ max (at s.cut r) (at v.base r) =
      ap (λ (c : Counts). at c r) of_new.start ∙ at_greater s.cut v.base r lt in
      map-append (λ (i : PlacedNode). i.head) (drop (at v.base r - at s.base r) (items_at s r)) (items_at v r)
      ∙ (ap (λ (l : List Head). l ++ heads (items_at v r))
      (sym (drop-map (λ (i : PlacedNode). i.head) (at v.base r - at s.base r) (items_at s r))
      ∙ ap (drop (at v.base r - at s.base r))
      (of_old.heads r lt ∙ ap (λ (n : ℕ). stretch xs n (at s.cut r)) from_old))
      ∙ (ap (λ (l : List Head). drop (at v.base r - at s.base r) (stretch xs (at s.base r) (at s.cut r)) ++ l)
      (of_new.heads r lt ∙ ap (λ (n : ℕ). stretch ys n (at v.cut r)) from_new)
      ∙ merged_stretch xs ys (at s.base r) (at s.cut r) (at v.base r) (at v.cut r) (chain_grows t old log g lawful r)
      within low high))

-- and a part of it shows it from these counts on
pub part_shows : (t : Tag) (log : List Told) (from : Counts) (s : View) → ShowsHistory t log zeros s
    → ShowsHistory t log from (part s from)
part_shows t log from s shows = record {
  region = shows.region;
  colour = shows.colour;
  events = shows.events;
  cut = shows.cut;
  base = shows.base;
  start = refl;
  chains = refl;
  heads = λ r lt.
      let xs = chain t.region (dated_in t log) r in
      let start : at s.from r ≡ at s.base r = ap (λ (c : Counts). at c r) shows.start ∙ at_base s.base r lt in
      ap heads (part_at s from r lt)
      ∙ (sym (drop-map (λ (i : PlacedNode). i.head) (at from r - at s.base r) (items_at s r))
      ∙ (ap (drop (at from r - at s.base r)) (shows.heads r lt ∙ ap (λ (n : ℕ). stretch xs n (at s.cut r)) start)
      ∙ (part_stretch xs (at s.base r) (at from r) (at s.cut r)
      ∙ ap (λ (n : ℕ). stretch xs n (at s.cut r)) (sym (at_greater from s.base r lt)))));
  nodes = λ r n i lt e. let w = was r n i lt e in shows.nodes r w.0 i lt w.1;
  stamped = λ r n i lt other e. let w = was r n i lt e in shows.stamped r w.0 i lt other w.1;
  regions = λ r n i lt e. let w = was r n i lt e in shows.regions r w.0 i lt w.1;
} where
  was : (r n : ℕ) (i : PlacedNode) → r < 4 → slice_get (items_at (part s from) r) n ≡ Some i
      → (m : ℕ) × (slice_get (items_at s r) m ≡ Some i)
  was r n i lt e = get_dropped (at from r - at s.base r) (items_at s r) n i
      (ap (λ (l : List PlacedNode). slice_get l n) (sym (part_at s from r lt)) ∙ e)

-- and so does what is shown to one who goes on from counts
pub part_shows_on : (t : Tag) (log : List Told) (from : Counts) (s : View) (looked : Looked) → ShowsHistory t log zeros s
    → IsPart s from looked → ShowsOn t log from looked
part_shows_on t log from s (On view) shows is = (
  subst (ShowsHistory t log from) (sym is.0) (part_shows t log from s shows),
  subst (λ (v : View). is_within v.base from ≡ true) (sym is.0) is.1,
)
part_shows_on t log from s (Behind shown) shows is = (is.0 ∙ shows.base, is.1)
