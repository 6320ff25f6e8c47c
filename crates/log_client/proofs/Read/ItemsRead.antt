-- The items of a stamped read, as the nodes of its keys.
use Rattle.std.proofs.Common.{◌≡◌, ℕ, zero, suc, ◌<◌, List, [], ◌∷◌, length, map, cond, Bool, true, false, Option, Some, None, refl, ap, sym, subst, ◌∙◌, inl, inr, ◌⊎◌, arith}
use Rattle.std.specs.Prelude.{nat_le, slice_get, slice_index_or}
use Rattle.std.specs.List.{AllZip, filter, fold}
use Rattle.log_node.specs.declared.ids.Key.{Key}
use Rattle.log_node.specs.Order.{key_below}
use Rattle.log_node.specs.Seen.{PlacedNode}
use Rattle.log_node.proofs.CallerLemmas.{key-irrefl, key-trans}
use Rattle.col_core.specs.declared.Entry.{Entry}
use Rattle.col_core.specs.Computed.{dated}
use Rattle.col_core.specs.Cuts.{entries_of}
use Rattle.col_core.specs.History.{line}
use Rattle.col_core.specs.Legal.{IsColumnHistory}
use Rattle.col_core.specs.Log.{Log, HasText}
use Rattle.col_core.specs.RegionOrder.{IsRegionOrder}
use Rattle.col_core.proofs.CallerLemmas.{In, choice, contains_in, entries_dated, in_contains, in_filter, in_filter-back, line_rises}
use Rattle.playback.specs.Merging.{AreRising, merged, region_order, up_to}
use Rattle.playback.proofs.CallerLemmas.{order_is_merged}
use Rattle.object_fold.specs.Nodes.{object_node}
use Rattle.object_fold.specs.Folds.{is_behind}
use Rattle.lawful_run.specs.Reads.{ShowsKey}
use Rattle.lawful_run.specs.Objects.{AreObjectNodes, IsObjectNode}
use Rattle.log_client.specs.declared.track.Track.{Track}
use Rattle.log_client.specs.Clients.{line_in}
use Rattle.log_client.specs.Reading.{keys_of}
use Rattle.log_client.specs.Items.{part_of, are_parts, AreMergedParts}
use Rattle.log_client.specs.StampedReads.{IsAsAppended, ShowsItem}
pub use Rattle.col_core.proofs.CallerLemmas.{in_map-back as made_from}
pub use Rattle.col_core.proofs.CallerLemmas.{in_map as made_of}

-- RISING LISTS

-- the line of a lawful history rises
pub line_rising : (own regions : ℕ) (h : List Entry) → IsColumnHistory own regions (dated own h) → AreRising (line h)
line_rising own regions h lawful i j d lt there =
    line_rises own regions (dated own h) lawful i j (slice_index_or (line h) i d) (slice_index_or (line h) j d) lt
    (at_index i (omega (arith, lt, there))) (at_index j there) where
      found : (xs : List Key) (n : ℕ) → n < length xs → slice_get xs n ≡ Some (slice_index_or xs n d)
      found [] n low = absurd (let f : ⊥ = omega (arith, low) in f)
      found (x ∷ xs) zero low = refl
      found (x ∷ xs) (suc n) low = found xs n (omega (arith, low))

      at_index : (n : ℕ) → n < length (line h) → slice_get (line (entries_of (dated own h))) n ≡ Some (slice_index_or (line h) n d)
      at_index n low = ap (λ (x : List Entry). slice_get (line x) n) (entries_dated own h) ∙ found (line h) n low

pub rising_tail : (x : Key) (xs : List Key) → AreRising (x ∷ xs) → AreRising xs
rising_tail x xs r i j d lt there = r (suc i) (suc j) d (omega (arith, lt)) (omega (arith, there))

pub rising_head : (x : Key) (xs : List Key) → AreRising (x ∷ xs) → (k : Key) → In k xs → key_below x k ≡ true
rising_head x xs r k i = let c = contains_in xs k i in
    let lt = c.1 in
    subst (λ (y : Key). key_below x y ≡ true) c.2 (r zero (suc c.0) k (omega arith) (omega (arith, lt)))

-- with each item below the others in front, a list rises
pub rising_cons : (x : Key) (xs : List Key) → ((k : Key) → In k xs → key_below x k ≡ true) → AreRising xs
    → AreRising (x ∷ xs)
rising_cons x xs low r zero zero d lt there = absurd (let f : ⊥ = omega (arith, lt) in f)
rising_cons x xs low r zero (suc j) d lt there =
    low (slice_index_or xs j d) (in_contains xs (slice_index_or xs j d) (j, omega (arith, there), same xs j (omega (arith, there))))
  where
    same : (ys : List Key) (n : ℕ) → n < length ys → slice_index_or ys n (slice_index_or xs j d) ≡ slice_index_or ys n d
    same [] n less = absurd (let f : ⊥ = omega (arith, less) in f)
    same (y ∷ ys) zero less = refl
    same (y ∷ ys) (suc n) less = same ys n (omega (arith, less))
rising_cons x xs low r (suc i) zero d lt there = absurd (let f : ⊥ = omega (arith, lt) in f)
rising_cons x xs low r (suc i) (suc j) d lt there = r i j d (omega (arith, lt)) (omega (arith, there))

pub rising_filter : (test : Key → Bool) (xs : List Key) → AreRising xs → AreRising (filter test xs)
rising_filter test [] r = λ i j d lt there. absurd (let f : ⊥ = omega (arith, there) in f)
rising_filter test (x ∷ xs) r =
    choice AreRising (test x) (x ∷ filter test xs) (filter test xs)
    (λ _. rising_cons x (filter test xs) (λ k i. rising_head x xs r k (in_filter test k xs i).0)
    (rising_filter test xs (rising_tail x xs r)))
    (λ _. rising_filter test xs (rising_tail x xs r))

-- two rising lists with the same members are one
pub rising_same : (xs ys : List Key) → AreRising xs → AreRising ys → ((k : Key) → In k xs → In k ys)
    → ((k : Key) → In k ys → In k xs) → xs ≡ ys
rising_same [] [] r q a b = refl
rising_same [] (y ∷ ys) r q a b = absurd (b y (inl refl))
rising_same (x ∷ xs) [] r q a b = absurd (a x (inl refl))
rising_same (x ∷ xs) (y ∷ ys) r q a b =
    let first : x ≡ y = one (a x (inl refl)) (b y (inl refl)) in
    ap (λ (k : Key). k ∷ xs) first
    ∙ ap (λ (l : List Key). y ∷ l)
    (rising_same xs ys (rising_tail x xs r) (rising_tail y ys q)
    (λ k i. into (a k (inr i)) (λ e. key-irrefl x (subst (λ (z : Key). key_below x z ≡ true) (sym e ∙ sym first)
    (rising_head x xs r k i))))
    (λ k i. into_back (b k (inr i)) (λ e. key-irrefl y (subst (λ (z : Key). key_below y z ≡ true) (sym e ∙ first)
    (rising_head y ys q k i))))) where
      one : (y ≡ x) ⊎ In x ys → (x ≡ y) ⊎ In y xs → x ≡ y
      one (inl e) j = sym e
      one (inr i) (inl e) = e
      one (inr i) (inr j) = absurd (key-irrefl x (key-trans x y x (rising_head x xs r y j) (rising_head y ys q x i)))

      into : {k : Key} → (y ≡ k) ⊎ In k ys → (y ≡ k → ⊥) → In k ys
      into (inl e) no_one = absurd (no_one e)
      into (inr i) no_one = i

      into_back : {k : Key} → (x ≡ k) ⊎ In k xs → (x ≡ k → ⊥) → In k xs
      into_back (inl e) no_one = absurd (no_one e)
      into_back (inr i) no_one = i

-- PARTS OF LINES

keyed : (b : Bool) (x : PlacedNode) (l : List PlacedNode) (ks : List Key) → keys_of l ≡ ks
    → keys_of (cond b (x ∷ l) l) ≡ cond b (x.head.key ∷ ks) ks
keyed true x l ks e = ap (λ (m : List Key). x.head.key ∷ m) e
keyed false x l ks e = e

-- the keys of what is filtered by its keys
filter_keys : (test : Key → Bool) (xs : List PlacedNode)
    → keys_of (filter (λ (i : PlacedNode). test i.head.key) xs) ≡ filter test (keys_of xs)
filter_keys test [] = refl
filter_keys test (x ∷ xs) =
    keyed (test x.head.key) x (filter (λ (i : PlacedNode). test i.head.key) xs) (filter test (keys_of xs)) (filter_keys test xs)

part_keys : (last : Option Key) (stamp : ℕ) (line : List PlacedNode)
    → keys_of (part_of last stamp line) ≡ up_to stamp (filter (is_behind last) (keys_of line))
part_keys last stamp line =
    filter_keys (λ (k : Key). nat_le k.stamp stamp) (filter (λ (i : PlacedNode). is_behind last i.head.key) line)
    ∙ ap (up_to stamp) (filter_keys (is_behind last) line)

-- merged part by part, they are merged as lines
merged_parts : (tracks : List Track) (last : Option Key) (stamp : ℕ) (colours : List ℕ) (keys : List Key)
    → fold (λ ks part. merged ks (keys_of part)) keys (are_parts tracks last stamp colours)
    ≡ fold (λ ks l. merged ks (up_to stamp l)) keys
    (map (λ k. filter (is_behind last) (keys_of (line_in (slice_get tracks k)))) colours)
merged_parts tracks last stamp [] keys = refl
merged_parts tracks last stamp (k ∷ colours) keys =
    ap (λ (l : List Key). fold (λ ks part. merged ks (keys_of part)) (merged keys l) (are_parts tracks last stamp colours))
    (part_keys last stamp (line_in (slice_get tracks k)))
    ∙ merged_parts tracks last stamp colours
    (merged keys (up_to stamp (filter (is_behind last) (keys_of (line_in (slice_get tracks k))))))

-- nodes as they were appended, with their keys
pub shown : (log : Log) (xs : List PlacedNode) → ((i : PlacedNode) → In i xs → IsAsAppended log i)
    → AllZip (ShowsItem log) (keys_of xs) xs
shown log [] are = tt
shown log (x ∷ xs) are = ((refl, are x (inl refl)), shown log xs (λ i j. are i (inr j)))

-- they show their keys, and are nodes as objects read them
pub items_show : (log : Log) (keys : List Key) (xs : List PlacedNode) → AllZip (ShowsItem log) keys xs
    → AllZip (ShowsKey log) keys xs
items_show log [] [] all = tt
items_show log [] (x ∷ xs) all = absurd all
items_show log (k ∷ keys) [] all = absurd all
items_show log (k ∷ keys) (x ∷ xs) all = (
  (all.0.0, subst (λ (l : Key). HasText log l.id x.node.text) all.0.0 (x.node, all.0.1.0, all.0.1.1, refl)),
  items_show log keys xs all.1,
)

pub items_are_objects : (log : Log) (keys : List Key) (xs : List PlacedNode) → AllZip (ShowsItem log) keys xs
    → AreObjectNodes log keys (map object_node xs)
items_are_objects log [] [] all = tt
items_are_objects log [] (x ∷ xs) all = absurd all
items_are_objects log (k ∷ keys) [] all = absurd all
items_are_objects log (k ∷ keys) (x ∷ xs) all = (
  subst (λ (l : Key). IsObjectNode log l (object_node x)) all.0.0 (record {
    appended = x.node;
    there = all.0.1.0;
    same = all.0.1.1;
    key_is = refl;
    colours = refl;
    text = refl;
  }),
  items_are_objects log keys xs all.1,
)

-- THE ITEMS

module _ (tracks : List Track) (last : Option Key) (stamp : ℕ) (colours : List ℕ) (items : List PlacedNode)
    (rising : (k : ℕ) → In k colours → AreRising (keys_of (line_in (slice_get tracks k))))
    (are : AreMergedParts (are_parts tracks last stamp colours) items) where
  abbrev line_at : ℕ → List Key
  line_at k = keys_of (line_in (slice_get tracks k))

  -- all keys of the lines
  abbrev pub all_keys : List Key
  all_keys = region_order stamp (map line_at colours)

  pub all_read : IsRegionOrder (map line_at colours) stamp all_keys
  all_read = order_is_merged stamp (map line_at colours)
      (λ l c. let x = made_of line_at colours l (in_contains (map line_at colours) l c) in
      subst AreRising x.2 (rising x.0 x.1))

  abbrev behind : ℕ → List Key
  behind k = filter (is_behind last) (line_at k)

  -- those of the items
  items_read : IsRegionOrder (map behind colours) stamp (keys_of items)
  items_read = subst (IsRegionOrder (map behind colours) stamp)
      (sym (are.keys ∙ merged_parts tracks last stamp colours []))
      (order_is_merged stamp (map behind colours)
      (λ l c. let x = made_of behind colours l (in_contains (map behind colours) l c) in
      subst AreRising x.2 (rising_filter (is_behind last) (line_at x.0) (rising x.0 x.1))))

  pub items_are : keys_of items ≡ filter (is_behind last) all_keys
  items_are =
      rising_same (keys_of items) (filter (is_behind last) all_keys) items_read.rising
      (rising_filter (is_behind last) all_keys all_read.rising)
      (λ k i.
      let r = items_read.no_other k (contains_in (keys_of items) k i) in
      let x = made_of behind colours r.1 (in_contains (map behind colours) r.1 r.2) in
      let f = in_filter (is_behind last) k (line_at x.0) (subst (In k) (sym x.2) (in_contains r.1 k r.3)) in
      in_filter-back (is_behind last) k all_keys
      (in_contains all_keys k
      (all_read.all (line_at x.0) k (contains_in (map line_at colours) (line_at x.0) (made_from line_at colours x.0 x.1))
      (contains_in (line_at x.0) k f.0) r.0)) f.1)
      (λ k i.
      let f = in_filter (is_behind last) k all_keys i in
      let r = all_read.no_other k (contains_in all_keys k f.0) in
      let x = made_of line_at colours r.1 (in_contains (map line_at colours) r.1 r.2) in
      in_contains (keys_of items) k
      (items_read.all (behind x.0) k (contains_in (map behind colours) (behind x.0) (made_from behind colours x.0 x.1))
      (contains_in (behind x.0) k (in_filter-back (is_behind last) k (line_at x.0)
      (subst (In k) (sym x.2) (in_contains r.1 k r.3)) f.1)) r.0))

  -- each item is of a line
  pub item_there : (i : PlacedNode) → In i items → (k : ℕ) × In k colours × In i (line_in (slice_get tracks k))
  item_there i j =
      let r = are.among i (contains_in items i j) in
      let x = made_of (λ k. part_of last stamp (line_in (slice_get tracks k))) colours r.0
      (in_contains (are_parts tracks last stamp colours) r.0 r.1) in
      let p = subst (In i) (sym x.2) (in_contains r.0 i r.2) in
      let f = in_filter (λ (y : PlacedNode). nat_le y.head.key.stamp stamp) i
      (filter (λ (y : PlacedNode). is_behind last y.head.key) (line_in (slice_get tracks x.0))) p in
      let g = in_filter (λ (y : PlacedNode). is_behind last y.head.key) i (line_in (slice_get tracks x.0)) f.0 in
      (x.0, x.1, g.0)

  pub items_shown : (log : Log) → ((i : PlacedNode) → In i items → IsAsAppended log i)
      → AllZip (ShowsItem log) (filter (is_behind last) all_keys) items
  items_shown log are = subst (λ (l : List Key). AllZip (ShowsItem log) l items) items_are (shown log items are)

-- with no last key these are all
pub none_behind : (keys : List Key) → filter (is_behind None) keys ≡ keys
none_behind [] = refl
none_behind (k ∷ keys) = ap (λ (l : List Key). k ∷ l) (none_behind keys)
