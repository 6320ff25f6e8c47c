-- Entries at their places: the values of paths, the entries that go on from one, and entries that are put in and taken out.
use Rattle.std.proofs.Common.{◌≡◌, ℕ, ◌≤◌, Bool, true, false, cond, ◌&&◌, ◌||◌, eqb, ltb, suc, List, [], ◌∷◌, ◌++◌, length, map, Option, Some, None, Ordering, Less, Equal, Greater, inl, inr, refl, ap, sym, subst, ◌∙◌, arith}
use Rattle.std.specs.Prelude.{IsTrue, filter}
use Rattle.std.specs.Ordering.{nat_cmp, is_eq}
use Rattle.std.specs.Cmp.Lexicographic.{slice_cmp}
use Rattle.std.specs.Str.{bytes_eq}
use Rattle.std.specs.Option.{option_map}
use Rattle.std.specs.List.{find, list_any, AllByRecursion}
use Rattle.std.specs.List.Sorted.{IsStrictlySortedBy}
use Rattle.std.specs.Map.{values_of, keys_of, lookup, remove_entry}
use Rattle.std.specs.BTreeMap.{BTreeMap, values, get, is_at, insert_entry, Updates, UpdatesBy}
use Rattle.std.specs.BTreeMap.Range.{entries_between}
use Rattle.std.specs.declared.ops.Bound.TheVariants.{Included, Excluded}
use Rattle.std.proofs.lemmas.Bool.{cases_Bool, and_parts, both_ways, false_from_ne_true, eqb-true, le-leb, ltb-true}
use Rattle.tree_fold.specs.declared.entries.Entry.{Entry}
use Rattle.tree_fold.specs.declared.places.Place.{Place}
use Rattle.tree_fold.specs.Paths.{Path, begins_with, goes_on_from, is_path, is_same, is_below_root, parent_of}
use Rattle.tree_fold.specs.Trees.{value_in, NamesRise}
use Rattle.tree_fold.specs.Places.{own_name, place_of, place_cmp, is_child, IsPlaced}
use Rattle.tree_fold.proofs.OrderLemmas.{same_is, same_self, same_turned}
use Rattle.tree_fold.proofs.PlaceLemmas.{below, place_exact, place_same, child_order, child_named, is_between, parent_short}

-- ---- values

pub value_here : (q : Path) (e : Entry) (es : List Entry) → is_same q e.path ≡ true → value_in (e ∷ es) q ≡ Some e.value
value_here q e es h = rw h refl

pub value_later : (q : Path) (e : Entry) (es : List Entry) → is_same q e.path ≡ false → value_in (e ∷ es) q ≡ value_in es q
value_later q e es h = rw h refl

pub value_behind : (q : Path) (xs ys zs : List Entry) → value_in ys q ≡ value_in zs q → value_in (xs ++ ys) q ≡ value_in (xs ++ zs) q
value_behind q [] ys zs h = h
value_behind q (x ∷ xs) ys zs h = elim (cases_Bool (is_same q x.path)) [
  | inl here ↦ value_here q x (xs ++ ys) here ∙ sym (value_here q x (xs ++ zs) here)
  | inr later ↦ value_later q x (xs ++ ys) later ∙ value_behind q xs ys zs h ∙ sym (value_later q x (xs ++ zs) later)
]

pub same_sides : (p q : Path) → is_same p q ≡ is_same q p
same_sides p q = elim (cases_Bool (is_same p q)) [
  | inl h ↦ h ∙ sym (ap (λ (l : Path). is_same l p) (sym (same_is p q h)) ∙ same_self p)
  | inr h ↦ h ∙ sym (same_turned p q h)
]

-- ---- entries at their places

abbrev pub Kept : Type 0
Kept = List (Place × Entry)

abbrev pub ArePlaced : Kept → Type 0
ArePlaced es = AllByRecursion IsPlaced es

-- the entry of a path is what stands at its place
pub found : (es : Kept) (p : Path) → ArePlaced es → IsTrue (is_below_root p) → find (λ e. is_same p e.path) (values_of es) ≡ lookup (is_at (place_cmp (place_of p))) es
found [] p all h = refl
found (x ∷ es) p all h =
    let same : is_eq (place_cmp (place_of p) x.0) ≡ is_same p x.1.path = ap (λ (k : Place). is_eq (place_cmp (place_of p) k)) all.0.1 ∙ place_same p x.1.path h all.0.0 in
    elim (cases_Bool (is_same p x.1.path)) [
      | inl here ↦ rw (same ∙ here, here) refl
      | inr later ↦ rw (same ∙ later, later) (found es p all.1 h)
    ]

-- a path that is not below the root has no entry
pub found_none : (es : Kept) (p : Path) → ArePlaced es → is_below_root p ≡ false → find (λ e. is_same p e.path) (values_of es) ≡ None
found_none [] p all h = refl
found_none (x ∷ es) p all h =
    let apart : is_same p x.1.path ≡ false = false_from_ne_true (is_same p x.1.path) (λ same. both_ways (is_below_root p) h (ap is_below_root (same_is p x.1.path same) ∙ all.0.0)) in
    rw apart (found_none es p all.1 h)

pub empty_root : (p : Path) → true ≡ eqb (length p) 0 → is_below_root p ≡ false
empty_root [] h = refl
empty_root (n ∷ p) h = let size = eqb-true (suc (length p)) 0 (sym h) in absurd (omega (arith, size))

pub below_if : (p : Path) → is_path p ≡ true → false ≡ eqb (length p) 0 → is_below_root p ≡ true
below_if [] path h = absurd cc
below_if (n ∷ p) path h = rw (le-leb 1 (suc (length p)) (omega arith), path) refl

abbrev pub value_of : Option Entry → Option (List ℕ)
value_of o = option_map (λ (e : Entry). e.value) o

pub value_at : (m : BTreeMap Place Entry) (p : Path) → ArePlaced m.entries → IsTrue (is_below_root p) → value_in (values m) p ≡ value_of (get place_cmp m (place_of p))
value_at m p all h = ap value_of (found m.entries p all h)

pub value_none : (m : BTreeMap Place Entry) (p : Path) → ArePlaced m.entries → is_below_root p ≡ false → value_in (values m) p ≡ None
value_none m p all h = ap value_of (found_none m.entries p all h)

-- ---- one more entry, and one less

pub placed_put : (es : Kept) (k : Place) (e : Entry) → ArePlaced es → IsPlaced (k, e) → ArePlaced (insert_entry place_cmp es k e)
placed_put [] k e all is = (is, tt)
placed_put (x ∷ es) k e all is = by (place_cmp k x.0) refl (placed_put es k e all.1 is) where
  by : (o : Ordering) → place_cmp k x.0 ≡ o → ArePlaced (insert_entry place_cmp es k e) → ArePlaced (insert_entry place_cmp (x ∷ es) k e)
  by Less h later = rw h (is, all)
  by Equal h later = rw h (subst (λ (l : Place). IsPlaced (l, e)) (place_exact k x.0 h) is, all.1)
  by Greater h later = rw h (all.0, later)

pub placed_out : (es : Kept) (test : Place → Bool) → ArePlaced es → ArePlaced (remove_entry test es)
placed_out [] test all = tt
placed_out (x ∷ es) test all = elim (cases_Bool (test x.0)) [ inl h ↦ rw h all.1 | inr h ↦ rw h (all.0, placed_out es test all.1) ]

pub put_values : (m n : BTreeMap Place Entry) (e : Entry) → ArePlaced m.entries → ArePlaced n.entries → IsTrue (is_below_root e.path) → Updates place_cmp m n (place_of e.path) (Some e)
    → (q : Path) → value_in (values n) q ≡ value_in (e ∷ values m) q
put_values m n e all also is updates q = elim (cases_Bool (is_below_root q)) [
  | inl root ↦
      let same : is_eq (place_cmp (place_of e.path) (place_of q)) ≡ is_same q e.path = place_same e.path q is root ∙ same_sides e.path q in
      let got : get place_cmp n (place_of q) ≡ cond (is_same q e.path) (Some e) (get place_cmp m (place_of q)) =
      updates.0 (place_of q) ∙ ap (λ b. cond b (Some e) (get place_cmp m (place_of q))) same in
      value_at n q also root ∙ ap value_of got ∙ elim (cases_Bool (is_same q e.path)) [
        | inl here ↦ rw here refl
        | inr later ↦ rw later (sym (value_at m q all root))
      ]
  | inr other ↦
      let apart : is_same q e.path ≡ false = false_from_ne_true (is_same q e.path) (λ same. both_ways (is_below_root q) other (ap is_below_root (same_is q e.path same) ∙ is)) in
      value_none n q also other ∙ sym (value_later q e (values m) apart ∙ value_none m q all other)
]

pub out_values : (m n : BTreeMap Place Entry) (p : Path) → ArePlaced m.entries → ArePlaced n.entries → IsTrue (is_below_root p) → UpdatesBy place_cmp (place_cmp (place_of p)) m n None
    → (q : Path) → value_in (values n) q ≡ cond (is_same p q) None (value_in (values m) q)
out_values m n p all also is updates q = elim (cases_Bool (is_below_root q)) [
  | inl root ↦
      let got : get place_cmp n (place_of q) ≡ cond (is_same p q) None (get place_cmp m (place_of q)) =
      updates.0 (place_of q) ∙ ap (λ b. cond b None (get place_cmp m (place_of q))) (place_same p q is root) in
      value_at n q also root ∙ ap value_of got ∙ elim (cases_Bool (is_same p q)) [
        | inl here ↦ rw here refl
        | inr later ↦ rw later (sym (value_at m q all root))
      ]
  | inr other ↦ value_none n q also other ∙ elim (cases_Bool (is_same p q)) [
    | inl here ↦ rw here refl
    | inr later ↦ rw later (sym (value_none m q all other))
  ]
]

-- ---- what lies between two places

pub between_is : (es : Kept) (low high : Place) (t : Path → Bool) → ArePlaced es → ((q : Path) → IsTrue (is_below_root q) → is_between low high (place_of q) ≡ t q)
    → entries_between place_cmp (Included low) (Excluded high) es ≡ filter (λ e. t e.1.path) es
between_is [] low high t all same = refl
between_is (x ∷ es) low high t all same =
    let here : is_between low high x.0 ≡ t x.1.path = ap (is_between low high) all.0.1 ∙ same x.1.path all.0.0 in
    elim (cases_Bool (t x.1.path)) [
      | inl h ↦ rw (here ∙ h, h) (ap (λ (l : Kept). x ∷ l) (between_is es low high t all.1 same))
      | inr h ↦ rw (here ∙ h, h) (between_is es low high t all.1 same)
    ]

-- a test of entries, by the part that passes another test
pub any_part : (es : Kept) (t : Path → Bool) (f g : Path → Bool) → ArePlaced es → ((q : Path) → IsTrue (is_below_root q) → t q && f q ≡ g q)
    → list_any (λ e. f e.1.path) (filter (λ e. t e.1.path) es) ≡ list_any (λ e. g e.path) (values_of es)
any_part [] t f g all same = refl
any_part (x ∷ es) t f g all same =
    let here : t x.1.path && f x.1.path ≡ g x.1.path = same x.1.path all.0.0 in
    elim (cases_Bool (t x.1.path)) [
      | inl h ↦ rw (h, ← here, h) (ap (λ b. f x.1.path || b) (any_part es t f g all.1 same))
      | inr h ↦ rw (h, ← here, h) (any_part es t f g all.1 same)
    ]

-- no entry passes a test that no path below the root does
pub any_none : (es : Kept) (g : Path → Bool) → ArePlaced es → ((q : Path) → IsTrue (is_below_root q) → g q ≡ false) → list_any (λ e. g e.path) (values_of es) ≡ false
any_none [] g all none = refl
any_none (x ∷ es) g all none = rw (none x.1.path all.0.0) (any_none es g all.1 none)

-- ---- children

pub any_child : (es : Kept) (front : Path) (name : List ℕ) → ArePlaced es
    → list_any (bytes_eq name) (map (λ e. own_name e.1.path) (filter (λ e. is_child front e.1.path) es)) ≡ list_any (λ e. is_same (front ++ name ∷ []) e.path) (values_of es)
any_child es front name all =
    any_mapped (filter (λ e. is_child front e.1.path) es)
    ∙ any_part es (is_child front) (λ q. bytes_eq name (own_name q)) (is_same (front ++ name ∷ [])) all (λ q root. child_named front name q (below q root).some) where
      any_mapped : (xs : Kept) → list_any (bytes_eq name) (map (λ e. own_name e.1.path) xs) ≡ list_any (λ e. bytes_eq name (own_name e.1.path)) xs
      any_mapped [] = refl
      any_mapped (x ∷ xs) = ap (λ b. bytes_eq name (own_name x.1.path) || b) (any_mapped xs)

module _ (front : Path) where
  abbrev pub children : Kept → Kept
  children es = filter (λ e. is_child front e.1.path) es

  abbrev pub names_of : Kept → List (List ℕ)
  names_of es = map (λ e. own_name e.1.path) es

  names_over : (x : Place × Entry) (es : Kept) → IsPlaced x → is_child front x.1.path ≡ true → ArePlaced es → AllByRecursion (λ k. place_cmp x.0 k ≡ Less) (keys_of es)
      → AllByRecursion (λ other. slice_cmp nat_cmp (own_name x.1.path) other ≡ Less) (names_of (children es))
  names_over x [] is h all over = tt
  names_over x (y ∷ es) is h all over = elim (cases_Bool (is_child front y.1.path)) [
    | inl k ↦
        let less : slice_cmp nat_cmp (own_name x.1.path) (own_name y.1.path) ≡ Less =
        sym (child_order front x.1.path y.1.path is.0 all.0.0 h k) ∙ ap (λ (p : Place). place_cmp p (place_of y.1.path)) (sym is.1) ∙ ap (place_cmp x.0) (sym all.0.1) ∙ over.0 in
        rw k (less, names_over x es is h all.1 over.1)
    | inr k ↦ rw k (names_over x es is h all.1 over.1)
  ]

  pub children_rise : (es : Kept) → ArePlaced es → IsStrictlySortedBy place_cmp (keys_of es) → NamesRise (names_of (children es))
  unfolding IsStrictlySortedBy
  children_rise [] all sorted = tt
  children_rise (x ∷ es) all sorted = elim (cases_Bool (is_child front x.1.path)) [
    | inl h ↦ rw h (names_over x es all.0 h all.1 sorted.0, children_rise es all.1 sorted.1)
    | inr h ↦ rw h (children_rise es all.1 sorted.1)
  ]

-- ---- paths of four names

-- nothing goes on from them
pub long_none : (front q : Path) → 4 ≤ length front → IsTrue (is_below_root q) → goes_on_from front q ≡ false
long_none front q long root = false_from_ne_true (goes_on_from front q) (λ h.
    let more = ltb-true (length front) (length q) (and_parts (begins_with front q) (ltb (length front) (length q)) h).1 in
    let few = (below q root).few in
    absurd (omega (arith, more, few)))

pub long_deeper : (es : Kept) (front : Path) (t : Path → Bool) → ArePlaced es → 4 ≤ length front → list_any (λ e. goes_on_from front e.path && t e.path) (values_of es) ≡ false
long_deeper es front t all long = any_none es (λ q. goes_on_from front q && t q) all (λ q root. rw (long_none front q long root) refl)

pub long_children : (es : Kept) (front : Path) → ArePlaced es → 4 ≤ length front → filter (λ e. is_child front e.1.path) es ≡ []
long_children [] front all long = refl
long_children (x ∷ es) front all long =
    let none : is_child front x.1.path ≡ false = false_from_ne_true (is_child front x.1.path) (λ h.
    let root = below x.1.path all.0.0 in
    let size = ap length (same_is front (parent_of x.1.path) h) in
    let short = parent_short x.1.path root.some in
    let few = root.few in
    absurd (omega (arith, size, short, few, long))) in
    rw none (long_children es front all.1 long)
