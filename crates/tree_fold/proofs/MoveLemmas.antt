-- A branch under its new paths: its values, and what it is to put it in and take the old one out.
use Rattle.std.proofs.Common.{◌≡◌, ℕ, ◌+◌, ◌<◌, ◌≤◌, Bool, true, false, cond, ◌||◌, List, [], ◌∷◌, ◌++◌, length, drop, take, map, Option, Some, None, inl, inr, refl, ap, sym, subst, ◌∙◌, arith, append_assoc, append-nil, length-append, add-one, get_or, zero, suc, ltb}
use Rattle.std.specs.Prelude.{IsTrue, filter}
use Rattle.std.specs.Ordering.{is_eq}
use Rattle.std.specs.List.{find, AllByRecursion}
use Rattle.std.specs.Map.{values_of}
use Rattle.std.specs.BTreeMap.{BTreeMap, values, get, Updates, UpdatesBy}
use Rattle.std.proofs.lemmas.Bool.{cases_Bool, both_ways, and_parts, ltb-true, ltb-false, eq-eqb, false_from_ne_true}
use Rattle.log_node.proofs.CallerLemmas.{or_false}
use Rattle.tree_fold.specs.declared.entries.Entry.{Entry}
use Rattle.tree_fold.specs.declared.places.Place.{Place}
use Rattle.tree_fold.specs.Paths.{Path, begins_with, goes_on_from, is_below_root, is_same}
use Rattle.tree_fold.specs.Trees.{value_in}
use Rattle.tree_fold.specs.Places.{has_place, place_of, place_cmp, IsBranch}
use Rattle.tree_fold.proofs.PlaceLemmas.{below}
use Rattle.tree_fold.proofs.EntryLemmas.{ArePlaced, put_values, same_sides, value_behind, value_here, value_later, value_of}
use Rattle.tree_fold.proofs.OrderLemmas.{begins_is, begins_self, same_is}

-- ---- entries that are put in, the last first

-- these are left of all that are to be put in; the others are in
pub record ArePut (left all : List Entry) (old new : BTreeMap Place Entry) : Type 0 where
  pub done : List Entry
  pub parts : left ++ done ≡ all
  pub values : (path : Path) → value_in (values new) path ≡ value_in (done ++ values old) path
  pub others : (place : Place) → has_place place (map (λ e. place_of e.path) done) ≡ false → get place_cmp new place ≡ get place_cmp old place

pub put_none : (all : List Entry) (old : BTreeMap Place Entry) → ArePut all all old old
put_none all old = record { done = []; parts = append-nil all; values = λ path. refl; others = λ place h. refl }

-- one more
pub put_one : (left rest all : List Entry) (e : Entry) (old m n : BTreeMap Place Entry) → rest ≡ left ++ e ∷ [] → ArePlaced m.entries → ArePlaced n.entries → IsTrue (is_below_root e.path)
    → Updates place_cmp m n (place_of e.path) (Some e) → ArePut rest all old m → ArePut left all old n
put_one left rest all e old m n split placed also root updates put = record {
  done = e ∷ put.done;
  parts = sym (append_assoc left (e ∷ []) put.done) ∙ ap (λ (l : List Entry). l ++ put.done) (sym split) ∙ put.parts;
  values = λ path. put_values m n e placed also root updates path ∙ value_behind path (e ∷ []) (values m) (put.done ++ values old) (put.values path);
  others = λ place h. others place h;
} where
  others : (place : Place) → is_eq (place_cmp (place_of e.path) place) || has_place place (map (λ (x : Entry). place_of x.path) put.done) ≡ false → get place_cmp n place ≡ get place_cmp old place
  others place h = elim (cases_Bool (is_eq (place_cmp (place_of e.path) place))) [
    | inl here ↦ let no = rw here at h in absurd cc
    | inr other ↦
        let got : get place_cmp n place ≡ get place_cmp m place = updates.0 place ∙ rw other refl in
        got ∙ put.others place (rw other at h)
  ]

-- ---- what is taken out

or_again : (a b c : Bool) → a || (b || c) ≡ (a || b) || c
or_again true b c = refl
or_again false b c = refl

has_one_more : (place : Place) (ps : List Place) (i : ℕ) (d : Place) → i < length ps → has_place place (take (i + 1) ps) ≡ has_place place (take i ps) || is_eq (place_cmp (get_or ps i d) place)
has_one_more place ps i d lt = ap (λ n. has_place place (take n ps)) (add-one i) ∙ by ps i lt where
  by : (ps : List Place) (i : ℕ) → i < length ps → has_place place (take (suc i) ps) ≡ has_place place (take i ps) || is_eq (place_cmp (get_or ps i d) place)
  by [] i lt = absurd (omega arith)
  by (p ∷ ps) zero lt = or_false (is_eq (place_cmp p place))
  by (p ∷ ps) (suc i) lt = ap (λ b. is_eq (place_cmp p place) || b) (by ps i (omega arith)) ∙ or_again (is_eq (place_cmp p place)) (has_place place (take i ps)) (is_eq (place_cmp (get_or ps i d) place))

pub out_one : (old m n : BTreeMap Place Entry) (ps : List Place) (i : ℕ) (d : Place) → i < length ps → UpdatesBy place_cmp (place_cmp (get_or ps i d)) m n None
    → ((place : Place) → get place_cmp m place ≡ cond (has_place place (take i ps)) None (get place_cmp old place))
    → (place : Place) → get place_cmp n place ≡ cond (has_place place (take (i + 1) ps)) None (get place_cmp old place)
out_one old m n ps i d lt updates out place =
    let here = is_eq (place_cmp (get_or ps i d) place) in
    updates.0 place ∙ ap (cond here None) (out place) ∙ both (has_place place (take i ps)) here (get place_cmp old place)
    ∙ ap (λ b. cond b None (get place_cmp old place)) (sym (has_one_more place ps i d lt)) where
      both : (a b : Bool) (o : Option Entry) → cond b None (cond a None o) ≡ cond (a || b) None o
      both true true o = refl
      both true false o = refl
      both false true o = refl
      both false false o = refl

-- ---- a branch, entry by entry

pub values_more : (es : List (Place × Entry)) (x : Place × Entry) → values_of (es ++ x ∷ []) ≡ values_of es ++ x.1 ∷ []
values_more [] x = refl
values_more (e ∷ es) x = ap (λ (l : List Entry). e.1 ∷ l) (values_more es x)

-- nothing goes on from a path of four names
pub none_below : (es : List (Place × Entry)) (path : Path) → ArePlaced es → 4 ≤ length path → filter (λ e. goes_on_from path e.1.path) es ≡ []
none_below [] path all long = refl
none_below (x ∷ es) path all long =
    let short : length x.1.path ≤ 4 = (below x.1.path all.0.0).few in
    let none : goes_on_from path x.1.path ≡ false = false_from_ne_true (goes_on_from path x.1.path) (λ h.
    let more = ltb-true (length path) (length x.1.path) (and_parts (begins_with path x.1.path) (ltb (length path) (length x.1.path)) h).1 in
    absurd (omega (arith, more, short))) in
    rw none (none_below es path all.1 long)

-- ---- for the loop that puts entries in

abbrev pub ArePaths : List Entry → Type 0
ArePaths es = AllByRecursion (λ e. IsTrue (is_below_root e.path)) es

pub all_parts : (es : List Entry) (e : Entry) → ArePaths (es ++ e ∷ []) → ArePaths es × IsTrue (is_below_root e.path)
all_parts [] e all = (tt, all.0)
all_parts (x ∷ es) e all = let later = all_parts es e all.1 in ((all.0, later.0), later.1)

pub done_apart : (place : Place) (left done all : List Entry) → left ++ done ≡ all → has_place place (map (λ e. place_of e.path) all) ≡ false → has_place place (map (λ e. place_of e.path) done) ≡ false
done_apart place left done all parts h = by left (rw (← parts) at h) where
  by : (xs : List Entry) → has_place place (map (λ (e : Entry). place_of e.path) (xs ++ done)) ≡ false → has_place place (map (λ (e : Entry). place_of e.path) done) ≡ false
  by [] h = h
  by (x ∷ xs) h = elim (cases_Bool (is_eq (place_cmp (place_of x.path) place))) [
    | inl here ↦ let no = rw here at h in absurd cc
    | inr other ↦ by xs (rw other at h)
  ]

-- ---- the branch of a path

paths_of : (t : Path → Bool) (es : List (Place × Entry)) → ArePlaced es → ArePaths (values_of (filter (λ e. t e.1.path) es))
paths_of t [] all = tt
paths_of t (x ∷ es) all = elim (cases_Bool (t x.1.path)) [ inl h ↦ rw h (all.0.0, paths_of t es all.1) | inr h ↦ rw h (paths_of t es all.1) ]

values_of_part : (t : Path → Bool) (es : List (Place × Entry)) (q : Path) → value_in (values_of (filter (λ e. t e.1.path) es)) q ≡ cond (t q) (value_in (values_of es) q) None
values_of_part t [] q = elim (cases_Bool (t q)) [ inl h ↦ rw h refl | inr h ↦ rw h refl ]
values_of_part t (x ∷ es) q =
    let later = values_of_part t es q in
    elim (cases_Bool (is_same q x.1.path)) [
      | inl here ↦
          let same : t x.1.path ≡ t q = ap t (sym (same_is q x.1.path here)) in
          elim (cases_Bool (t q)) [
            | inl h ↦ rw (same ∙ h, h) (value_here q x.1 (values_of (filter (λ e. t e.1.path) es)) here ∙ sym (value_here q x.1 (values_of es) here))
            | inr h ↦ rw (same ∙ h, h) (later ∙ rw h refl)
          ]
      | inr other ↦
          let rest : value_in (values_of (x ∷ es)) q ≡ value_in (values_of es) q = value_later q x.1 (values_of es) other in
          elim (cases_Bool (t x.1.path)) [
            | inl h ↦ rw (h, rest) (value_later q x.1 (values_of (filter (λ e. t e.1.path) es)) other ∙ later)
            | inr h ↦ rw (h, rest) later
          ]
    ]

begin_of : (source : Path) (es : List (Place × Entry)) → AllByRecursion (λ (e : Entry). begins_with source e.path ≡ true) (values_of (filter (λ e. goes_on_from source e.1.path) es))
begin_of source [] = tt
begin_of source (x ∷ es) = elim (cases_Bool (goes_on_from source x.1.path)) [
  | inl h ↦ rw h ((and_parts (begins_with source x.1.path) (ltb (length source) (length x.1.path)) h).0, begin_of source es)
  | inr h ↦ rw h (begin_of source es)
]

find_parts : (source : Path) (es : List (Place × Entry)) (e : Entry) → ArePlaced es → find (λ x. is_same source x.path) (values_of es) ≡ Some e → (is_same source e.path ≡ true) × IsTrue (is_below_root e.path)
find_parts source [] e all h = absurd cc
find_parts source (x ∷ es) e all h = elim (cases_Bool (is_same source x.1.path)) [
  | inl here ↦
      let it : x.1 ≡ e = let found = rw here at h in cc in
      subst (λ (y : Entry). (is_same source y.path ≡ true) × IsTrue (is_below_root y.path)) it (here, all.0.0)
  | inr other ↦ find_parts source es e all.1 (rw other at h)
]

ne_false : (b : Bool) → (b ≡ false → ⊥) → b ≡ true
ne_false true h = refl
ne_false false h = absurd (h refl)

-- a path that begins with another goes on from it, or is it
goes_or_same : (source q : Path) → begins_with source q ≡ true → goes_on_from source q ≡ false → is_same source q ≡ true
goes_or_same source q begins h =
    let short : length q ≤ length source = ltb-false (length source) (length q) (let tail = rw begins at h in tail) in
    let whole = begins_is source q begins in
    let size = ap length whole in
    let long : length source ≡ length q = omega (arith, size, short, length-append source (drop (length source) q)) in
    rw (begins, eq-eqb (length source) (length q) long) refl

module _ (m : BTreeMap Place Entry) (source : Path) (placed : ArePlaced m.entries) where
  abbrev Below : List Entry
  Below = values_of (filter (λ e. goes_on_from source e.1.path) m.entries)

  pub branch_found : (e : Entry) → find (λ x. is_same source x.path) (values m) ≡ Some e → IsBranch source (values m) (e ∷ Below)
  branch_found e h =
      let parts = find_parts source m.entries e placed h in
      let same = same_is source e.path parts.0 in
      record {
        paths = (parts.1, paths_of (goes_on_from source) m.entries placed);
        begin = (ap (begins_with source) (sym same) ∙ begins_self source, begin_of source m.entries);
        values = λ q begins. elim (cases_Bool (is_same q e.path)) [
          | inl here ↦
              let q_is : source ≡ q = same ∙ sym (same_is q e.path here) in
              value_here q e Below here ∙ sym (ap (λ (p : Path). value_in (values m) p) (sym q_is) ∙ ap value_of h)
          | inr other ↦
              let on : goes_on_from source q ≡ true =
              ne_false (goes_on_from source q) (λ none. both_ways (is_same q e.path) other (ap (λ (p : Path). is_same q p) (sym same) ∙ same_sides q source ∙ goes_or_same source q begins none)) in
              value_later q e Below other ∙ values_of_part (goes_on_from source) m.entries q ∙ rw on refl
        ];
      }

  pub branch_alone : find (λ x. is_same source x.path) (values m) ≡ None → IsBranch source (values m) Below
  branch_alone h = record {
    paths = paths_of (goes_on_from source) m.entries placed;
    begin = begin_of source m.entries;
    values = λ q begins. elim (cases_Bool (goes_on_from source q)) [
      | inl on ↦ values_of_part (goes_on_from source) m.entries q ∙ rw on refl
      | inr none ↦
          let q_is = same_is source q (goes_or_same source q begins none) in
          values_of_part (goes_on_from source) m.entries q ∙ rw none (sym (ap (λ (p : Path). value_in (values m) p) (sym q_is) ∙ ap value_of h))
    ];
  }
