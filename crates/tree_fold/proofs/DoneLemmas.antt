-- Changes done on entries: they have the values that the change makes of a tree, and are kept.
use Rattle.std.proofs.Common.{◌≡◌, ℕ, ◌+◌, ◌-◌, ◌≤◌, Bool, true, false, cond, ◌&&◌, ◌||◌, ltb, List, [], ◌∷◌, ◌++◌, length, drop, map, Option, Some, None, inl, inr, refl, ap, sym, ◌∙◌, arith, length-append, length-drop, zero, suc}
use Rattle.std.specs.Prelude.{IsTrue}
use Rattle.std.specs.Ordering.{is_eq}
use Rattle.std.specs.Option.{is_some}
use Rattle.std.specs.List.{list_any, list_all, AllByRecursion}
use Rattle.std.specs.Map.{values_of}
use Rattle.std.specs.BTreeMap.{BTreeMap, IsOrdered, values, get, Updates, UpdatesBy}
use Rattle.std.proofs.lemmas.Bool.{cases_Bool, and_parts, both_ways, false_from_ne_true, ltb-true, ltb-false, lt-ltb, le-leb}
use Rattle.std.proofs.lemmas.List.Folds.{list_all-append}
use Rattle.std.proofs.lemmas.Map.Lookups.{btree_map_from_get}
use Rattle.tree_fold.specs.declared.entries.Entry.{Entry}
use Rattle.tree_fold.specs.declared.places.Place.{Place}
use Rattle.tree_fold.specs.declared.moving.Moved.{Moved}
use Rattle.tree_fold.specs.declared.change.Change.{Change}
use Rattle.tree_fold.specs.declared.change.Change.TheVariants.{Make, Remove, Move}
use Rattle.tree_fold.specs.Paths.{Path, begins_with, goes_on_from, is_name, is_same, is_below_root}
use Rattle.tree_fold.specs.Trees.{value_in, has_more, moved_path, is_too_deep, why, changed}
use Rattle.tree_fold.specs.Places.{place_of, place_cmp, has_place, renamed, AreMoved, IsBranch, AreTreeEntries, MakesChange}
use Rattle.tree_fold.proofs.OrderLemmas.{begins_front, same_is}
use Rattle.tree_fold.proofs.PlaceLemmas.{below, place_total, place_exact, place_same, equal_order}
use Rattle.tree_fold.proofs.EntryLemmas.{ArePlaced, value_at, value_none, value_of, value_here, value_later, put_values, out_values, same_sides}
use Rattle.tree_fold.proofs.TreeLemmas.{alike, NoneBegins, any_there, there_any, may_move, value_removed, value_moved, value_of_moved}
use Rattle.tree_fold.proofs.MoveLemmas.{ArePaths}
use Rattle.tree_fold.proofs.ClosedLemmas.{any_false, none_begins, closed_same, closed_changed}

-- entries at their places with the values that a change makes are what it does
pub does : (m n : BTreeMap Place Entry) (change : Change) → AreTreeEntries m.entries → why (values m) change ≡ None → ArePlaced n.entries → IsOrdered place_cmp n
    → ((q : Path) → value_in (values n) q ≡ value_in (changed (values m) change) q) → MakesChange m.entries n.entries change
does m n change kept done placed ordered same =
    record {
      kept = record {
        ordered = ordered;
        placed = placed;
        closed = closed_same (changed (values m) change) (values n) (λ q. sym (same q)) (closed_changed (values m) change kept.closed done);
      };
      values = same;
    }

pub make_does : (m n : BTreeMap Place Entry) (p : Path) (value : List ℕ) → AreTreeEntries m.entries → IsTrue (is_below_root p) → why (values m) (Make p value) ≡ None → ArePlaced n.entries → IsOrdered place_cmp n
    → Updates place_cmp m n (place_of p) (Some (record { path = p; value = value })) → MakesChange m.entries n.entries (Make p value)
make_does m n p value kept root done placed ordered updates =
    does m n (Make p value) kept done placed ordered (put_values m n (record { path = p; value = value }) kept.placed placed root updates)

pub remove_does : (m n : BTreeMap Place Entry) (p : Path) → AreTreeEntries m.entries → IsTrue (is_below_root p) → why (values m) (Remove p) ≡ None → ArePlaced n.entries → IsOrdered place_cmp n
    → UpdatesBy place_cmp (place_cmp (place_of p)) m n None → MakesChange m.entries n.entries (Remove p)
remove_does m n p kept root done placed ordered updates =
    does m n (Remove p) kept done placed ordered (λ q. out_values m n p kept.placed placed root updates q ∙ sym (value_removed p (values m) q))

-- ---- a branch

-- entries with the values of others where these begin with a path
value_append : (q : Path) (xs ys : List Entry) → value_in (xs ++ ys) q ≡ cond (is_some (value_in xs q)) (value_in xs q) (value_in ys q)
value_append q [] ys = refl
value_append q (x ∷ xs) ys = elim (cases_Bool (is_same q x.path)) [
  | inl here ↦ value_here q x (xs ++ ys) here ∙ sym (rw (value_here q x xs here) refl)
  | inr later ↦ value_later q x (xs ++ ys) later ∙ value_append q xs ys ∙ sym (rw (value_later q x xs later) refl)
]

-- what has a value passes a test that all do
there_passes : (t : Path → Bool) (es : List Entry) (q : Path) → AllByRecursion (λ (e : Entry). t e.path ≡ true) es → is_some (value_in es q) ≡ true → t q ≡ true
there_passes t [] q all some = absurd cc
there_passes t (x ∷ es) q all some = elim (cases_Bool (is_same q x.path)) [
  | inl here ↦ ap t (same_is q x.path here) ∙ all.0
  | inr later ↦ there_passes t es q all.1 (ap is_some (sym (value_later q x es later)) ∙ some)
]

none_there : (t : Path → Bool) (es : List Entry) (q : Path) → AllByRecursion (λ (e : Entry). t e.path ≡ true) es → t q ≡ false → value_in es q ≡ None
none_there t es q all h = by (value_in es q) refl where
  by : (o : Option (List ℕ)) → value_in es q ≡ o → value_in es q ≡ None
  by None e = e
  by (Some v) e = absurd (both_ways (t q) h (there_passes t es q all (ap is_some e)))

module _ (source target : Path) (tree branch : List Entry) (is : IsBranch source tree branch) where
  -- what no entry of the tree that begins with the source passes, none of the branch does
  branch_none : (t : Path → Bool) → list_any (λ (e : Entry). begins_with source e.path && t e.path) tree ≡ false → list_any (λ (e : Entry). t e.path) branch ≡ false
  branch_none t h = false_from_ne_true (list_any (λ (e : Entry). t e.path) branch) (λ any.
      let q = any_there t branch any in
      let begins : begins_with source q.0 ≡ true = there_passes (begins_with source) branch q.0 is.begin q.2 in
      let some : is_some (value_in tree q.0) ≡ true = ap is_some (sym (is.values q.0 begins)) ∙ q.2 in
      both_ways (list_any (λ (e : Entry). begins_with source e.path && t e.path) tree) h (there_any (λ p. begins_with source p && t p) tree q.0 (rw (begins, q.1) refl) some))

  -- its entries under their new paths, as the move makes them of the branch alone
  moved_is : map (renamed (length source) target) branch ≡ changed branch (Move source target)
  moved_is = by branch is.begin where
    by : (es : List Entry) → AllByRecursion (λ (e : Entry). begins_with source e.path ≡ true) es → map (renamed (length source) target) es ≡ changed es (Move source target)
    by [] all = refl
    by (x ∷ es) all = rw all.0 (ap (λ (l : List Entry). renamed (length source) target x ∷ l) (by es all.1))

  module _ (none : NoneBegins target tree) where
    target_none : list_any (λ (e : Entry). begins_with target e.path) branch ≡ false
    target_none = branch_none (begins_with target) (by tree none) where
      by : (es : List Entry) → NoneBegins target es → list_any (λ (e : Entry). begins_with source e.path && begins_with target e.path) es ≡ false
      by [] all = refl
      by (x ∷ es) all = elim (cases_Bool (begins_with source x.path)) [ inl h ↦ rw (h, all.0) (by es all.1) | inr h ↦ rw h (by es all.1) ]

    branch_begins : NoneBegins target branch
    branch_begins = any_false (λ (e : Entry). begins_with target e.path) branch target_none

    -- the tree with the branch put in and the old one left out
    pub swapped : (q : Path) → cond (is_some (value_in branch q)) None (value_in (map (renamed (length source) target) branch ++ tree) q) ≡ value_moved source target tree q
    swapped q =
        let moved = map (renamed (length source) target) branch in
        let rest = drop (length target) q in
        let put : value_in moved q ≡ value_moved source target branch q = ap (λ (l : List Entry). value_in l q) moved_is ∙ value_of_moved source target branch q branch_begins in
        let whole = value_append q moved tree in
        elim (cases_Bool (begins_with target q)) [
          | inl begins ↦
              let out : value_in branch q ≡ None = absent branch branch_begins q begins in
              let gone : value_in tree q ≡ None = absent tree none q begins in
              let there : value_in moved q ≡ value_in tree (source ++ rest) = put ∙ rw begins (is.values (source ++ rest) (begins_front source rest)) in
              rw (out, begins) (whole ∙ ap (λ o. cond (is_some o) o (value_in tree q)) there ∙ ap (cond (is_some (value_in tree (source ++ rest))) (value_in tree (source ++ rest))) gone ∙ or_none (value_in tree (source ++ rest)))
          | inr apart ↦ elim (cases_Bool (begins_with source q)) [
            | inl from ↦
                let there : value_in moved q ≡ None = put ∙ rw (apart, from) refl in
                let same : value_in branch q ≡ value_in tree q = is.values q from in
                let all : value_in (moved ++ tree) q ≡ value_in tree q = whole ∙ rw there refl in
                rw (apart, from, same, all) (none_kept (value_in tree q))
            | inr other ↦
                let out : value_in branch q ≡ None = none_there (begins_with source) branch q is.begin other in
                let there : value_in moved q ≡ None = put ∙ rw (apart, other) out in
                rw (out, apart, other) (whole ∙ rw there refl)
          ]
        ] where
          absent : (es : List Entry) → NoneBegins target es → (p : Path) → begins_with target p ≡ true → value_in es p ≡ None
          absent [] all p h = refl
          absent (x ∷ es) all p h =
              let other : is_same p x.path ≡ false = false_from_ne_true (is_same p x.path) (λ same. both_ways (begins_with target x.path) all.0 (ap (begins_with target) (sym (same_is p x.path same)) ∙ h)) in
              value_later p x es other ∙ absent es all.1 p h

          or_none : (o : Option (List ℕ)) → cond (is_some o) o None ≡ o
          or_none None = refl
          or_none (Some v) = refl

          none_kept : (o : Option (List ℕ)) → cond (is_some o) None o ≡ None
          none_kept None = refl
          none_kept (Some v) = refl

-- ---- places of a branch

pub has_path : (es : List Entry) (q : Path) → ArePaths es → IsTrue (is_below_root q) → has_place (place_of q) (map (λ e. place_of e.path) es) ≡ is_some (value_in es q)
has_path [] q all root = refl
has_path (x ∷ es) q all root =
    let same : is_eq (place_cmp (place_of x.path) (place_of q)) ≡ is_same q x.path = place_same x.path q all.0 root ∙ same_sides x.path q in
    elim (cases_Bool (is_same q x.path)) [
      | inl here ↦ rw (same ∙ here) (sym (ap is_some (value_here q x es here)))
      | inr later ↦ rw (same ∙ later) (has_path es q all.1 root ∙ sym (ap is_some (value_later q x es later)))
    ]

-- ---- a branch that was put in is left out again

pub undone : (old mid new : BTreeMap Place Entry) (ps : List Place) → IsOrdered place_cmp old → IsOrdered place_cmp new
    → ((place : Place) → has_place place ps ≡ true → get place_cmp old place ≡ None)
    → ((place : Place) → has_place place ps ≡ false → get place_cmp mid place ≡ get place_cmp old place)
    → ((place : Place) → get place_cmp new place ≡ cond (has_place place ps) None (get place_cmp mid place)) → new.entries ≡ old.entries
undone old mid new ps ordered also free others out =
    btree_map_from_get place_total new old also ordered (λ place. elim (cases_Bool (has_place place ps)) [
      | inl among ↦ out place ∙ rw among (sym (free place among))
      | inr other ↦ out place ∙ rw other (others place other)
    ]) place_exact

-- ---- a path that is moved

-- a branch under its new paths has places that are free
pub free_places : (m : BTreeMap Place Entry) (target : Path) (es : List Entry) → ArePlaced m.entries → NoneBegins target (values m) → ArePaths es → AllByRecursion (λ (e : Entry). begins_with target e.path ≡ true) es
    → (place : Place) → has_place place (map (λ e. place_of e.path) es) ≡ true → get place_cmp m place ≡ None
free_places m target [] placed none paths begin place h = absurd cc
free_places m target (x ∷ es) placed none paths begin place h = elim (cases_Bool (is_eq (place_cmp (place_of x.path) place))) [
  | inl here ↦
      let it : place_of x.path ≡ place = place_exact (place_of x.path) place (equal_order (place_cmp (place_of x.path) place) here) in
      let gone : value_of (get place_cmp m (place_of x.path)) ≡ None = sym (value_at m x.path placed paths.0) ∙ absent (values m) none in
      ap (get place_cmp m) (sym it) ∙ no_value (get place_cmp m (place_of x.path)) gone
  | inr other ↦ free_places m target es placed none paths.1 begin.1 place (rw other at h)
] where
  no_value : (o : Option Entry) → value_of o ≡ None → o ≡ None
  no_value None e = refl
  no_value (Some v) e = absurd cc

  absent : (t : List Entry) → NoneBegins target t → value_in t x.path ≡ None
  absent [] all = refl
  absent (y ∷ t) all =
      let apart : is_same x.path y.path ≡ false = false_from_ne_true (is_same x.path y.path) (λ same. both_ways (begins_with target y.path) all.0 (ap (begins_with target) (sym (same_is x.path y.path same)) ∙ begin.0)) in
      value_later x.path y t apart ∙ absent t all.1

drop_names : (n : ℕ) (path : Path) → list_all is_name path ≡ true → list_all is_name (drop n path) ≡ true
drop_names zero path all = all
drop_names (suc n) [] all = refl
drop_names (suc n) (x ∷ path) all = drop_names n path (and_parts (is_name x) (list_all is_name path) all).1

below_of : (path : Path) → 1 ≤ length path → length path ≤ 4 → list_all is_name path ≡ true → is_below_root path ≡ true
below_of path some few names = rw (le-leb 1 (length path) some, le-leb (length path) 4 few, names) refl

not_more : (n : ℕ) → ltb 4 n ≡ false → n ≤ 4
not_more n h = ltb-false 4 n h

pub moved_paths : (source target : Path) (tree branch : List Entry) → IsTrue (is_below_root target) → is_too_deep tree source target ≡ false → IsBranch source tree branch → ArePaths (map (renamed (length source) target) branch)
moved_paths source target tree branch root shallow is =
    let low = below target root in
    let none = branch_none source target tree branch is (λ p. ltb 4 (length (moved_path source target p))) shallow in
    by branch is.paths is.begin (any_false (λ (e : Entry). ltb 4 (length (moved_path source target e.path))) branch none) where
      by : (es : List Entry) → ArePaths es → AllByRecursion (λ (e : Entry). begins_with source e.path ≡ true) es → AllByRecursion (λ (e : Entry). ltb 4 (length (moved_path source target e.path)) ≡ false) es
          → ArePaths (map (renamed (length source) target) es)
      by [] paths begin few = tt
      by (x ∷ es) paths begin few = (one x paths.0 begin.0 few.0, by es paths.1 begin.1 few.1) where
        one : (e : Entry) → IsTrue (is_below_root e.path) → begins_with source e.path ≡ true → ltb 4 (length (moved_path source target e.path)) ≡ false → IsTrue (is_below_root (target ++ drop (length source) e.path))
        one e path begins short =
            let is_target = below target root in
            let rest = drop (length source) e.path in
            let size : length (moved_path source target e.path) ≡ length (target ++ rest) = rw begins refl in
            let few : length (target ++ rest) ≤ 4 = not_more (length (target ++ rest)) (rw size at short) in
            below_of (target ++ rest) (let some = is_target.some in omega (arith, length-append target rest, some)) few
            (list_all-append is_name target rest ∙ rw (is_target.names, drop_names (length source) e.path (below e.path path).names) refl)

pub renamed_begin : (count : ℕ) (target : Path) (es : List Entry) → AllByRecursion (λ (e : Entry). begins_with target e.path ≡ true) (map (renamed count target) es)
renamed_begin count target [] = tt
renamed_begin count target (x ∷ es) = (begins_front target (drop count x.path), renamed_begin count target es)

pub target_absent : (m : BTreeMap Place Entry) (source target : Path) → AreTreeEntries m.entries → why (values m) (Move source target) ≡ None → NoneBegins target (values m)
target_absent m source target kept done = none_begins (values m) target kept.closed (may_move (values m) source target done).absent

spread : (b : Bool) (o : Option Entry) → value_of (cond b None o) ≡ cond b None (value_of o)
spread true o = refl
spread false o = refl

none_either : (b : Bool) (o : Option (List ℕ)) → o ≡ None → cond b None o ≡ None
none_either true o e = refl
none_either false o e = e

pub move_does : (old mid new : BTreeMap Place Entry) (source target : Path) (branch : List Entry) (moved : Moved) → AreTreeEntries old.entries → why (values old) (Move source target) ≡ None
    → ArePlaced mid.entries → ArePlaced new.entries → IsOrdered place_cmp new → IsBranch source (values old) branch → AreMoved (length source) target branch moved
    → ((path : Path) → value_in (values mid) path ≡ value_in (moved.entries.items ++ values old) path)
    → ((place : Place) → get place_cmp new place ≡ cond (has_place place moved.places.items) None (get place_cmp mid place)) → MakesChange old.entries new.entries (Move source target)
move_does old mid new source target branch moved kept done placed also ordered is are put out =
    let none = target_absent old source target kept done in
    let tree = values old in
    let all = map (renamed (length source) target) branch in
    does old new (Move source target) kept done also ordered (λ q.
    value q ∙ swapped source target tree branch is none q ∙ sym (value_of_moved source target tree q none)) where
      value : (q : Path) → value_in (values new) q ≡ cond (is_some (value_in branch q)) None (value_in (map (renamed (length source) target) branch ++ values old) q)
      value q = elim (cases_Bool (is_below_root q)) [
        | inl root ↦
            let has : has_place (place_of q) moved.places.items ≡ is_some (value_in branch q) = ap (has_place (place_of q)) are.places ∙ has_path branch q is.paths root in
            value_at new q also root ∙ ap value_of (out (place_of q) ∙ ap (λ b. cond b None (get place_cmp mid (place_of q))) has)
            ∙ spread (is_some (value_in branch q)) (get place_cmp mid (place_of q))
            ∙ ap (cond (is_some (value_in branch q)) None) (sym (value_at mid q placed root) ∙ put q ∙ ap (λ (l : List Entry). value_in (l ++ values old) q) are.entries)
        | inr other ↦
            let here : value_in (values mid) q ≡ None = value_none mid q placed other in
            let whole = value_in (map (renamed (length source) target) branch ++ values old) q in
            value_none new q also other ∙ sym (none_either (is_some (value_in branch q)) whole (ap (λ (l : List Entry). value_in (l ++ values old) q) (sym are.entries) ∙ sym (put q) ∙ here))
      ]

-- ---- why a change fails, by the entries that go on from a path

any_alike : (f g : Path → Bool) (es : List (Place × Entry)) → ArePlaced es → ((q : Path) → IsTrue (is_below_root q) → f q ≡ g q) → list_any (λ e. f e.path) (values_of es) ≡ list_any (λ e. g e.path) (values_of es)
any_alike f g [] all same = refl
any_alike f g (x ∷ es) all same = ap (λ b. b || list_any (λ (e : Entry). f e.path) (values_of es)) (same x.1.path all.0.0) ∙ ap (λ b. g x.1.path || b) (any_alike f g es all.1 same)

pub more_is : (m : BTreeMap Place Entry) (path : Path) → ArePlaced m.entries
    → list_any (λ e. goes_on_from path e.path && ltb 0 (length e.path - length path)) (values m) ≡ has_more (values m) path
more_is m path all =
    any_alike (λ q. goes_on_from path q && ltb 0 (length q - length path)) (goes_on_from path) m.entries all
    (λ q root. alike (goes_on_from path q && ltb 0 (length q - length path)) (goes_on_from path q)
    (λ h. (and_parts (goes_on_from path q) (ltb 0 (length q - length path)) h).0)
    (λ h.
    let more = ltb-true (length path) (length q) (and_parts (begins_with path q) (ltb (length path) (length q)) h).1 in
    rw (h, lt-ltb 0 (length q - length path) (omega (arith, more))) refl))

pub deep_is : (m : BTreeMap Place Entry) (source target : Path) → ArePlaced m.entries → length target ≤ 4
    → list_any (λ e. goes_on_from source e.path && ltb (4 - length target) (length e.path - length source)) (values m) ≡ is_too_deep (values m) source target
deep_is m source target all few =
    any_alike (λ q. goes_on_from source q && ltb (4 - length target) (length q - length source)) (λ q. begins_with source q && ltb 4 (length (moved_path source target q))) m.entries all
    (λ q root. elim (cases_Bool (begins_with source q)) [
      | inl h ↦
          let n = length (target ++ drop (length source) q) in
          let size : n ≡ length target + (length q - length source) = omega (arith, length-append target (drop (length source) q), length-drop (length source) q) in
          rw h (deep_size (length source) (length target) (length q) n few size)
      | inr h ↦ rw h refl
    ]) where
      deep_size : (s t p n : ℕ) → t ≤ 4 → n ≡ t + (p - s) → ltb s p && ltb (4 - t) (p - s) ≡ ltb 4 n
      deep_size s t p n few size = alike (ltb s p && ltb (4 - t) (p - s)) (ltb 4 n)
          (λ h. let more = ltb-true (4 - t) (p - s) (and_parts (ltb s p) (ltb (4 - t) (p - s)) h).1 in lt-ltb 4 n (omega (arith, more, size, few)))
          (λ h. let more = ltb-true 4 n h in rw (lt-ltb s p (omega (arith, more, size, few)), lt-ltb (4 - t) (p - s) (omega (arith, more, size, few))) refl)
