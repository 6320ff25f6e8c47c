-- The names in a path, computed: they are what is answered of it, and nothing else is.
use Rattle.std.proofs.Common.{◌≡◌, ℕ, Bool, true, false, ◌||◌, List, [], ◌∷◌, ◌++◌, length, drop, length-append, Option, Some, None, Ordering, Less, Equal, Greater, cond, inl, inr, refl, ap, sym, subst, ◌∙◌, arith}
use Rattle.std.specs.Ordering.{nat_cmp, is_eq}
use Rattle.std.specs.Cmp.Lexicographic.{slice_cmp}
use Rattle.std.specs.Str.{bytes_eq}
use Rattle.std.specs.List.{list_any, AllByRecursion}
use Rattle.std.proofs.lemmas.Bool.{cases_Bool, both_ways}
use Rattle.std.proofs.lemmas.Map.Text.{is_eq-slice_cmp}
use Rattle.std.proofs.lemmas.Slice.Eq.{bytes_eq-Decides}
use Rattle.tree_fold.specs.Paths.{Path, begins_with, is_same, next_name, sole}
use Rattle.tree_fold.specs.Trees.{Tree, is_there, NamesRise, IsNamesAnswer, put_by, put_name, put_some, listed, names_after}
use Rattle.tree_fold.specs.TreeStates.{SameTree}
use Rattle.tree_fold.proofs.OrderLemmas.{same_names, begins_front, names_turned, names_trans, equal_names}
use Rattle.tree_fold.proofs.TreeLemmas.{there_same, begins_apart}
use Rattle.tree_fold.proofs.NamesLemmas.{is_sole, same_sole, value_any, there_value}

or_twice : (a r : Bool) → a || r ≡ a || (a || r)
or_twice true r = refl
or_twice false r = refl

or_turned : (a b r : Bool) → a || (b || r) ≡ b || (a || r)
or_turned true true r = refl
or_turned true false r = refl
or_turned false true r = refl
or_turned false false r = refl

-- ---- one name more

any_put : (name n : List ℕ) (names : List (List ℕ)) → list_any (bytes_eq name) (put_name n names) ≡ bytes_eq name n || list_any (bytes_eq name) names
any_put name n [] = refl
any_put name n (m ∷ names) = by (any_put name n names) (slice_cmp nat_cmp n m) refl where
  by : list_any (bytes_eq name) (put_name n names) ≡ bytes_eq name n || list_any (bytes_eq name) names → (o : Ordering) → slice_cmp nat_cmp n m ≡ o
      → list_any (bytes_eq name) (put_by o n m names (put_name n names)) ≡ bytes_eq name n || (bytes_eq name m || list_any (bytes_eq name) names)
  by later Less e = refl
  by later Equal e =
      let same = equal_names n m e in
      or_twice (bytes_eq name m) (list_any (bytes_eq name) names) ∙ ap (λ k. bytes_eq name k || (bytes_eq name m || list_any (bytes_eq name) names)) (sym same)
  by later Greater e = ap (λ b. bytes_eq name m || b) later ∙ or_turned (bytes_eq name m) (bytes_eq name n) (list_any (bytes_eq name) names)

-- what holds of a name and of names
all_put : (P : List ℕ → Type 0) (n : List ℕ) (names : List (List ℕ)) → P n → AllByRecursion P names → AllByRecursion P (put_name n names)
all_put P n [] one all = (one, tt)
all_put P n (m ∷ names) one all = by (all_put P n names one all.1) (slice_cmp nat_cmp n m) where
  by : AllByRecursion P (put_name n names) → (o : Ordering) → AllByRecursion P (put_by o n m names (put_name n names))
  by later Less = (one, all)
  by later Equal = all
  by later Greater = (all.0, later)

-- the name stands before the other
abbrev Before : List ℕ → List ℕ → Type 0
Before a b = slice_cmp nat_cmp a b ≡ Less

before_all : (n m : List ℕ) (names : List (List ℕ)) → Before n m → AllByRecursion (Before m) names → AllByRecursion (Before n) names
before_all n m [] h all = tt
before_all n m (k ∷ names) h all = (names_trans n m k h all.0, before_all n m names h all.1)

put_rises : (n : List ℕ) (names : List (List ℕ)) → NamesRise names → NamesRise (put_name n names)
put_rises n [] r = (tt, tt)
put_rises n (m ∷ names) r = by (put_rises n names r.1) (slice_cmp nat_cmp n m) refl where
  by : NamesRise (put_name n names) → (o : Ordering) → slice_cmp nat_cmp n m ≡ o → NamesRise (put_by o n m names (put_name n names))
  by later Less e = ((e, before_all n m names e r.0), r)
  by later Equal e = r
  by later Greater e = (all_put (Before m) n names (names_turned n m e) r.0, later)

-- ---- all names

some_rises : (o : Option (List ℕ)) (names : List (List ℕ)) → NamesRise names → NamesRise (put_some o names)
some_rises None names r = r
some_rises (Some n) names r = put_rises n names r

listed_rise : (tree : Tree) (path : Path) → NamesRise (listed tree path)
listed_rise [] path = tt
listed_rise (x ∷ tree) path = some_rises (next_name path x.path) (listed tree path) (listed_rise tree path)

-- it is this name
abbrev is_the : List ℕ → Option (List ℕ) → Bool
is_the name None = false
is_the name (Some n) = bytes_eq name n

any_some : (name : List ℕ) (o : Option (List ℕ)) (names : List (List ℕ)) → list_any (bytes_eq name) (put_some o names) ≡ is_the name o || list_any (bytes_eq name) names
any_some name None names = refl
any_some name (Some n) names = any_put name n names

the_sole : (name : List ℕ) (path : Path) → is_the name (sole path) ≡ is_sole name path
the_sole name [] = refl
the_sole name (n ∷ []) = refl
the_sole name (n ∷ m ∷ path) = refl

-- a path has the name behind a front where it is the front and this name
next_is : (front : Path) (name : List ℕ) (path : Path) → is_the name (next_name front path) ≡ is_same (front ++ name ∷ []) path
next_is front name path = elim (cases_Bool (begins_with front path)) [
  | inl begun ↦ rw begun (the_sole name (drop (length front) path) ∙ sym (same_sole front name path begun))
  | inr other ↦ rw other (sym (begins_apart front (front ++ name ∷ []) path (begins_front front (name ∷ [])) other))
]

any_listed : (tree : Tree) (path : Path) (name : List ℕ) → list_any (bytes_eq name) (listed tree path) ≡ list_any (λ e. is_same (path ++ name ∷ []) e.path) tree
any_listed [] path name = refl
any_listed (x ∷ tree) path name =
    any_some name (next_name path x.path) (listed tree path)
    ∙ ap (λ b. b || list_any (bytes_eq name) (listed tree path)) (next_is path name x.path)
    ∙ ap (λ b. is_same (path ++ name ∷ []) x.path || b) (any_listed tree path name)

answer_by : (tree : Tree) (path : Path) (there : Bool) → is_there tree path ≡ there → IsNamesAnswer tree path (cond there (Some (listed tree path)) None)
answer_by tree path true there = record {
  there = there;
  exactly = λ name. any_listed tree path name ∙ value_any tree (path ++ name ∷ []) ∙ sym (there_value tree (path ++ name ∷ []) (omega (arith, length-append path (name ∷ []))));
  rise = listed_rise tree path;
}
answer_by tree path false absent = absent

pub names_are_answered : (tree : Tree) (path : Path) → IsNamesAnswer tree path (names_after tree path)
names_are_answered tree path = answer_by tree path (is_there tree path) refl

-- ---- one answer

none_before : (n : List ℕ) (names : List (List ℕ)) → AllByRecursion (Before n) names → list_any (bytes_eq n) names ≡ false
none_before n [] all = refl
none_before n (m ∷ names) all =
    let other : bytes_eq n m ≡ false = sym (is_eq-slice_cmp n m) ∙ ap is_eq all.0 in
    rw other (none_before n names all.1)

-- the same names are in both
abbrev HaveSame : List (List ℕ) → List (List ℕ) → Type 0
HaveSame a b = (n : List ℕ) → list_any (bytes_eq n) a ≡ list_any (bytes_eq n) b

first_there : (n : List ℕ) (names : List (List ℕ)) → list_any (bytes_eq n) (n ∷ names) ≡ true
first_there n names = rw ((bytes_eq-Decides n n).1 refl) refl

tails_same : (x : List ℕ) (a b : List (List ℕ)) → AllByRecursion (Before x) a → AllByRecursion (Before x) b → HaveSame (x ∷ a) (x ∷ b) → HaveSame a b
tails_same x a b over above same n = elim (cases_Bool (bytes_eq n x)) [
  | inl here ↦
      let it = same_names n x here in
      ap (λ k. list_any (bytes_eq k) a) it ∙ none_before x a over ∙ sym (ap (λ k. list_any (bytes_eq k) b) it ∙ none_before x b above)
  | inr other ↦ rw other at (same n)
]

-- the first of the one stands before all of the other
not_first : (x y : List ℕ) (a b : List (List ℕ)) → Before x y → AllByRecursion (Before y) b → HaveSame (x ∷ a) (y ∷ b) → ⊥
not_first x y a b less above same =
    both_ways (list_any (bytes_eq x) (y ∷ b)) (none_before x (y ∷ b) (less, before_all x y b less above)) (sym (same x) ∙ first_there x a)

same_list : (a b : List (List ℕ)) → NamesRise a → NamesRise b → HaveSame a b → a ≡ b
same_list [] [] r s same = refl
same_list [] (y ∷ b) r s same = absurd (both_ways false refl (same y ∙ first_there y b))
same_list (x ∷ a) [] r s same = absurd (both_ways false refl (sym (same x) ∙ first_there x a))
same_list (x ∷ a) (y ∷ b) r s same = by (same_list a b) (slice_cmp nat_cmp x y) refl where
  by : (NamesRise a → NamesRise b → HaveSame a b → a ≡ b) → (o : Ordering) → slice_cmp nat_cmp x y ≡ o → x ∷ a ≡ y ∷ b
  by later Less e = absurd (not_first x y a b e s.0 same)
  by later Greater e = absurd (not_first y x b a (names_turned x y e) r.0 (λ n. sym (same n)))
  by later Equal e =
      let is = equal_names x y e in
      let P : List ℕ → Type 0 = λ k. AllByRecursion (Before k) b in
      let Q : List ℕ → Type 0 = λ k. HaveSame (x ∷ a) (k ∷ b) in
      let tails = later r.1 s.1 (tails_same x a b r.0 (subst P (sym is) s.0) (subst Q (sym is) same)) in
      ap (λ k. k ∷ a) is ∙ ap (λ (l : List (List ℕ)). y ∷ l) tails

pub names_are_one : (tree : Tree) (path : Path) (names other : Option (List (List ℕ))) → IsNamesAnswer tree path names → IsNamesAnswer tree path other → names ≡ other
names_are_one tree path None None h k = refl
names_are_one tree path None (Some b) h k = absurd (both_ways (is_there tree path) h k.there)
names_are_one tree path (Some a) None h k = absurd (both_ways (is_there tree path) k h.there)
names_are_one tree path (Some a) (Some b) h k =
    ap (λ (l : List (List ℕ)). Some l) (same_list a b h.rise k.rise (λ n. h.exactly n ∙ sym (k.exactly n)))

-- ---- for callers

-- what is answered of a path is what is computed of it
pub answer_is : (tree : Tree) (path : Path) (names : Option (List (List ℕ))) → IsNamesAnswer tree path names → names ≡ names_after tree path
answer_is tree path names h = names_are_one tree path names (names_after tree path) h (names_are_answered tree path)

-- trees with the same values answer the same
pub answer_same : (a b : Tree) → SameTree a b → (path : Path) (names : Option (List (List ℕ))) → IsNamesAnswer a path names → IsNamesAnswer b path names
answer_same a b same path None h = sym (there_same a b same path) ∙ h
answer_same a b same path (Some names) h = record {
  there = sym (there_same a b same path) ∙ h.there;
  exactly = λ name. h.exactly name ∙ there_same a b same (path ++ name ∷ []);
  rise = h.rise;
}

pub names_after_same : (a b : Tree) → SameTree a b → (path : Path) → names_after a path ≡ names_after b path
names_after_same a b same path = answer_is b path (names_after a path) (answer_same a b same path (names_after a path) (names_are_answered a path))
