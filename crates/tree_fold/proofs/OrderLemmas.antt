-- Names in the order of their bytes, and paths that begin alike.
use Rattle.std.proofs.Common.{◌≡◌, ℕ, true, false, eqb, List, [], ◌∷◌, ◌++◌, length, drop, Ordering, Less, Equal, Greater, refl, ap, sym, ◌∙◌, arith}
use Rattle.std.specs.Ordering.{nat_cmp, is_eq, ordering_reverse}
use Rattle.std.specs.Cmp.Lexicographic.{slice_cmp}
use Rattle.std.specs.Str.{bytes_eq}
use Rattle.std.proofs.lemmas.Bool.{and_parts, false_from_ne_true, both_ways, eqb-true, eq-eqb}
use Rattle.std.proofs.lemmas.Cmp.{nat_list_cmp_total}
use Rattle.std.proofs.lemmas.List.{append-nil}
use Rattle.std.proofs.lemmas.Map.Text.{is_eq-slice_cmp}
use Rattle.std.proofs.lemmas.Slice.Eq.{bytes_eq-Decides}
use Rattle.std.proofs.Math.ListN.{drop_of_length-le}
use Rattle.tree_fold.specs.Paths.{Path, begins_with, is_same}

abbrev name_order : List ℕ → List ℕ → Ordering
name_order a b = slice_cmp nat_cmp a b

-- ---- names

pub same_names : (a b : List ℕ) → bytes_eq a b ≡ true → a ≡ b
same_names a b h = (bytes_eq-Decides a b).0 h

pub equal_names : (a b : List ℕ) → name_order a b ≡ Equal → a ≡ b
equal_names a b h = same_names a b (sym (is_eq-slice_cmp a b) ∙ ap is_eq h)

pub names_turned : (a b : List ℕ) → name_order a b ≡ Greater → name_order b a ≡ Less
names_turned a b h = nat_list_cmp_total.antisymm b a ∙ ap ordering_reverse h

pub names_trans : (a b c : List ℕ) → name_order a b ≡ Less → name_order b c ≡ Less → name_order a c ≡ Less
names_trans a b c h k = nat_list_cmp_total.trans a b c h k

-- ---- beginnings

pub begins_is : (front path : Path) → begins_with front path ≡ true → path ≡ front ++ drop (length front) path
begins_is [] path h = refl
begins_is (f ∷ front) [] h = absurd cc
begins_is (f ∷ front) (g ∷ path) h =
    let both = and_parts (bytes_eq f g) (begins_with front path) h in
    rw (same_names f g both.0) (ap (λ t. g ∷ t) (begins_is front path both.1))

pub begins_front : (front rest : Path) → begins_with front (front ++ rest) ≡ true
begins_front [] rest = refl
begins_front (f ∷ front) rest = rw ((bytes_eq-Decides f f).1 refl) (begins_front front rest)

pub same_is : (a b : Path) → is_same a b ≡ true → a ≡ b
same_is a b h =
    let both = and_parts (begins_with a b) (eqb (length a) (length b)) h in
    let long = eqb-true (length a) (length b) both.1 in
    let none : drop (length a) b ≡ [] = drop_of_length-le b (omega arith) in
    sym (begins_is a b both.0 ∙ ap (λ t. a ++ t) none ∙ append-nil a)

pub begins_self : (a : Path) → begins_with a a ≡ true
begins_self a = ap (begins_with a) (sym (append-nil a)) ∙ begins_front a []

pub same_self : (a : Path) → is_same a a ≡ true
same_self a = rw (begins_self a, eq-eqb (length a) (length a) refl) refl

-- paths that are not the same in the one direction are not in the other
pub same_turned : (a b : Path) → is_same a b ≡ false → is_same b a ≡ false
same_turned a b h = false_from_ne_true (is_same b a) (λ k. both_ways (is_same a b) h (rw (same_is b a k) (same_self a)))
