-- The places of paths: names as numbers stand as the names do, so a place is that of one path, and what lies between two places is what begins alike.
use Rattle.std.proofs.Common.{◌≡◌, ℕ, zero, suc, ◌+◌, ◌*◌, ◌-◌, ◌^◌, ◌<◌, ◌≤◌, Bool, true, false, not, ◌&&◌, List, [], ◌∷◌, ◌++◌, length, take, Ordering, Less, Equal, Greater, inl, inr, refl, ap, sym, ◌∙◌, arith, add-one, get_or, slice_get, Some, length-append, ltb, leb}
use Rattle.std.specs.Prelude.{IsTrue}
use Rattle.std.specs.Ordering.{nat_cmp, ordering_then, is_eq, is_gt, is_le}
use Rattle.std.specs.Cmp.{IsTotalOrder, nat_cmp_is}
use Rattle.std.specs.Cmp.Lexicographic.{slice_cmp}
use Rattle.std.specs.Str.{bytes_eq}
use Rattle.std.specs.List.{list_all, AllByRecursion}
use Rattle.std.proofs.lemmas.Bool.{and_parts, cases_Bool, leb-true, ltb-true, lt-ltb, false_from_ne_true}
use Rattle.std.proofs.lemmas.Cmp.{ranked, nat_cmp_total, nat_list_cmp_total, on_total, then_total, tied_itself}
use Rattle.std.proofs.lemmas.Map.Lookups.{CmpEqualImpliesEq, exact_bytes}
use Rattle.std.proofs.lemmas.Map.Text.{is_eq-slice_cmp}
use Rattle.std.proofs.lemmas.Slice.Eq.{bytes_eq-Decides}
use Rattle.std.proofs.Math.Nat.{mul-le-mul_right, suc-mul, pow-suc, pow-succ', one-le-pow, pow-le-pow_right, mul_assoc, add-mul}
use Rattle.object_form.specs.Forms.{is_letter_or_digit}
use Rattle.tree_fold.specs.declared.places.Place.{Place}
use Rattle.tree_fold.specs.Paths.{Path, begins_with, goes_on_from, is_name, is_same, is_path, is_below_root, parent_of}
use Rattle.tree_fold.specs.Places.{name_number, name_numbers, own_name, place_of, place_cmp, is_child}
use Rattle.tree_fold.proofs.PathLaws.{IsName, name_parts, path_parts, below_parts}
use Rattle.log_node.proofs.CallerLemmas.{same_tests as alike}
use Rattle.tree_fold.proofs.OrderLemmas.{same_names, equal_names, same_is, same_self}

-- ---- digits

nat_less : (x y : ℕ) → x < y → nat_cmp x y ≡ Less
nat_less x y h = sym (nat_cmp_is x y Less h)

nat_same : (x : ℕ) → nat_cmp x x ≡ Equal
nat_same x = sym (nat_cmp_is x x Equal refl)

nat_more : (x y : ℕ) → y < x → nat_cmp x y ≡ Greater
nat_more x y h = sym (nat_cmp_is x y Greater h)

-- two digits, each with a rest below the worth of one
less_digit : (w b c r s : ℕ) → r < w → b < c → b * w + r < c * w + s
less_digit w b c r s low less =
    let more : suc b * w ≤ c * w = mul-le-mul_right w (omega arith) in
    omega (arith, suc-mul b w)

digit_order : (w b c r s : ℕ) → r < w → s < w → nat_cmp (b * w + r) (c * w + s) ≡ ordering_then (nat_cmp b c) (nat_cmp r s)
digit_order w b c r s low also = by (nat_cmp b c) refl where
  by : (o : Ordering) → nat_cmp b c ≡ o → nat_cmp (b * w + r) (c * w + s) ≡ ordering_then o (nat_cmp r s)
  by Less e = nat_less (b * w + r) (c * w + s) (less_digit w b c r s low (ranked b c Less (sym e)))
  by Greater e = nat_more (b * w + r) (c * w + s) (less_digit w c b s r also (ranked b c Greater (sym e)))
  by Equal e = rw (ranked b c Equal (sym e)) (rest (c * w) (nat_cmp r s) refl) where
    rest : (k : ℕ) (o : Ordering) → nat_cmp r s ≡ o → nat_cmp (k + r) (k + s) ≡ o
    rest k Less e = nat_less (k + r) (k + s) (let h = ranked r s Less (sym e) in omega arith)
    rest k Equal e = let h = ranked r s Equal (sym e) in ap (λ n. nat_cmp (k + r) (k + n)) (sym h) ∙ nat_same (k + r)
    rest k Greater e = nat_more (k + r) (k + s) (let h = ranked r s Greater (sym e) in omega arith)

-- ---- the numbers of names

-- a byte that a name may have
abbrev pub IsSign : ℕ → Type 0
IsSign b = (0 < b) × (b < 256)

pow_some : (n : ℕ) → 0 < 256 ^ n
pow_some n = one-le-pow n 256 (omega arith)

number_bound : (n : ℕ) (bytes : List ℕ) → AllByRecursion IsSign bytes → name_number n bytes < 256 ^ n
number_bound zero bytes all = pow_some zero
number_bound (suc n) [] all = pow_some (suc n)
number_bound (suc n) (b ∷ bytes) all =
    let later = number_bound n bytes all.1 in
    let first : suc b * 256 ^ n ≤ 256 * 256 ^ n = mul-le-mul_right (256 ^ n) (let h = all.0.1 in omega arith) in
    omega (arith, suc-mul b (256 ^ n), pow-succ' 256 n)

number_some : (n : ℕ) (b : ℕ) (bytes : List ℕ) → 0 < b → 0 < name_number (suc n) (b ∷ bytes)
number_some n b bytes some =
    let first : 1 * 256 ^ n ≤ b * 256 ^ n = mul-le-mul_right (256 ^ n) some in
    let one = pow_some n in
    omega (arith, first)

-- numbers stand as the names do
pub number_order : (n : ℕ) (a b : List ℕ) → length a ≤ n → length b ≤ n → AllByRecursion IsSign a → AllByRecursion IsSign b → nat_cmp (name_number n a) (name_number n b) ≡ slice_cmp nat_cmp a b
number_order zero [] [] le also all both = nat_same 0
number_order zero [] (y ∷ b) le also all both = absurd (omega arith)
number_order zero (x ∷ a) b le also all both = absurd (omega arith)
number_order (suc n) [] [] le also all both = nat_same 0
number_order (suc n) [] (y ∷ b) le also all both = nat_less 0 (name_number (suc n) (y ∷ b)) (number_some n y b both.0.0)
number_order (suc n) (x ∷ a) [] le also all both = nat_more (name_number (suc n) (x ∷ a)) 0 (number_some n x a all.0.0)
number_order (suc n) (x ∷ a) (y ∷ b) le also all both =
    digit_order (256 ^ n) x y (name_number n a) (name_number n b) (number_bound n a all.1) (number_bound n b both.1)
    ∙ ap (ordering_then (nat_cmp x y)) (number_order n a b (omega arith) (omega arith) all.1 both.1)

-- one digit more
pub number_step : (at : ℕ) (bytes : List ℕ) → name_number (at + 1) bytes ≡ name_number at bytes * 256 + get_or bytes at 0
number_step at bytes = ap (λ n. name_number n bytes) (add-one at) ∙ by at bytes where
  by : (n : ℕ) (bs : List ℕ) → name_number (suc n) bs ≡ name_number n bs * 256 + get_or bs n 0
  by zero [] = refl
  by zero (b ∷ bs) = omega arith
  by (suc n) [] = refl
  by (suc n) (b ∷ bs) =
      let w = 256 ^ n in
      let first : b * 256 ^ suc n ≡ b * w * 256 = ap (λ k. b * k) (pow-suc 256 n) ∙ sym (mul_assoc b w 256) in
      let split : (b * w + name_number n bs) * 256 ≡ b * w * 256 + name_number n bs * 256 = add-mul (b * w) (name_number n bs) 256 in
      let later : name_number (suc n) bs ≡ name_number n bs * 256 + get_or bs n 0 = by n bs in
      omega (arith, first, split, later)

pub number_room : (at n : ℕ) → at < 8 → n < 256 ^ at → n * 256 + 255 < 2 ^ 64
number_room at n few low =
    let some : 0 < 256 = omega arith in
    let short : at ≤ 7 = omega arith in
    let most : 256 ^ at ≤ 256 ^ 7 = pow-le-pow_right {n = 256} some {i = at} {j = 7} short in
    omega (arith, most)

pub number_more : (at n b : ℕ) → n < 256 ^ at → b < 256 → n * 256 + b < 256 ^ (at + 1)
number_more at n b low byte = omega (arith, pow-suc 256 at, ap (λ k. 256 ^ k) (add-one at))

-- ---- a path, its parent and its last name

pub own_last : (path : Path) (name : List ℕ) → slice_get path (length path - 1) ≡ Some name → own_name path ≡ name
own_last [] name h = absurd cc
own_last (n ∷ []) name h = let same : n ≡ name = cc in same
own_last (n ∷ m ∷ path) name h =
    let place : length (n ∷ m ∷ path) - 1 ≡ suc (length (m ∷ path) - 1) = omega arith in
    own_last (m ∷ path) name (ap (slice_get (n ∷ m ∷ path)) (sym place) ∙ h)

parent_at : (n : List ℕ) (path : Path) → parent_of (n ∷ path) ≡ take (length path) (n ∷ path)
parent_at n path = ap (λ k. take k (n ∷ path)) (omega arith)

parent_more : (n m : List ℕ) (path : Path) → parent_of (n ∷ m ∷ path) ≡ n ∷ parent_of (m ∷ path)
parent_more n m path = parent_at n (m ∷ path) ∙ ap (λ (l : Path). n ∷ l) (sym (parent_at m path))

-- a path below the root is its parent and its last name
pub parent_whole : (path : Path) → 1 ≤ length path → path ≡ parent_of path ++ own_name path ∷ []
parent_whole [] some = absurd (omega arith)
parent_whole (n ∷ []) some = refl
parent_whole (n ∷ m ∷ path) some = ap (λ (l : Path). n ∷ l) (parent_whole (m ∷ path) (omega arith)) ∙ ap (λ (l : Path). l ++ own_name (m ∷ path) ∷ []) (sym (parent_more n m path))

pub parent_child : (front : Path) (name : List ℕ) → parent_of (front ++ name ∷ []) ≡ front
parent_child [] name = refl
parent_child (n ∷ []) name = refl
parent_child (n ∷ m ∷ front) name = parent_more n m (front ++ name ∷ []) ∙ ap (λ (l : Path). n ∷ l) (parent_child (m ∷ front) name)

pub own_child : (front : Path) (name : List ℕ) → own_name (front ++ name ∷ []) ≡ name
own_child [] name = refl
own_child (n ∷ []) name = refl
own_child (n ∷ m ∷ front) name = own_child (m ∷ front) name

pub parent_short : (path : Path) → 1 ≤ length path → length (parent_of path) + 1 ≡ length path
parent_short path some = let h = ap length (parent_whole path some) in omega (arith, h, length-append (parent_of path) (own_name path ∷ []))

pub parent_names : (path : Path) → list_all is_name path ≡ true → list_all is_name (parent_of path) ≡ true
parent_names [] all = refl
parent_names (n ∷ []) all = refl
parent_names (n ∷ m ∷ path) all =
    let each = and_parts (is_name n) (list_all is_name (m ∷ path)) all in
    ap (list_all is_name) (parent_more n m path) ∙ rw (each.0, parent_names (m ∷ path) each.1) refl

pub own_is_name : (path : Path) → 1 ≤ length path → list_all is_name path ≡ true → is_name (own_name path) ≡ true
own_is_name [] some all = absurd (omega arith)
own_is_name (n ∷ []) some all = (and_parts (is_name n) true all).0
own_is_name (n ∷ m ∷ path) some all = own_is_name (m ∷ path) (omega arith) (and_parts (is_name n) (list_all is_name (m ∷ path)) all).1

pub not_less : (a b : ℕ) → b ≤ a → ltb a b ≡ false
not_less a b le = false_from_ne_true (ltb a b) (λ h. let less = ltb-true a b h in absurd (omega (arith, less, le)))

suc_less : (a b : ℕ) → ltb (suc a) (suc b) ≡ ltb a b
suc_less a b = alike (ltb (suc a) (suc b)) (ltb a b) (λ h. let less = ltb-true (suc a) (suc b) h in lt-ltb a b (omega arith)) (λ h. let less = ltb-true a b h in lt-ltb (suc a) (suc b) (omega arith))

and_none : (a b c : Bool) → c ≡ false → (a && b) && c ≡ false
and_none true true c e = e
and_none true false c e = refl
and_none false b c e = refl

and_first : (a b c : Bool) → (a && b) && c ≡ a && (b && c)
and_first true b c = refl
and_first false b c = refl

-- what goes on from a path begins with it at its parent
pub goes_parent : (front path : Path) → 1 ≤ length path → goes_on_from front path ≡ begins_with front (parent_of path)
goes_parent [] (n ∷ path) some = lt-ltb 0 (suc (length path)) (omega arith)
goes_parent front [] some = absurd (omega arith)
goes_parent (f ∷ front) (n ∷ []) some = and_none (bytes_eq f n) (begins_with front []) (ltb (suc (length front)) 1) (not_less (suc (length front)) 1 (omega arith))
goes_parent (f ∷ front) (n ∷ m ∷ path) some =
    and_first (bytes_eq f n) (begins_with front (m ∷ path)) (ltb (suc (length front)) (suc (suc (length path))))
    ∙ ap (λ b. bytes_eq f n && (begins_with front (m ∷ path) && b)) (suc_less (length front) (suc (length path))) ∙ ap (λ b. bytes_eq f n && b) (goes_parent front (m ∷ path) (omega arith))
    ∙ ap (begins_with (f ∷ front)) (sym (parent_more n m path))

-- ---- names that are numbers

signs_of : (bytes : List ℕ) → list_all is_letter_or_digit bytes ≡ true → AllByRecursion IsSign bytes
signs_of [] all = tt
signs_of (b ∷ bytes) all =
    let each = and_parts (is_letter_or_digit b) (list_all is_letter_or_digit bytes) all in
    (sign_of b each.0, signs_of bytes each.1) where
      sign_of : (b : ℕ) → is_letter_or_digit b ≡ true → IsSign b
      sign_of b h = elim (cases_Bool (leb 97 b && leb b 122)) [
        | inl letter ↦
            let ends = and_parts (leb 97 b) (leb b 122) letter in
            let low = leb-true 97 b ends.0 in
            let high = leb-true b 122 ends.1 in
            (omega arith, omega arith)
        | inr other ↦
            let digit : (leb 48 b && leb b 57) ≡ true = rw other at h in
            let ends = and_parts (leb 48 b) (leb b 57) digit in
            let low = leb-true 48 b ends.0 in
            let high = leb-true b 57 ends.1 in
            (omega arith, omega arith)
      ]

name_order : (a b : List ℕ) → is_name a ≡ true → is_name b ≡ true → nat_cmp (name_number 8 a) (name_number 8 b) ≡ slice_cmp nat_cmp a b
name_order a b one other =
    let x = name_parts a one in
    let y = name_parts b other in
    number_order 8 a b x.few y.few (signs_of a x.signs) (signs_of b y.signs)

name_some : (a : List ℕ) → is_name a ≡ true → 0 < name_number 8 a
name_some a h = by a (name_parts a h) where
  by : (a : List ℕ) → IsName a → 0 < name_number 8 a
  by [] is = absurd (let some = is.some in omega (arith, some))
  by (b ∷ a) is = number_some 7 b a (signs_of (b ∷ a) is.signs).0.0

-- the number behind a path at the end of a branch
abbrev pub last_number : ℕ
last_number = 2 ^ 64 - 1

letter_high : (b : ℕ) → is_letter_or_digit b ≡ true → b < 255
letter_high b h = elim (cases_Bool (leb 97 b && leb b 122)) [
  | inl letter ↦ let high = leb-true b 122 (and_parts (leb 97 b) (leb b 122) letter).1 in omega arith
  | inr other ↦
      let digit : (leb 48 b && leb b 57) ≡ true = rw other at h in
      let high = leb-true b 57 (and_parts (leb 48 b) (leb b 57) digit).1 in
      omega arith
]

name_low : (a : List ℕ) → is_name a ≡ true → name_number 8 a < last_number
name_low a h = by a (name_parts a h) where
  by : (a : List ℕ) → IsName a → name_number 8 a < last_number
  by [] is = omega arith
  by (b ∷ a) is =
      let all = signs_of (b ∷ a) is.signs in
      let high = letter_high b (and_parts (is_letter_or_digit b) (list_all is_letter_or_digit a) is.signs).0 in
      let rest : name_number 7 a < 256 ^ 7 = number_bound 7 a all.1 in
      omega (arith, high, rest)

same_name : (a b : List ℕ) → is_name a ≡ true → is_name b ≡ true → name_number 8 a ≡ name_number 8 b → a ≡ b
same_name a b one other e = equal_names a b (sym (name_order a b one other) ∙ ap (nat_cmp (name_number 8 a)) (sym e) ∙ nat_same (name_number 8 a))

-- ---- paths that are numbers

-- paths of names alone
abbrev pub AreNames : Path → Type 0
AreNames path = list_all is_name path ≡ true

same_numbers : (n : ℕ) (p q : Path) → length p ≤ n → length q ≤ n → AreNames p → AreNames q → name_numbers n 0 p ≡ name_numbers n 0 q → p ≡ q
same_numbers n [] [] le also one other e = refl
same_numbers zero [] (y ∷ q) le also one other e = absurd (omega arith)
same_numbers zero (x ∷ p) q le also one other e = absurd (omega arith)
same_numbers (suc n) [] (y ∷ q) le also one other e =
    let first : 0 ≡ name_number 8 y = cc in
    let some = name_some y (and_parts (is_name y) (list_all is_name q) other).0 in
    absurd (omega (arith, first, some))
same_numbers (suc n) (x ∷ p) [] le also one other e =
    let first : name_number 8 x ≡ 0 = cc in
    let some = name_some x (and_parts (is_name x) (list_all is_name p) one).0 in
    absurd (omega (arith, first, some))
same_numbers (suc n) (x ∷ p) (y ∷ q) le also one other e =
    let names = and_parts (is_name x) (list_all is_name p) one in
    let others = and_parts (is_name y) (list_all is_name q) other in
    let first : name_number 8 x ≡ name_number 8 y = cc in
    let later : name_numbers n 0 p ≡ name_numbers n 0 q = cc in
    ap (λ (m : List ℕ). m ∷ p) (same_name x y names.0 others.0 first) ∙ ap (λ (l : Path). y ∷ l) (same_numbers n p q (omega arith) (omega arith) names.1 others.1 later)

-- a path below the root, in parts
pub record IsBelow (path : Path) : Type 0 where
  pub some : 1 ≤ length path
  pub few : length path ≤ 4
  pub names : AreNames path

pub below : (path : Path) → is_below_root path ≡ true → IsBelow path
below path h =
    let parts = below_parts path h in
    let more = path_parts path parts.1 in
    record { some = parts.0; few = more.0; names = more.1 }

-- a place is that of one path
place_is : (p q : Path) → IsBelow p → IsBelow q → place_of p ≡ place_of q → p ≡ q
place_is p q one other e =
    let parents : name_numbers 3 0 (parent_of p) ≡ name_numbers 3 0 (parent_of q) = ap (λ (x : Place). x.parent) e in
    let names : name_number 8 (own_name p) ≡ name_number 8 (own_name q) = ap (λ (x : Place). x.name) e in
    let short = parent_short p one.some in
    let brief = parent_short q other.some in
    let same = same_numbers 3 (parent_of p) (parent_of q) (let h = one.few in omega (arith, short)) (let h = other.few in omega (arith, brief))
    (parent_names p one.names) (parent_names q other.names) parents in
    let own = same_name (own_name p) (own_name q) (own_is_name p one.some one.names) (own_is_name q other.some other.names) names in
    parent_whole p one.some ∙ ap (λ (l : Path). l ++ own_name p ∷ []) same ∙ ap (λ (n : List ℕ). parent_of q ++ n ∷ []) own ∙ sym (parent_whole q other.some)

pub place_total : IsTotalOrder place_cmp
place_total = then_total (on_total (λ (x : Place). x.parent) nat_list_cmp_total) (on_total (λ (x : Place). x.name) nat_cmp_total)

then_equal : (o r : Ordering) → ordering_then o r ≡ Equal → (o ≡ Equal) × (r ≡ Equal)
then_equal Less r h = absurd cc
then_equal Equal r h = (refl, h)
then_equal Greater r h = absurd cc

-- places that stand alike are one
pub place_exact : CmpEqualImpliesEq place_cmp
place_exact x y h =
    let both = then_equal (slice_cmp nat_cmp x.parent y.parent) (nat_cmp x.name y.name) h in
    let parents : x.parent ≡ y.parent = exact_bytes x.parent y.parent both.0 in
    let names : x.name ≡ y.name = ranked x.name y.name Equal (sym both.1) in
    rw (parents, names) refl

pub equal_order : (o : Ordering) → is_eq o ≡ true → o ≡ Equal
equal_order Less h = absurd cc
equal_order Equal h = refl
equal_order Greater h = absurd cc

-- places are the same where their paths are
pub place_same : (p q : Path) → IsTrue (is_below_root p) → IsTrue (is_below_root q) → is_eq (place_cmp (place_of p) (place_of q)) ≡ is_same p q
place_same p q one other =
    alike (is_eq (place_cmp (place_of p) (place_of q))) (is_same p q)
    (λ h.
    let places = place_exact (place_of p) (place_of q) (equal_order (place_cmp (place_of p) (place_of q)) h) in
    ap (is_same p) (sym (place_is p q (below p one) (below q other) places)) ∙ same_self p)
    (λ h. ap (λ (l : Path). is_eq (place_cmp (place_of p) (place_of l))) (sym (same_is p q h)) ∙ ap is_eq (tied_itself place_total (place_of p)))

-- children of one parent stand as their own names do
pub child_order : (front p q : Path) → IsTrue (is_below_root p) → IsTrue (is_below_root q) → is_child front p ≡ true → is_child front q ≡ true → place_cmp (place_of p) (place_of q) ≡ slice_cmp nat_cmp (own_name p) (own_name q)
child_order front p q one other h k =
    let is = below p one in
    let also = below q other in
    let parents : parent_of p ≡ parent_of q = sym (same_is front (parent_of p) h) ∙ same_is front (parent_of q) k in
    let numbers : slice_cmp nat_cmp (name_numbers 3 0 (parent_of p)) (name_numbers 3 0 (parent_of q)) ≡ Equal =
    ap (λ (l : Path). slice_cmp nat_cmp (name_numbers 3 0 (parent_of p)) (name_numbers 3 0 l)) (sym parents) ∙ tied_itself nat_list_cmp_total (name_numbers 3 0 (parent_of p)) in
    ap (λ o. ordering_then o (nat_cmp (name_number 8 (own_name p)) (name_number 8 (own_name q)))) numbers
    ∙ name_order (own_name p) (own_name q) (own_is_name p is.some is.names) (own_is_name q also.some also.names)

-- a child of a path by its own name
pub child_named : (front : Path) (name : List ℕ) (q : Path) → 1 ≤ length q → is_child front q && bytes_eq name (own_name q) ≡ is_same (front ++ name ∷ []) q
child_named front name q some =
    alike (is_child front q && bytes_eq name (own_name q)) (is_same (front ++ name ∷ []) q)
    (λ h.
    let both = and_parts (is_child front q) (bytes_eq name (own_name q)) h in
    let whole : front ++ name ∷ [] ≡ q =
    ap (λ (l : Path). l ++ name ∷ []) (same_is front (parent_of q) both.0) ∙ ap (λ (n : List ℕ). parent_of q ++ n ∷ []) (same_names name (own_name q) both.1) ∙ sym (parent_whole q some) in
    ap (λ (l : Path). is_same l q) whole ∙ same_self q)
    (λ h.
    let whole = same_is (front ++ name ∷ []) q h in
    let parent : is_child front q ≡ true = ap (λ (l : Path). is_same front (parent_of l)) (sym whole) ∙ ap (is_same front) (parent_child front name) ∙ same_self front in
    let own : bytes_eq name (own_name q) ≡ true = ap (λ (l : Path). bytes_eq name (own_name l)) (sym whole) ∙ ap (bytes_eq name) (own_child front name) ∙ (bytes_eq-Decides name name).1 refl in
    rw (parent, own) refl)

-- ---- what lies between two places

-- from the one place on, below the other
abbrev pub is_between : Place → Place → Place → Bool
is_between low high place = is_le (place_cmp low place) && not (is_le (place_cmp high place))

low_le : (n : ℕ) → is_le (nat_cmp 0 n) ≡ true
low_le zero = ap is_le (nat_same 0)
low_le (suc n) = ap is_le (nat_less 0 (suc n) (omega arith))

high_not : (n : ℕ) → n < last_number → is_le (nat_cmp last_number n) ≡ false
high_not n low = ap is_le (nat_more last_number n low)

between_same : (o a b : Ordering) → is_le a ≡ true → is_le b ≡ false → is_le (ordering_then o a) && not (is_le (ordering_then o b)) ≡ is_eq o
between_same Less a b h k = refl
between_same Equal a b h k = rw (h, k) refl
between_same Greater a b h k = refl

numbers_same : (p q : Path) → length p ≤ 3 → length q ≤ 3 → AreNames p → AreNames q → is_eq (slice_cmp nat_cmp (name_numbers 3 0 p) (name_numbers 3 0 q)) ≡ is_same p q
numbers_same p q le also one other =
    alike (is_eq (slice_cmp nat_cmp (name_numbers 3 0 p) (name_numbers 3 0 q))) (is_same p q)
    (λ h.
    let numbers = exact_bytes (name_numbers 3 0 p) (name_numbers 3 0 q) (equal_order (slice_cmp nat_cmp (name_numbers 3 0 p) (name_numbers 3 0 q)) h) in
    ap (is_same p) (sym (same_numbers 3 p q le also one other numbers)) ∙ same_self p)
    (λ h. ap (λ (l : Path). is_eq (slice_cmp nat_cmp (name_numbers 3 0 p) (name_numbers 3 0 l))) (sym (same_is p q h)) ∙ ap is_eq (tied_itself nat_list_cmp_total (name_numbers 3 0 p)))

abbrev pub first_at : ℕ → Path → Place
first_at fill path = record { parent = name_numbers 3 fill path; name = 0 }

abbrev pub last_at : ℕ → Path → Place
last_at fill path = record { parent = name_numbers 3 fill path; name = last_number }

-- the children of a path
pub child_between : (front q : Path) → IsTrue (is_path front) → length front ≤ 3 → IsTrue (is_below_root q) → is_between (first_at 0 front) (last_at 0 front) (place_of q) ≡ is_child front q
child_between front q path le h =
    let is = below q h in
    let short = parent_short q is.some in
    let few : length (parent_of q) ≤ 3 = let k = is.few in omega (arith, short) in
    let own = name_number 8 (own_name q) in
    between_same (slice_cmp nat_cmp (name_numbers 3 0 front) (name_numbers 3 0 (parent_of q))) (nat_cmp 0 own) (nat_cmp last_number own)
    (low_le own) (high_not own (name_low (own_name q) (own_is_name q is.some is.names)))
    ∙ numbers_same front (parent_of q) le few (path_parts front path).1 (parent_names q is.names)

-- zeros are at most the numbers of names
low_numbers : (n : ℕ) (q : Path) (a : Ordering) → AreNames q → is_le a ≡ true → is_le (ordering_then (slice_cmp nat_cmp (name_numbers n 0 []) (name_numbers n 0 q)) a) ≡ true
low_numbers zero q a names h = h
low_numbers (suc n) [] a names h = low_numbers n [] a refl h
low_numbers (suc n) (y ∷ q) a names h =
    let some = name_some y (and_parts (is_name y) (list_all is_name q) names).0 in
    rw (nat_less 0 (name_number 8 y) some) refl

high_numbers : (n : ℕ) (q : Path) (b : Ordering) → AreNames q → is_le b ≡ false → is_le (ordering_then (slice_cmp nat_cmp (name_numbers n last_number []) (name_numbers n 0 q)) b) ≡ false
high_numbers zero q b names h = h
high_numbers (suc n) [] b names h = refl
high_numbers (suc n) (y ∷ q) b names h =
    let low = name_low y (and_parts (is_name y) (list_all is_name q) names).0 in
    rw (nat_more last_number (name_number 8 y) low) refl

numbers_between : (n : ℕ) (front q : Path) (a b : Ordering) → length front ≤ n → AreNames front → AreNames q → is_le a ≡ true → is_le b ≡ false
    → is_le (ordering_then (slice_cmp nat_cmp (name_numbers n 0 front) (name_numbers n 0 q)) a)
    && not (is_le (ordering_then (slice_cmp nat_cmp (name_numbers n last_number front) (name_numbers n 0 q)) b))
    ≡ begins_with front q
numbers_between n [] q a b le one other h k = rw (low_numbers n q a other h, high_numbers n q b other k) refl
numbers_between zero (x ∷ front) q a b le one other h k = absurd (omega arith)
numbers_between (suc n) (x ∷ front) [] a b le one other h k =
    let some = name_some x (and_parts (is_name x) (list_all is_name front) one).0 in
    rw (nat_more (name_number 8 x) 0 some) refl
numbers_between (suc n) (x ∷ front) (y ∷ q) a b le one other h k =
    let names = and_parts (is_name x) (list_all is_name front) one in
    let others = and_parts (is_name y) (list_all is_name q) other in
    by (slice_cmp nat_cmp x y) refl (name_order x y names.0 others.0) (is_eq-slice_cmp x y) (numbers_between n front q a b (omega arith) names.1 others.1 h k) where
      by : (o : Ordering) → slice_cmp nat_cmp x y ≡ o → nat_cmp (name_number 8 x) (name_number 8 y) ≡ slice_cmp nat_cmp x y → is_eq (slice_cmp nat_cmp x y) ≡ bytes_eq x y
          → is_le (ordering_then (slice_cmp nat_cmp (name_numbers n 0 front) (name_numbers n 0 q)) a)
          && not (is_le (ordering_then (slice_cmp nat_cmp (name_numbers n last_number front) (name_numbers n 0 q)) b))
          ≡ begins_with front q
          → is_le (ordering_then (slice_cmp nat_cmp (name_numbers (suc n) 0 (x ∷ front)) (name_numbers (suc n) 0 (y ∷ q))) a)
          && not (is_le (ordering_then (slice_cmp nat_cmp (name_numbers (suc n) last_number (x ∷ front)) (name_numbers (suc n) 0 (y ∷ q))) b))
          ≡ begins_with (x ∷ front) (y ∷ q)
      by Less e first same later = rw (first ∙ e, ← same, e) refl
      by Equal e first same later = rw (first ∙ e, ← same, e) later
      by Greater e first same later = rw (first ∙ e, ← same, e) refl

-- what goes on from a path
pub below_between : (front q : Path) → IsTrue (is_path front) → length front ≤ 3 → IsTrue (is_below_root q) → is_between (first_at 0 front) (last_at last_number front) (place_of q) ≡ goes_on_from front q
below_between front q path le h =
    let is = below q h in
    let own = name_number 8 (own_name q) in
    numbers_between 3 front (parent_of q) (nat_cmp 0 own) (nat_cmp last_number own) le (path_parts front path).1 (parent_names q is.names)
    (low_le own) (high_not own (name_low (own_name q) (own_is_name q is.some is.names)))
    ∙ sym (goes_parent front q is.some)

-- the ends stand in order
pub ends_rise : (n fill : ℕ) (front : Path) → is_gt (ordering_then (slice_cmp nat_cmp (name_numbers n 0 front) (name_numbers n fill front)) (nat_cmp 0 last_number)) ≡ false
ends_rise zero fill front = refl
ends_rise (suc n) fill (x ∷ front) = rw (nat_same (name_number 8 x)) (ends_rise n fill front)
ends_rise (suc n) zero [] = ends_rise n zero []
ends_rise (suc n) (suc fill) [] = rw (nat_less 0 (suc fill) (omega arith)) refl
