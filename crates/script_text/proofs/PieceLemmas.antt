-- How lines and names are found from the front.
use Rattle.std.proofs.Common.{◌≡◌, ℕ, zero, suc, ◌+◌, ◌<◌, ◌≤◌, true, false, eqb, List, [], ◌∷◌, length, get_or, take, drop, refl, arith, add-one, lit<, ◌*◌, ◌-◌, ◌^◌, leb, ltb, inl, inr}
use Rattle.std.specs.List.{list_any, list_all}
use Rattle.std.proofs.Math.Bool.{and-false}
use Rattle.std.proofs.lemmas.Bool.{ne_eqb, eq-eqb, and_parts, leb-true, le-leb, both_ways, false_from_ne_true, eqb-false, cases_Bool, ltb-true, ltb-false}
use Rattle.std.proofs.lemmas.List.{take_all}
use Rattle.std.proofs.lemmas.List.Sums.{fold_more}
use Rattle.std.proofs.Math.Nat.{pow-le-pow_right, pow-suc}
use Rattle.script_text.specs.Pieces.{lines_of, fields_of, names_in, is_between, is_ascii_line, is_digit, number_value}

pub lines_first : (bs : List ℕ) (i : ℕ) → i < length bs → ((k : ℕ) → k < i → get_or bs k 0 ≡ 10 → ⊥) → get_or bs i 0 ≡ 10 → lines_of bs ≡ take i bs ∷ lines_of (drop (i + 1) bs)
lines_first [] i lt none here = absurd (omega arith)
lines_first (b ∷ bs) zero lt none here = rw (eq-eqb b 10 here) refl
lines_first (b ∷ bs) (suc i) lt none here =
    let later = lines_first bs i (omega arith) (λ k h. none (suc k) (omega arith)) here in
    rw (ne_eqb b 10 (none 0 (omega arith)), later, add-one (suc i), add-one i) refl

pub lines_last : (b : ℕ) (bs : List ℕ) → ((k : ℕ) → k < suc (length bs) → get_or (b ∷ bs) k 0 ≡ 10 → ⊥) → lines_of (b ∷ bs) ≡ (b ∷ bs) ∷ []
lines_last b [] none = rw (ne_eqb b 10 (none 0 (omega arith))) refl
lines_last b (c ∷ bs) none = rw (ne_eqb b 10 (none 0 (omega arith)), lines_last c bs (λ k h. none (suc k) (omega arith))) refl

pub lines_all : (bs : List ℕ) → 0 < length bs → ((k : ℕ) → k < length bs → get_or bs k 0 ≡ 10 → ⊥) → lines_of bs ≡ bs ∷ []
lines_all [] some none = absurd (omega arith)
lines_all (b ∷ bs) some none = lines_last b bs none

-- ---- numbers

pub digit_at : (digits : List ℕ) (i : ℕ) → i < length digits → list_all is_digit digits ≡ true → (48 ≤ get_or digits i 0) × (get_or digits i 0 ≤ 57)
digit_at [] i lt h = absurd (omega arith)
digit_at (d ∷ digits) zero lt h =
    let b = and_parts (leb 48 d) (leb d 57) (and_parts (is_digit d) (list_all is_digit digits) h).0 in
    (leb-true 48 d b.0, leb-true d 57 b.1)
digit_at (d ∷ digits) (suc i) lt h = digit_at digits i (omega arith) (and_parts (is_digit d) (list_all is_digit digits) h).1

pub power_small : (i : ℕ) → i ≤ 9 → 10 ^ i ≤ 1000000000
power_small i le = pow-le-pow_right {n = 10} (lit< tt) le

pub number_more : (digits : List ℕ) (i : ℕ) → i < length digits → number_value (take (i + 1) digits) ≡ 10 * number_value (take i digits) + (get_or digits i 0 - 48)
number_more digits i lt = fold_more (λ n b. 10 * n + (b - 48)) 0 digits i 0 lt

pub power_more : (i value digit : ℕ) → value < 10 ^ i → digit ≤ 9 → 10 * value + digit < 10 ^ (i + 1)
power_more i value digit lt le = rw (add-one i, pow-suc 10 i) (omega (arith, lt, le))

pub no_equals : (field : List ℕ) → ((k : ℕ) → k < length field → get_or field k 0 ≡ 61 → ⊥) → list_any (λ b. eqb b 61) field ≡ false
no_equals [] none = refl
no_equals (b ∷ bs) none = rw (ne_eqb b 61 (none 0 (omega arith)), no_equals bs (λ k h. none (suc k) (omega arith))) refl

-- ---- a line, cut where its visible bytes end

-- so many bytes at the front are visible
abbrev pub IsVisibleFront : List ℕ → ℕ → Type 0
IsVisibleFront bs i = (k : ℕ) → k < i → is_between 33 126 (get_or bs k 0) ≡ true

not_space : (b : ℕ) → is_between 33 126 b ≡ true → (eqb b 32 ≡ false) × (is_between 32 126 b ≡ true)
not_space b h =
    let p = and_parts (leb 33 b) (leb b 126) h in
    let low = leb-true 33 b p.0 in
    (ne_eqb b 32 (λ e. absurd (omega (arith, low, e))), rw (le-leb 32 b (omega (arith, low)), p.1) refl)

pub cut_at : (bs : List ℕ) (i : ℕ) → i < length bs → IsVisibleFront bs i → get_or bs i 0 ≡ 32
    → (fields_of bs ≡ take i bs ∷ fields_of (drop (i + 1) bs)) × (is_ascii_line bs ≡ is_ascii_line (drop (i + 1) bs))
cut_at [] i lt front here = absurd (omega arith)
cut_at (b ∷ bs) zero lt front here = rw here (refl, refl)
cut_at (b ∷ bs) (suc i) lt front here =
    let n = not_space b (front 0 (omega arith)) in
    let later = cut_at bs i (omega arith) (λ k h. front (suc k) (omega arith)) here in
    (rw (n.0, later.0, add-one (suc i), add-one i) refl, rw (n.1, later.1, add-one (suc i), add-one i) refl)

pub cut_unlike : (bs : List ℕ) (i : ℕ) → i < length bs → is_between 32 126 (get_or bs i 0) ≡ false → is_ascii_line bs ≡ false
cut_unlike [] i lt here = absurd (omega arith)
cut_unlike (b ∷ bs) zero lt here = rw here refl
cut_unlike (b ∷ bs) (suc i) lt here = rw (cut_unlike bs i (omega arith) here) (and-false (is_between 32 126 b))

pub cut_whole : (bs : List ℕ) → IsVisibleFront bs (length bs) → (fields_of bs ≡ bs ∷ []) × (is_ascii_line bs ≡ true)
cut_whole [] front = (refl, refl)
cut_whole (b ∷ bs) front =
    let n = not_space b (front 0 (omega arith)) in
    let later = cut_whole bs (λ k h. front (suc k) (omega arith)) in
    (rw (n.0, later.0) refl, rw (n.1, later.1) refl)

pub not_ascii : (b : ℕ) → is_between 33 126 b ≡ false → eqb b 32 ≡ false → is_between 32 126 b ≡ false
not_ascii b h apart = false_from_ne_true (is_between 32 126 b) (λ e.
    let p = and_parts (leb 32 b) (leb b 126) e in
    let low = leb-true 32 b p.0 in
    let unlike = eqb-false b 32 apart in
    both_ways (is_between 33 126 b) h (rw (le-leb 33 b (omega (arith, low, unlike)), p.1) refl))

-- ---- names between commas

-- so many bytes at the front are no comma
abbrev pub HasNoComma : List ℕ → ℕ → Type 0
HasNoComma bs i = (k : ℕ) → k < i → eqb (get_or bs k 0) 44 ≡ false

pub comma_at : (bs : List ℕ) (i : ℕ) → i < length bs → HasNoComma bs i → eqb (get_or bs i 0) 44 ≡ true → names_in bs ≡ take i bs ∷ names_in (drop (i + 1) bs)
comma_at [] i lt front here = absurd (omega arith)
comma_at (b ∷ bs) zero lt front here = rw here refl
comma_at (b ∷ bs) (suc i) lt front here =
    let later = comma_at bs i (omega arith) (λ k h. front (suc k) (omega arith)) here in
    rw (front 0 (omega arith), later, add-one (suc i), add-one i) refl

pub comma_none : (bs : List ℕ) → HasNoComma bs (length bs) → names_in bs ≡ bs ∷ []
comma_none [] front = refl
comma_none (b ∷ bs) front = rw (front 0 (omega arith), comma_none bs (λ k h. front (suc k) (omega arith))) refl

-- the first name, and those after it, if any
pub first_name : (bs : List ℕ) (i : ℕ) → i ≤ length bs → HasNoComma bs i → (i < length bs → eqb (get_or bs i 0) 44 ≡ true)
    → (later : List (List ℕ)) × (names_in bs ≡ take i bs ∷ later)
first_name bs i le front stop = elim (cases_Bool (ltb i (length bs))) [
  | inl lt ↦ let lt' = ltb-true i (length bs) lt in (names_in (drop (i + 1) bs), comma_at bs i lt' front (stop lt'))
  | inr ge ↦ let whole : i ≡ length bs = omega (arith, le, ltb-false i (length bs) ge) in ([], rw (whole, take_all (length bs) bs (omega arith)) (comma_none bs (rw whole at front)))
]
