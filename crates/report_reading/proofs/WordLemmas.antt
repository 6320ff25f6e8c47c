-- Words, numbers and names: what is printed is read again where no letter or digit stands behind it.
use Rattle.std.proofs.Common.{◌≡◌, ℕ, zero, suc, ◌+◌, ◌*◌, ◌-◌, ◌/◌, ◌%◌, ◌^◌, ◌<◌, Bool, true, false, not, ◌||◌, eqb, length-append, List, [], ◌∷◌, ◌++◌, length, Some, refl, ap, ◌∙◌, append_assoc, arith, inl, inr}
use Rattle.std.specs.Prelude.{decimal}
use Rattle.std.specs.List.{list_all}
use Rattle.std.specs.Str.{bytes_eq}
use Rattle.std.proofs.lemmas.Bool.{cases_Bool, and_parts, le-leb, false_from_ne_true, both_ways, eqb-true}
use Rattle.std.proofs.lemmas.List.{take_at, drop_at}
use Rattle.std.proofs.lemmas.Fmt.{decimal_by_steps, decimal_nonempty}
use Rattle.std.proofs.lemmas.Slice.Eq.{bytes_eq-Decides}
use Rattle.std.proofs.Math.Nat.{mod-eq_of_lt}
use Rattle.script_text.specs.Pieces.{is_letter_or_digit, is_letter, is_digit, number_of, name_of}
use Rattle.report_reading.specs.Pieces.{first_of, behind_word, word_len, word_at, digits_at, number_at, small_at, byte_at, named_at}

-- a byte before a text that goes on
pub cons_on : (b : ℕ) (xs ys : List ℕ) → (b ∷ xs) ++ ys ≡ b ∷ (xs ++ ys)
cons_on b xs ys = refl

pub nil_on : (ys : List ℕ) → [] ++ ys ≡ ys
nil_on ys = refl

-- a line is no empty text
pub line_some : (xs : List ℕ) → 0 < length (xs ++ (10 ∷ []))
line_some xs = omega (arith, length-append xs (10 ∷ []))

-- no letter or digit comes next
abbrev pub ends : List ℕ → Bool
ends [] = true
ends (b ∷ bs) = not (is_letter_or_digit b)

not_true : (b : Bool) → not b ≡ true → b ≡ false
not_true true e = absurd cc
not_true false e = refl

pub right_false : (a b : Bool) → (a || b) ≡ false → b ≡ false
right_false true b e = absurd cc
right_false false b e = e

word_len_end : (rest : List ℕ) → ends rest ≡ true → word_len rest ≡ 0
word_len_end [] e = refl
word_len_end (b ∷ bs) e = rw (not_true (is_letter_or_digit b) e) refl

word_len_again : (w rest : List ℕ) → list_all is_letter_or_digit w ≡ true → ends rest ≡ true → word_len (w ++ rest) ≡ length w
word_len_again [] rest all e = word_len_end rest e
word_len_again (b ∷ w) rest all e =
    let p = and_parts (is_letter_or_digit b) (list_all is_letter_or_digit w) all in
    rw (p.0) (ap suc (word_len_again w rest p.1 e))

pub word_again : (w rest : List ℕ) → list_all is_letter_or_digit w ≡ true → ends rest ≡ true → word_at (w ++ rest) ≡ (w, rest)
unfolding word_at
word_again w rest all e = rw (word_len_again w rest all e, take_at w rest (length w) refl, drop_at w rest (length w) refl) refl

-- ---- numbers

digits_end : (n : ℕ) (rest : List ℕ) → ends rest ≡ true → digits_at n rest ≡ (n, rest)
digits_end n [] e = refl
digits_end n (b ∷ bs) e = rw (right_false (is_letter b) (is_digit b) (not_true (is_letter_or_digit b) e)) refl

digit_next : (q d m : ℕ) (rest : List ℕ) → d < 10 → m ≡ 10 * q + d → m < 2 ^ 64 → digits_at q ((48 + d) ∷ rest) ≡ digits_at m rest
digit_next q d m rest small is fits =
    let ten : q * 10 % 2 ^ 64 ≡ q * 10 = mod-eq_of_lt (omega (arith, is, fits)) in
    let digit : 48 + d - 48 ≡ d = omega arith in
    let value : (q * 10 + d) % 2 ^ 64 ≡ m = mod-eq_of_lt (omega (arith, is, fits)) ∙ omega (arith, is) in
    rw (le-leb 48 (48 + d) (omega arith), le-leb (48 + d) 57 (omega (arith, small)), digit, ten, value) refl

digits_again : (n : ℕ) → n < 2 ^ 64 → (rest : List ℕ) → digits_at 0 (decimal n ++ rest) ≡ digits_at n rest
digits_again n lt = decimal_by_steps
    (λ n ds. n < 2 ^ 64 → (rest : List ℕ) → digits_at 0 (ds ++ rest) ≡ digits_at n rest)
    (λ n small fits rest. digit_next 0 n n rest small (omega arith) fits)
    (λ n ds ten so_far fits rest.
    ap (digits_at 0) (append_assoc ds ((48 + n % 10) ∷ []) rest) ∙ so_far (omega (arith, fits)) ((48 + n % 10) ∷ rest)
    ∙ digit_next (n / 10) (n % 10) n rest (omega arith) (omega arith) fits)
    n lt lt

pub number_again : (n : ℕ) (rest : List ℕ) → n < 2 ^ 64 → ends rest ≡ true → number_at (decimal n ++ rest) ≡ (n, rest)
unfolding number_at
number_again n rest lt e = digits_again n lt rest ∙ digits_end n rest e

pub small_again : (n : ℕ) (rest : List ℕ) → n < 2 ^ 32 → ends rest ≡ true → small_at (decimal n ++ rest) ≡ (n, rest)
unfolding small_at
small_again n rest lt e = rw (number_again n rest (omega (arith, lt)) e, mod-eq_of_lt {n = n} {m = 2 ^ 32} lt) refl

pub byte_again : (n : ℕ) (rest : List ℕ) → n < 2 ^ 8 → ends rest ≡ true → byte_at (decimal n ++ rest) ≡ (n, rest)
unfolding byte_at
byte_again n rest lt e = rw (number_again n rest (omega (arith, lt)) e, mod-eq_of_lt {n = n} {m = 2 ^ 8} lt) refl

-- ---- names

-- no two names are alike
abbrev pub Differ : List (List ℕ) → Type 0
Differ names = (m n : ℕ) → m < length names → n < length names → name_of names m ≡ name_of names n → m ≡ n

number_again_of : (names : List (List ℕ)) (n : ℕ) → n < length names → Differ names → number_of names (name_of names n) ≡ Some n
number_again_of [] n lt differ = absurd (omega (arith, lt))
number_again_of (first ∷ names) zero lt differ = rw ((bytes_eq-Decides first first).1 refl) refl
number_again_of (first ∷ names) (suc n) lt differ =
    let other : bytes_eq (name_of names n) first ≡ false = false_from_ne_true (bytes_eq (name_of names n) first) (λ same.
    let one = differ (suc n) 0 lt (omega arith) ((bytes_eq-Decides (name_of names n) first).0 same) in absurd (omega (arith, one))) in
    let later = number_again_of names n (omega (arith, lt)) (λ i j p q e. let one = differ (suc i) (suc j) (omega (arith, p)) (omega (arith, q)) e in omega (arith, one)) in
    rw (other, later) refl

pub named_again : (names : List (List ℕ)) (n : ℕ) (rest : List ℕ) → n < length names → Differ names → list_all is_letter_or_digit (name_of names n) ≡ true → ends rest ≡ true
    → named_at names (name_of names n ++ rest) ≡ (n, rest)
unfolding named_at
named_again names n rest lt differ word e = rw (word_again (name_of names n) rest word e, number_again_of names n lt differ) refl

-- ---- what a number begins with

digit_is : (d : ℕ) → d < 10 → is_digit (48 + d) ≡ true
digit_is d small = rw (le-leb 48 (48 + d) (omega arith), le-leb (48 + d) 57 (omega (arith, small))) refl

-- a number begins with a digit
pub decimal_front : (n : ℕ) (rest : List ℕ) → n < 2 ^ 64 → is_digit (first_of (decimal n ++ rest)) ≡ true
decimal_front n rest lt = decimal_by_steps
    (λ n ds. (rest : List ℕ) → is_digit (first_of (ds ++ rest)) ≡ true)
    (λ n small rest. digit_is n small)
    (λ n ds ten so_far rest. rw (append_assoc ds ((48 + n % 10) ∷ []) rest) (so_far ((48 + n % 10) ∷ rest)))
    n lt rest

-- a digit is no byte that is none
pub digit_unlike : (b c : ℕ) → is_digit b ≡ true → is_digit c ≡ false → eqb b c ≡ false
digit_unlike b c digit other = false_from_ne_true (eqb b c) (λ same. both_ways (is_digit c) other (rw (← eqb-true b c same) digit))

-- a number is no empty text
pub decimal_some : (n : ℕ) (rest : List ℕ) → n < 2 ^ 64 → 0 < length (decimal n ++ rest)
decimal_some n rest lt = let one = decimal_nonempty n lt in omega (arith, one, length-append (decimal n) rest)

-- ---- what stands behind a word

pub behind_word_is : (w : List ℕ) (c : ℕ) (rest : List ℕ) → list_all is_letter_or_digit w ≡ true → is_letter_or_digit c ≡ false → behind_word (32 ∷ (w ++ (c ∷ rest))) ≡ c
behind_word_is w c rest all other = rw (word_again w (c ∷ rest) all (ap not other)) refl

-- ---- what a word begins with

-- a word begins with a letter or a digit
pub word_front : (w rest : List ℕ) → list_all is_letter_or_digit w ≡ true → 0 < length w → is_letter_or_digit (first_of (w ++ rest)) ≡ true
word_front [] rest all some = absurd (omega (arith, some))
word_front (b ∷ w) rest all some = (and_parts (is_letter_or_digit b) (list_all is_letter_or_digit w) all).0

-- a letter or a digit is no byte that is none
pub letter_unlike : (b c : ℕ) → is_letter_or_digit b ≡ true → is_letter_or_digit c ≡ false → eqb b c ≡ false
letter_unlike b c letter other = false_from_ne_true (eqb b c) (λ same. both_ways (is_letter_or_digit c) other (rw (← eqb-true b c same) letter))

-- ---- what is read as a word

-- letters and digits alone
pub word_letters : (bytes : List ℕ) → list_all is_letter_or_digit (word_at bytes).0 ≡ true
unfolding word_at
word_letters [] = refl
word_letters (b ∷ bs) = elim (cases_Bool (is_letter_or_digit b)) [
  | inl letter ↦ rw (letter) (rw (letter) (word_letters bs))
  | inr other ↦ rw (other) refl
]
