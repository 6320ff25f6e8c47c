-- What is written of numbers, however great: the digits of each, and a number for such digits.
use Rattle.std.proofs.Common.{◌≡◌, ◌⊎◌, ℕ, zero, suc, ◌+◌, ◌-◌, ◌*◌, ◌/◌, ◌%◌, ◌<◌, ◌≤◌, Bool, true, false, cond, eqb, leb, ltb, List, [], ◌∷◌, ◌++◌, length, get_or, inl, inr, refl, ap, sym, subst, ◌∙◌, arith, append_assoc, append-nil}
use Rattle.std.specs.List.{list_all}
use Rattle.std.specs.Fmt.{decimal}
use Rattle.std.specs.Fmt.{digit_glyph, digits, digits_onto}
use Rattle.std.proofs.lemmas.Bool.{and_parts, and_from, or_cases, or_left, or_right, cases_lt, leb-true, le-leb, ltb-true, lt-ltb, eqb-true, eq-eqb, ne_eqb, true≢false}
use Rattle.std.proofs.lemmas.Fmt.{decimal_digit}
use Rattle.std.proofs.lemmas.List.{length-append}
use Rattle.object_form.specs.Readings.{is_digit}
use Rattle.column_track.specs.Tracks.{Tells}
use Rattle.walk_law.specs.TextsSaid.{is_numeral}

-- a test tells what it is true of
pub tells_by : (b : Bool) (P : Type 0) → (b ≡ true → P) → (P → b ≡ true) → Tells b P
tells_by true P to from = to refl
tells_by false P to from = λ p. true≢false (sym (from p))

-- THE DIGITS OF A NUMBER

-- at most so many digits of a number, before others
abbrev spell : ℕ → ℕ → List ℕ → List ℕ
spell k n acc = digits_onto k 10 false n acc

spelled : (n : ℕ) → decimal n ≡ spell 64 n []
unfolding digits
spelled n = refl

last_digit : (n : ℕ) → digit_glyph false (n % 10) ≡ 48 + n % 10
last_digit n = ap (λ (b : Bool). cond b (48 + n % 10) (87 + n % 10)) (lt-ltb (n % 10) 10 (omega arith))

spell_last : (k n : ℕ) (acc : List ℕ) → n < 10 → spell (suc k) n acc ≡ (48 + n) ∷ acc
spell_last k n acc lt =
    let low : n % 10 ≡ n = omega (arith, lt) in
    ap (λ (b : Bool). cond b (digit_glyph false (n % 10) ∷ acc) (spell k (n / 10) (digit_glyph false (n % 10) ∷ acc)))
    (eq-eqb (n / 10) 0 (omega (arith, lt)))
    ∙ ap (λ (d : ℕ). d ∷ acc) (last_digit n ∙ ap (λ (d : ℕ). 48 + d) low)

spell_next : (k n : ℕ) (acc : List ℕ) → 10 ≤ n → spell (suc k) n acc ≡ spell k (n / 10) ((48 + n % 10) ∷ acc)
spell_next k n acc le =
    ap (λ (b : Bool). cond b (digit_glyph false (n % 10) ∷ acc) (spell k (n / 10) (digit_glyph false (n % 10) ∷ acc)))
    (ne_eqb (n / 10) 0 (λ e. omega (arith, le, e)))
    ∙ ap (λ (d : ℕ). spell k (n / 10) (d ∷ acc)) (last_digit n)

is_one : (d : ℕ) → d < 10 → is_digit (48 + d) ≡ true
is_one d lt = and_from (leb 48 (48 + d)) (leb (48 + d) 57) (le-leb 48 (48 + d) (omega arith)) (le-leb (48 + d) 57 (omega (arith, lt)))

all_more : (ds : List ℕ) (d : ℕ) → list_all is_digit ds ≡ true → is_digit d ≡ true → list_all is_digit (ds ++ d ∷ []) ≡ true
all_more [] d all one = and_from (is_digit d) true one refl
all_more (x ∷ ds) d all one =
    let both = and_parts (is_digit x) (list_all is_digit ds) all in
    and_from (is_digit x) (list_all is_digit (ds ++ d ∷ [])) both.0 (all_more ds d both.1 one)

first_more : (ds : List ℕ) (d : ℕ) → 0 < length ds → get_or (ds ++ d ∷ []) 0 0 ≡ get_or ds 0 0
first_more [] d some = absurd (let f : ⊥ = omega (arith, some) in f)
first_more (x ∷ ds) d some = refl

-- digits that are spelled: so many, or fewer that do not begin with a zero
record AreSpelled (k n : ℕ) (acc : List ℕ) : Type 0 where
  ds : List ℕ
  is : spell k n acc ≡ ds ++ acc
  all : list_all is_digit ds ≡ true
  long : (length ds ≡ k) ⊎ ((length ds < k) × (0 < length ds) × (48 < get_or ds 0 0))

one_left : (k n : ℕ) → 0 < n → (suc zero ≡ suc k) ⊎ ((1 < suc k) × (0 < 1) × (48 < 48 + n))
one_left zero n some = inl refl
one_left (suc k) n some = inr (omega arith, omega arith, omega (arith, some))

are_spelled : (k n : ℕ) (acc : List ℕ) → 0 < n → AreSpelled k n acc
are_spelled zero n acc some = record { ds = []; is = refl; all = refl; long = inl refl }
are_spelled (suc k) n acc some =
    elim (cases_lt n 10) [
      | inl lt ↦ record {
        ds = (48 + n) ∷ [];
        is = spell_last k n acc lt;
        all = and_from (is_digit (48 + n)) true (is_one n lt) refl;
        long = one_left k n some;
      }
      | inr ge ↦
          let d = 48 + n % 10 in
          let more = are_spelled k (n / 10) (d ∷ acc) (omega (arith, ge)) in
          let many = length-append more.ds (d ∷ []) in
          record {
            ds = more.ds ++ d ∷ [];
            is = spell_next k n acc ge ∙ (more.is ∙ sym (append_assoc more.ds (d ∷ []) acc));
            all = all_more more.ds d more.all (is_one (n % 10) (omega arith));
            long = elim more.long [
              | inl full ↦ inl (omega (arith, many, full))
              | inr few ↦
                  let short = few.0 in
                  let first = few.2 in
                  inr (omega (arith, many, short), omega (arith, many), subst (λ (x : ℕ). 48 < x) (sym (first_more more.ds d few.1)) first)
            ];
          }
    ]

numeral_by : (ds : List ℕ) → list_all is_digit ds ≡ true
    → (length ds ≡ 64) ⊎ ((length ds < 64) × (0 < length ds) × (48 < get_or ds 0 0)) → is_numeral ds ≡ true
numeral_by [] all (inl full) = absurd (let f : ⊥ = omega (arith, full) in f)
numeral_by [] all (inr few) = let some = few.1 in absurd (let f : ⊥ = omega (arith, some) in f)
numeral_by (b ∷ bs) all (inl full) =
    and_from (list_all is_digit (b ∷ bs)) _ all (or_left (eqb (length bs) 63) _ (eq-eqb (length bs) 63 (omega (arith, full))))
numeral_by (b ∷ bs) all (inr few) =
    let short = few.0 in
    let first = few.2 in
    and_from (list_all is_digit (b ∷ bs)) _ all (or_right (eqb (length bs) 63) _
    (and_from (ltb (length bs) 63) _ (lt-ltb (length bs) 63 (omega (arith, short))) (or_left (leb 49 b) _ (le-leb 49 b (omega (arith, first))))))

-- what is written of a number
pub written_is : (n : ℕ) → is_numeral (decimal n) ≡ true
written_is zero = ap is_numeral (decimal_digit 0 (omega arith))
written_is (suc n) =
    let s = are_spelled 64 (suc n) [] (omega arith) in
    ap is_numeral (spelled (suc n) ∙ (s.is ∙ append-nil s.ds)) ∙ numeral_by s.ds s.all s.long

-- all of it are digits
pub all_digits : (bs : List ℕ) → is_numeral bs ≡ true → list_all is_digit bs ≡ true
all_digits [] h = absurd (true≢false (sym h))
all_digits (b ∷ bs) h = (and_parts (list_all is_digit (b ∷ bs)) _ h).0

-- A NUMBER FOR DIGITS

-- the number whose digits are those of another with these behind them
abbrev onto : ℕ → List ℕ → ℕ
onto v [] = v
onto v (d ∷ ds) = onto (10 * v + (d - 48)) ds

digit_in : (d : ℕ) → is_digit d ≡ true → (48 ≤ d) × (d ≤ 57)
digit_in d h = let both = and_parts (leb 48 d) (leb d 57) h in (leb-true 48 d both.0, leb-true d 57 both.1)

spell_step : (k v d : ℕ) (acc : List ℕ) → 0 < v → is_digit d ≡ true → spell (suc k) (10 * v + (d - 48)) acc ≡ spell k v (d ∷ acc)
spell_step k v d acc some digit =
    let both_in = digit_in d digit in
    let low = both_in.0 in
    let high = both_in.1 in
    let front : (10 * v + (d - 48)) / 10 ≡ v = omega (arith, low, high) in
    let last : 48 + (10 * v + (d - 48)) % 10 ≡ d = omega (arith, low, high) in
    spell_next k (10 * v + (d - 48)) acc (omega (arith, some))
    ∙ (ap (λ (m : ℕ). spell k m ((48 + (10 * v + (d - 48)) % 10) ∷ acc)) front
    ∙ ap (λ (m : ℕ). spell k v (m ∷ acc)) last)

spell_back : (ds : List ℕ) (k v : ℕ) (acc : List ℕ) → 0 < v → list_all is_digit ds ≡ true
    → spell (k + length ds) (onto v ds) acc ≡ spell k v (ds ++ acc)
spell_back [] k v acc some all = ap (λ (j : ℕ). spell j v acc) (let e : k + 0 ≡ k = omega arith in e)
spell_back (d ∷ ds) k v acc some all =
    let both = and_parts (is_digit d) (list_all is_digit ds) all in
    ap (λ (j : ℕ). spell j (onto (10 * v + (d - 48)) ds) acc) (let e : k + suc (length ds) ≡ suc k + length ds = omega arith in e)
    ∙ (spell_back ds (suc k) (10 * v + (d - 48)) acc (omega (arith, some)) both.1
    ∙ spell_step k v d (ds ++ acc) some both.0)

-- digits of which there are 64
full_back : (ds : List ℕ) → list_all is_digit ds ≡ true → length ds ≡ 64 → (n : ℕ) × (ds ≡ decimal n)
full_back ds all full = (
  onto 1 ds,
  sym (spelled (onto 1 ds)
      ∙ (ap (λ (j : ℕ). spell j (onto 1 ds) []) (sym full)
      ∙ (ap (λ (j : ℕ). spell j (onto 1 ds) []) (let e : length ds ≡ 0 + length ds = omega arith in e)
      ∙ (spell_back ds 0 1 [] (omega arith) all ∙ append-nil ds)))),
)

-- fewer, that do not begin with a zero
few_back : (b : ℕ) (bs : List ℕ) → list_all is_digit (b ∷ bs) ≡ true → length bs < 63 → 49 ≤ b → (n : ℕ) × (b ∷ bs ≡ decimal n)
few_back b bs all few first =
    let both = and_parts (is_digit b) (list_all is_digit bs) all in
    let both_in = digit_in b both.0 in
    let high = both_in.1 in
    let k = 63 - length bs in
    let long : 64 ≡ suc k + length bs = omega (arith, few) in
    let same : 48 + (b - 48) ≡ b = omega (arith, first) in (
      onto (b - 48) bs,
      sym (spelled (onto (b - 48) bs)
          ∙ (ap (λ (j : ℕ). spell j (onto (b - 48) bs) []) long
          ∙ (spell_back bs (suc k) (b - 48) [] (omega (arith, first)) both.1
          ∙ (spell_last k (b - 48) (bs ++ []) (omega (arith, high))
          ∙ (ap (λ (x : ℕ). x ∷ (bs ++ [])) same ∙ ap (λ (l : List ℕ). b ∷ l) (append-nil bs)))))),
    )

-- just one
one_back : (b : ℕ) → is_digit b ≡ true → (n : ℕ) × (b ∷ [] ≡ decimal n)
one_back b digit =
    let both_in = digit_in b digit in
    let low = both_in.0 in
    let high = both_in.1 in
    let same : 48 + (b - 48) ≡ b = omega (arith, low) in
    (b - 48, sym (decimal_digit (b - 48) (omega (arith, high)) ∙ ap (λ (x : ℕ). x ∷ []) same))

-- such digits are what is written of some number
pub number_of : (bs : List ℕ) → is_numeral bs ≡ true → (n : ℕ) × (bs ≡ decimal n)
number_of [] h = absurd (true≢false (sym h))
number_of (b ∷ []) h = one_back b (and_parts (is_digit b) true (and_parts (list_all is_digit (b ∷ [])) _ h).0).0
number_of (b ∷ c ∷ bs) h =
    let both = and_parts (list_all is_digit (b ∷ c ∷ bs)) _ h in
    let rest = length (c ∷ bs) in
    elim (or_cases (eqb rest 63) _ both.1) [
      | inl full ↦
          let many = eqb-true rest 63 full in
          full_back (b ∷ c ∷ bs) both.0 (omega (arith, many))
      | inr few ↦
          let parts = and_parts (ltb rest 63) _ few in
          elim (or_cases (leb 49 b) _ parts.1) [
            | inl first ↦ few_back b (c ∷ bs) both.0 (ltb-true rest 63 parts.0) (leb-true 49 b first)
            | inr none ↦ let e = eqb-true rest 0 none in absurd (let f : ⊥ = omega (arith, e) in f)
          ]
    ]

pub numeral_told : (bs : List ℕ) → Tells (is_numeral bs) ((n : ℕ) × (bs ≡ decimal n))
numeral_told bs = tells_by (is_numeral bs) _ (number_of bs) (λ s. ap is_numeral s.1 ∙ written_is s.0)
