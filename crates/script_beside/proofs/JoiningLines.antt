-- The lines of bytes that stand one after another, and their numbers.
use Rattle.std.proofs.Common.{◌≡◌, inl, inr, ℕ, ◌+◌, ◌<◌, ◌≤◌, Bool, true, false, cond, eqb, List, [], ◌∷◌, ◌++◌, length, map, refl, sym, ap, ◌∙◌, arith, append_assoc}
use Rattle.std.specs.Prelude.{not, ◌==◌}
use Rattle.std.specs.List.{count_by, enumerate_from, onto_first}
use Rattle.std.proofs.lemmas.Bool.{ne_eqb}
use Rattle.std.proofs.lemmas.List.Elements.{filter-append}
use Rattle.std.proofs.lemmas.List.Sums.{sum_by-cons}
use Rattle.script_text.specs.Pieces.{lines_of}
use Rattle.script_text.specs.Grammar.{is_passed_over, said_lines}
use Rattle.script_beside.specs.Joining.{EndsALine}

-- ---- where a line ends

onto_append : (b : ℕ) (xs ys : List (List ℕ)) → 0 < length xs → onto_first b (xs ++ ys) ≡ onto_first b xs ++ ys
onto_append b [] ys lt = absurd (omega (arith, lt))
onto_append b (x ∷ xs) ys lt = refl

onto_length : (b : ℕ) (xs : List (List ℕ)) → 0 < length xs → length (onto_first b xs) ≡ length xs
onto_length b [] lt = absurd (omega (arith, lt))
onto_length b (x ∷ xs) lt = refl

onto_few : (b n : ℕ) (xs : List (List ℕ)) → length xs ≤ n + 1 → length (onto_first b xs) ≤ n + 1
onto_few b n [] le = omega arith
onto_few b n (x ∷ xs) le = le

has_lines : (front : List ℕ) → 0 < length (lines_of (front ++ 10 ∷ []))
has_lines [] = omega arith
has_lines (b ∷ bs) = of (eqb b 10) (lines_of (bs ++ 10 ∷ [])) where
  of : (test : Bool) (more : List (List ℕ)) → 0 < length (cond test ([] ∷ more) (onto_first b more))
  of true more = omega arith
  of false [] = omega arith
  of false (x ∷ xs) = omega arith

pub lines_ended : (front b : List ℕ) → lines_of (front ++ 10 ∷ b) ≡ lines_of (front ++ 10 ∷ []) ++ lines_of b
lines_ended [] b = refl
lines_ended (c ∷ cs) b = of (eqb c 10) (lines_of (cs ++ 10 ∷ b)) (lines_of (cs ++ 10 ∷ [])) (has_lines cs) (lines_ended cs b) where
  of : (test : Bool) (whole front : List (List ℕ)) → 0 < length front → whole ≡ front ++ lines_of b
      → cond test ([] ∷ whole) (onto_first c whole) ≡ cond test ([] ∷ front) (onto_first c front) ++ lines_of b
  of true whole front lt e = ap (λ (l : List (List ℕ)). [] ∷ l) e
  of false whole front lt e = ap (onto_first c) e ∙ onto_append c front (lines_of b) lt

-- the lines of what follows bytes that end a line are lines of their own
pub lines_joined : (a b : List ℕ) → EndsALine a → lines_of (a ++ b) ≡ lines_of a ++ lines_of b
lines_joined a b (inl none) = rw none refl
lines_joined a b (inr ended) = rw ended.1 (ap lines_of (append_assoc ended.0 (10 ∷ []) b) ∙ lines_ended ended.0 b)

-- ---- how many lines there are

abbrev feeds : List ℕ → ℕ
feeds bytes = count_by (λ b. b == 10) bytes

feeds-cons : (b : ℕ) (bs : List ℕ) → feeds (b ∷ bs) ≡ cond (eqb b 10) 1 0 + feeds bs
feeds-cons b bs = sum_by-cons (λ (c : ℕ). cond (eqb c 10) 1 0) b bs

front_counted : (front : List ℕ) → length (lines_of (front ++ 10 ∷ [])) ≡ feeds (front ++ 10 ∷ [])
front_counted [] = refl
front_counted (c ∷ cs) =
    of (eqb c 10) (lines_of (cs ++ 10 ∷ [])) (has_lines cs) (front_counted cs) ∙ sym (feeds-cons c (cs ++ 10 ∷ [])) where
      of : (test : Bool) (more : List (List ℕ)) → 0 < length more → length more ≡ feeds (cs ++ 10 ∷ [])
          → length (cond test ([] ∷ more) (onto_first c more)) ≡ cond test 1 0 + feeds (cs ++ 10 ∷ [])
      of true more lt e = omega (arith, e)
      of false more lt e = onto_length c more lt ∙ omega (arith, e)

-- bytes that end a line have as many lines as line feeds
pub lines_counted : (bytes : List ℕ) → EndsALine bytes → length (lines_of bytes) ≡ count_by (λ b. b == 10) bytes
lines_counted bytes (inl none) = rw none refl
lines_counted bytes (inr ended) = rw ended.1 (front_counted ended.0)

-- and all bytes at most one more
pub lines_at_most : (bytes : List ℕ) → length (lines_of bytes) ≤ count_by (λ b. b == 10) bytes + 1
lines_at_most [] = omega arith
lines_at_most (b ∷ bs) = of (eqb b 10) (lines_of bs) (lines_at_most bs) (feeds-cons b bs) where
  of : (test : Bool) (more : List (List ℕ)) → length more ≤ feeds bs + 1 → feeds (b ∷ bs) ≡ cond test 1 0 + feeds bs
      → length (cond test ([] ∷ more) (onto_first b more)) ≤ feeds (b ∷ bs) + 1
  of true more le e = omega (arith, le, e)
  of false more le e = let few = onto_few b (feeds bs) more le in omega (arith, few, e)

-- ---- their numbers

enumerate_joined : {X : Type 0} (n : ℕ) (xs ys : List X) → enumerate_from n (xs ++ ys) ≡ enumerate_from n xs ++ enumerate_from (n + length xs) ys
enumerate_joined n [] ys = let e : n ≡ n + 0 = omega arith in ap (λ k. enumerate_from k ys) e
enumerate_joined n (x ∷ xs) ys =
    let e : n + 1 + length xs ≡ n + length (x ∷ xs) = omega arith in
    ap (λ l. (n, x) ∷ l) (enumerate_joined (n + 1) xs ys ∙ ap (λ k. enumerate_from (n + 1) xs ++ enumerate_from k ys) e)

-- what the lines say, and then what those after them say
pub said_joined : (n : ℕ) (xs ys : List (List ℕ))
    → said_lines (enumerate_from n (xs ++ ys)) ≡ said_lines (enumerate_from n xs) ++ said_lines (enumerate_from (n + length xs) ys)
said_joined n xs ys =
    ap said_lines (enumerate_joined n xs ys)
    ∙ filter-append (λ (line : ℕ × List ℕ). not (is_passed_over line)) (enumerate_from n xs) (enumerate_from (n + length xs) ys)

-- the line, so many lines further down
abbrev pub moved : ℕ → ℕ × List ℕ → ℕ × List ℕ
moved k line = (line.0 + k, line.1)

enumerate_moved : (k n : ℕ) (xs : List (List ℕ)) → enumerate_from (n + k) xs ≡ map (moved k) (enumerate_from n xs)
enumerate_moved k n [] = refl
enumerate_moved k n (x ∷ xs) =
    let e : n + k + 1 ≡ n + 1 + k = omega arith in
    ap (λ (l : List (ℕ × List ℕ)). (n + k, x) ∷ l) (ap (λ m. enumerate_from m xs) e ∙ enumerate_moved k (n + 1) xs)

passed_alike : (k n : ℕ) (x : List ℕ) → 1 < n → is_passed_over (n + k, x) ≡ is_passed_over (n, x)
passed_alike k n x lt =
    let below : eqb n 1 ≡ false = ne_eqb n 1 (λ e. omega (arith, lt, e)) in
    let further : eqb (n + k) 1 ≡ false = ne_eqb (n + k) 1 (λ e. omega (arith, lt, e)) in
    rw (below, further) refl

said_alike : (k n : ℕ) (xs : List (List ℕ)) → 1 < n → said_lines (map (moved k) (enumerate_from n xs)) ≡ map (moved k) (said_lines (enumerate_from n xs))
said_alike k n [] lt = refl
said_alike k n (x ∷ xs) lt =
    ap (λ test. cond (not test) ((n + k, x) ∷ said_lines (map (moved k) (enumerate_from (n + 1) xs))) (said_lines (map (moved k) (enumerate_from (n + 1) xs))))
    (passed_alike k n x lt)
    ∙ of (is_passed_over (n, x)) (said_alike k (n + 1) xs (omega (arith, lt))) where
      of : (test : Bool) → said_lines (map (moved k) (enumerate_from (n + 1) xs)) ≡ map (moved k) (said_lines (enumerate_from (n + 1) xs))
          → cond (not test) ((n + k, x) ∷ said_lines (map (moved k) (enumerate_from (n + 1) xs))) (said_lines (map (moved k) (enumerate_from (n + 1) xs)))
          ≡ map (moved k) (cond (not test) ((n, x) ∷ said_lines (enumerate_from (n + 1) xs)) (said_lines (enumerate_from (n + 1) xs)))
      of true e = e
      of false e = ap (λ (l : List (ℕ × List ℕ)). (n + k, x) ∷ l) e

-- Behind line 1, the same lines further down say the same further down.
pub said_moved : (k n : ℕ) (xs : List (List ℕ)) → 1 < n → said_lines (enumerate_from (n + k) xs) ≡ map (moved k) (said_lines (enumerate_from n xs))
said_moved k n xs lt = ap said_lines (enumerate_moved k n xs) ∙ said_alike k n xs lt
