-- The room that a reply wants: an object's keys have no more shards than there are keys, and its colours are as many as are listed.
use Rattle.std.proofs.Common.{◌≡◌, ℕ, zero, suc, ◌+◌, ◌<◌, ◌≤◌, Bool, true, false, cond, ◌||◌, List, [], ◌∷◌, length, refl, arith}
use Rattle.std.specs.Prelude.{◌==◌}
use Rattle.std.specs.List.{filter, list_any, range_with_len}
use Rattle.std.proofs.lemmas.Bool.{eqb-true}
use Rattle.log_node.specs.declared.limits.TheConstants.{MAX_COLOURS}
use Rattle.object_fold.specs.Nodes.{shard_of}
use Rattle.lawful_run.specs.Asks.{rising, shards}

none_pass : (xs : List ℕ) → length (filter (λ n. false) xs) ≡ 0
none_pass [] = refl
none_pass (x ∷ xs) = none_pass xs

-- no number from one on is a smaller one
none_above : (v from count : ℕ) → v < from → length (filter (λ n. v == n) (range_with_len from count)) ≡ 0
none_above v from zero lt = refl
none_above v from (suc count) lt = by (v == from) refl (none_above v (from + 1) count (omega (arith, lt))) where
  by : (b : Bool) → (v == from) ≡ b → length (filter (λ n. v == n) (range_with_len (from + 1) count)) ≡ 0
      → length (cond b (from ∷ filter (λ n. v == n) (range_with_len (from + 1) count))
      (filter (λ n. v == n) (range_with_len (from + 1) count))) ≡ 0
  by true is rest = absurd (let same = eqb-true v from is in omega (arith, same, lt))
  by false is rest = rest

-- a number is one of those from another on at most once
one_passes : (v from count : ℕ) → length (filter (λ n. v == n) (range_with_len from count)) ≤ 1
one_passes v from zero = omega arith
one_passes v from (suc count) = by (v == from) refl (one_passes v (from + 1) count) where
  by : (b : Bool) → (v == from) ≡ b → length (filter (λ n. v == n) (range_with_len (from + 1) count)) ≤ 1
      → length (cond b (from ∷ filter (λ n. v == n) (range_with_len (from + 1) count))
      (filter (λ n. v == n) (range_with_len (from + 1) count))) ≤ 1
  by true is rest =
      let same = eqb-true v from is in
      let none = none_above v (from + 1) count (omega (arith, same)) in
      omega (arith, none)
  by false is rest = rest

-- those that pass one of two tests are no more than those that pass the one, and those that pass the other
either_passes : (p q : ℕ → Bool) (xs : List ℕ)
    → length (filter (λ n. p n || q n) xs) ≤ length (filter p xs) + length (filter q xs)
either_passes p q [] = omega arith
either_passes p q (x ∷ xs) = by (p x) (q x) (either_passes p q xs) where
  by : (a b : Bool) → length (filter (λ n. p n || q n) xs) ≤ length (filter p xs) + length (filter q xs)
      → length (cond (a || b) (x ∷ filter (λ n. p n || q n) xs) (filter (λ n. p n || q n) xs))
      ≤ length (cond a (x ∷ filter p xs) (filter p xs)) + length (cond b (x ∷ filter q xs) (filter q xs))
  by true true rest = omega (arith, rest)
  by true false rest = omega (arith, rest)
  by false true rest = omega (arith, rest)
  by false false rest = rest

-- of the numbers from one on, no more are named by some things than there are things
few_named : {A : Type 0} (number : A → ℕ) (xs : List A) (from count : ℕ)
    → length (filter (λ n. list_any (λ x. number x == n) xs) (range_with_len from count)) ≤ length xs
few_named number [] from count = let none = none_pass (range_with_len from count) in omega (arith, none)
few_named {A} number (x ∷ xs) from count =
    let either = either_passes (λ n. number x == n) (λ n. list_any (λ (y : A). number y == n) xs) (range_with_len from count) in
    let one = one_passes (number x) from count in
    let rest = few_named number xs from count in
    omega (arith, either, one, rest)

pub shards_few : (colours : List ℕ) (keys : List (List ℕ)) → length (shards colours keys) ≤ length keys
shards_few colours keys = few_named (shard_of colours) keys 0 MAX_COLOURS

pub rising_few : (colours : List ℕ) → length (rising colours) ≤ length colours
rising_few colours = few_named (λ (d : ℕ). d) colours 0 MAX_COLOURS
