-- A row of rows of zeros, as one row.
use Rattle.std.proofs.Common.{◌≡◌, ◌≤◌, ℕ, zero, suc, ◌+◌, ◌*◌, List, ◌++◌, length, take, replicate}
use Rattle.std.proofs.Common.{sym, ap, ◌∙◌, arith}
use Rattle.std.specs.List.{flat_map}
use Rattle.std.proofs.lemmas.List.{take-replicate, length-replicate, replicate-append-replicate}

flat_rows : (a b x : ℕ) → flat_map (λ t. t) (replicate a (replicate b x)) ≡ replicate (a * b) x
flat_rows zero b x = ap (λ z. replicate z x) (let e : 0 ≡ 0 * b = omega arith in e)
flat_rows (suc a) b x = ap (λ t. replicate b x ++ t) (flat_rows a b x) ∙ replicate-append-replicate b (a * b) x
    ∙ ap (λ z. replicate z x) (let e : b + a * b ≡ suc a * b = omega arith in e)

module _ (a b n : ℕ) (row : List ℕ) (is : row ≡ flat_map (λ t. t) (replicate a (replicate b 0))) (few : n ≤ a * b) where
  pub first_zeros : take n row ≡ replicate n 0
  first_zeros = ap (λ t. take n t) (is ∙ flat_rows a b 0) ∙ take-replicate n (a * b) 0 few

  pub first_many : n ≡ length (take n row)
  first_many = sym (ap length first_zeros ∙ length-replicate n 0)
