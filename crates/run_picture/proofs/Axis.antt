-- The axis, one stamp more.
use Rattle.std.proofs.Common.{◌≡◌, ℕ, zero, suc, ◌+◌, List, ◌++◌, ap, sym, ◌∙◌, append_assoc, append-nil, arith}
use Rattle.std.specs.List.{flat_map, range_with_len}

more_from : (f : ℕ → List ℕ) (a n j : ℕ) → a + n ≡ j
    → flat_map f (range_with_len a (suc n)) ≡ flat_map f (range_with_len a n) ++ f j
more_from f a zero j e =
    let same : a ≡ j = omega (arith, e) in
    append-nil (f a) ∙ ap f same
more_from f a (suc n) j e =
    let next : a + 1 + n ≡ j = omega (arith, e) in
    ap (λ w. f a ++ w) (more_from f (a + 1) n j next)
    ∙ sym (append_assoc (f a) (flat_map f (range_with_len (a + 1) n)) (f j))

pub axis_more : (f : ℕ → List ℕ) (n : ℕ)
    → flat_map f (range_with_len 0 (n + 1)) ≡ flat_map f (range_with_len 0 n) ++ f n
axis_more f n =
    let next : n + 1 ≡ suc n = omega arith in
    ap (λ (k : ℕ). flat_map f (range_with_len 0 k)) next ∙ more_from f 0 n n (omega arith)
