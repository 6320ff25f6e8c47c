-- Pieces that are joined, one piece more.
use Rattle.std.proofs.Common.{◌≡◌, ℕ, ◌+◌, ◌<◌, suc, zero, List, [], ◌∷◌, ◌++◌, map, refl, ap, sym, ◌∙◌, append_assoc, arith}
use Rattle.std.proofs.lemmas.List.FromFn.{map-range_with_len_more}
use Rattle.std.specs.List.{range_with_len, join_with_byte}

join_push : (c : ℕ) (x : List ℕ) (xs : List (List ℕ)) (y : List ℕ) → join_with_byte c (x ∷ xs ++ y ∷ []) ≡ join_with_byte c (x ∷ xs) ++ c ∷ y
join_push c x [] y = refl
join_push c x (z ∷ zs) y = ap (λ w. x ++ c ∷ w) (join_push c z zs y) ∙ sym (append_assoc x (c ∷ join_with_byte c (z ∷ zs)) (c ∷ y))

-- one more number of a range, with the byte before it
pub join_more : (c : ℕ) (f : ℕ → List ℕ) (n : ℕ) → 0 < n → join_with_byte c (map f (range_with_len 0 (n + 1))) ≡ join_with_byte c (map f (range_with_len 0 n)) ++ c ∷ f n
join_more c f zero some = absurd (omega arith)
join_more c f (suc m) some =
    ap (join_with_byte c) (map-range_with_len_more f 0 (suc m) (suc m) (omega arith)) ∙ join_push c (f 0) (map f (range_with_len (0 + 1) m)) (f (suc m))
