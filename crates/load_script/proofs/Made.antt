-- What loops make, one element after another.
use Rattle.std.proofs.Common.{◌≡◌, ℕ, ◌+◌, List, [], ◌∷◌, ◌++◌, map, refl, ap, sym, ◌∙◌, arith, append_assoc}
use Rattle.std.specs.List.{flat_map, range_with_len}
use Rattle.std.proofs.lemmas.List.{map-id, flat_map_more}
use Rattle.std.proofs.lemmas.List.FromFn.{map-range_with_len_more}

-- one element more of those that a function makes of the numbers
pub one_made : {X : Type 0} (f : ℕ → X) (first now new : List X) (x : X) (n : ℕ) → now ≡ first ++ map f
    (range_with_len 0 n)
    → x ≡ f n → new ≡ now ++ x ∷ [] → new ≡ first ++ map f (range_with_len 0 (n + 1))
one_made {X} f first now new x n before is pushed =
    pushed
    ∙ (ap (λ (l : List X). l ++ x ∷ []) before
    ∙ (append_assoc first (map f (range_with_len 0 n)) (x ∷ [])
    ∙ ap (λ (l : List X). first ++ l)
    (ap (λ (y : X). map f (range_with_len 0 n) ++ y ∷ []) is ∙ sym (map-range_with_len_more f 0 n n (omega arith)))))

range_more : (n : ℕ) → range_with_len 0 (n + 1) ≡ range_with_len 0 n ++ n ∷ []
range_more n =
    sym (map-id (range_with_len 0 (n + 1)))
    ∙ (map-range_with_len_more (λ (i : ℕ). i) 0 n n (omega arith)
    ∙ ap (λ (l : List ℕ). l ++ n ∷ []) (map-id (range_with_len 0 n)))

-- one list more of those that a function makes of the numbers
pub one_list_made : {X : Type 0} (f : ℕ → List X) (now new : List X) (n : ℕ) → now ≡ flat_map f (range_with_len 0 n)
    → new ≡ now ++ f n → new ≡ flat_map f (range_with_len 0 (n + 1))
one_list_made {X} f now new n before pushed =
    pushed
    ∙ (ap (λ (l : List X). l ++ f n) before
    ∙ (flat_map_more f [] (range_with_len 0 n) n ∙ sym (ap (flat_map f) (range_more n))))

-- eleven pieces, joined from the right and from the left
pub joined : (a b c d e f g h i j k : List ℕ) → a ++ (b ++ (c ++ (d ++ (e ++ (f ++ (g ++ (h ++ (i ++ (j ++ k)))))))))
    ≡ a ++ b ++ c ++ d ++ e ++ f ++ g ++ h ++ i ++ j ++ k
joined a b c d e f g h i j k = simp append_assoc refl
