-- The places that a vector counts, with one more of a region.
use Rattle.std.proofs.Common.{◌≡◌, ℕ, zero, suc, ◌+◌, ◌<◌, List, [], ◌∷◌, ◌++◌, map, ap, sym, subst, ◌∙◌, arith, append_assoc}
use Rattle.std.specs.List.{range_with_len}
use Rattle.std.specs.List.Sorted.{IsPermutation}
use Rattle.std.proofs.lemmas.List.{map-append}
use Rattle.std.proofs.lemmas.List.Sorted.{IsPermutation-sym, IsPermutation-trans, IsPermutation-middle, IsPermutation-append_right}
use Rattle.log_node.specs.declared.ids.Counts.{Counts}
use Rattle.log_node.specs.Vectors.{at, one_more}
use Rattle.log_node.proofs.CallerLemmas.{each_region, same_vectors}
use Rattle.col_core.specs.PlayOrder.{Place}
use Rattle.lawful_run.specs.Objects.{places_within}

abbrev place_at : ℕ → ℕ → Place
place_at region position = record { region = region; position = position }

-- as many numbers and one more
pub range_more : (a n : ℕ) → range_with_len a (n + 1) ≡ range_with_len a n ++ (a + n) ∷ []
range_more a zero = let e : a ≡ a + 0 = omega arith in ap (λ (k : ℕ). k ∷ []) e
range_more a (suc n) =
    let s : suc n + 1 ≡ suc (n + 1) = omega arith in
    let e : a + 1 + n ≡ a + suc n = omega arith in
    ap (range_with_len a) s
    ∙ ap (λ (l : List ℕ). a ∷ l) (range_more (a + 1) n ∙ ap (λ (k : ℕ). range_with_len (a + 1) n ++ k ∷ []) e)

abbrev chain_places : ℕ → ℕ → List Place
chain_places region count = map (place_at region) (range_with_len 0 count)

-- a region's places with one more
one_longer : (r n : ℕ) → chain_places r (n + 1) ≡ chain_places r n ++ place_at r n ∷ []
one_longer r n =
    ap (map (place_at r)) (range_more 0 n)
    ∙ (map-append (place_at r) (range_with_len 0 n) ((0 + n) ∷ [])
    ∙ ap (λ (m : ℕ). chain_places r n ++ place_at r m ∷ []) (let e : 0 + n ≡ n = omega arith in e))

here : (r n : ℕ) (ys : List Place) → IsPermutation (place_at r n ∷ (chain_places r n ++ ys)) (chain_places r (n + 1) ++ ys)
here r n ys =
    let xs = chain_places r n in
    let p = place_at r n in
    subst (IsPermutation (p ∷ (xs ++ ys)))
    (sym (ap (λ (l : List Place). l ++ ys) (one_longer r n) ∙ append_assoc xs (p ∷ []) ys))
    (IsPermutation-sym (xs ++ p ∷ ys) (p ∷ (xs ++ ys)) (IsPermutation-middle xs p ys))

-- or in a later region
later : (p : Place) (xs ys zs : List Place) → IsPermutation (p ∷ ys) zs → IsPermutation (p ∷ (xs ++ ys)) (xs ++ zs)
later p xs ys zs same =
    IsPermutation-trans (p ∷ (xs ++ ys)) (xs ++ p ∷ ys) (xs ++ zs)
    (IsPermutation-sym (xs ++ p ∷ ys) (p ∷ (xs ++ ys)) (IsPermutation-middle xs p ys))
    (IsPermutation-append_right xs (p ∷ ys) zs same)

-- the places of a vector with one more of a region
pub more_places : (v : Counts) (r : ℕ) → r < 4
    → IsPermutation (place_at r (at v r) ∷ places_within v) (places_within (one_more v r))
more_places v =
    each_region (λ k. IsPermutation (place_at k (at v k) ∷ places_within v) (places_within (one_more v k)))
    (here 0 (at v 0) _)
    (later _ (of 0) _ _ (here 1 (at v 1) _))
    (later _ (of 0) _ _ (later _ (of 1) _ _ (here 2 (at v 2) _)))
    (later _ (of 0) _ _ (later _ (of 1) _ _ (later _ (of 2) _ _ (here 3 (at v 3) _)))) where
      of : ℕ → List Place
      of k = chain_places k (at v k)

-- two vectors with the same numbers have the same places
pub same_places : (v w : Counts) → ((r : ℕ) → r < 4 → at v r ≡ at w r) → places_within v ≡ places_within w
same_places v w same = ap places_within (same_vectors (at v) (at w) same)
