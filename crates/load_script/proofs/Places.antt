-- The places at which a list has elements that pass a test.
use Rattle.std.proofs.Common.{◌≡◌, ℕ, zero, suc, ◌+◌, ◌<◌, Bool, true, false, cond, List, [], ◌∷◌, length, map, Some, slice_get, refl, ap, subst, ◌⊎◌, inl, inr, arith}
use Rattle.std.specs.Prelude.{◌≢◌}
use Rattle.std.specs.List.{filter}
use Rattle.col_core.proofs.CallerLemmas.{In, in_slice, in_filter, choice, apart}
use Rattle.load_script.proofs.Counts.{Distinct, in_map_back}

module _ {X : Type 0} (p : X → Bool) where
  -- the places, where the first has this number
  pub places : ℕ → List X → List ℕ
  places n [] = []
  places n (x ∷ xs) = cond (p x) (n ∷ places (n + 1) xs) (places (n + 1) xs)

  pub length_places : (n : ℕ) (xs : List X) → length (places n xs) ≡ length (filter p xs)
  unfolding places
  length_places n [] = refl
  length_places n (x ∷ xs) = at (length_places (n + 1) xs) (p x) where
    at : length (places (n + 1) xs) ≡ length (filter p xs) → (b : Bool)
        → length (cond b (n ∷ places (n + 1) xs) (places (n + 1) xs)) ≡ length (cond b (x ∷ filter p xs) (filter p xs))
    at rest true = ap suc rest
    at rest false = rest

  -- what stands at such a place
  abbrev pub Placed : ℕ → List X → ℕ → Type 0
  Placed n xs k = (j : ℕ) × (k ≡ n + j) × (x : X) × (slice_get xs j ≡ Some x) × (p x ≡ true)

  later : (n : ℕ) (x : X) (xs : List X) (k : ℕ) → Placed (n + 1) xs k → Placed n (x ∷ xs) k
  later n x xs k r = let e = r.1 in (suc r.0, omega (arith, e), r.2, r.3, r.4)

  pub in_places : (n : ℕ) (xs : List X) (k : ℕ) → In k (places n xs) → Placed n xs k
  unfolding places
  in_places n [] k i = absurd i
  in_places n (x ∷ xs) k i =
      choice (λ (l : List ℕ). In k l → Placed n (x ∷ xs) k) (p x) (n ∷ places (n + 1) xs) (places (n + 1) xs)
      (λ t j. turn t (in_places (n + 1) xs k) j) (λ _ j. later n x xs k (in_places (n + 1) xs k j)) i where
        turn : p x ≡ true → (In k (places (n + 1) xs) → Placed (n + 1) xs k) → (n ≡ k) ⊎ In k (places (n + 1) xs)
            → Placed n (x ∷ xs) k
        turn t rest (inl e) = (0, omega (arith, e), x, refl, t)
        turn t rest (inr j) = later n x xs k (rest j)

  pub places_in : (n : ℕ) (xs : List X) (j : ℕ) (x : X) → slice_get xs j ≡ Some x → p x ≡ true → In (n + j)
      (places n xs)
  unfolding places
  places_in n [] j x e t = absurd (let f : ⊥ = cc in f)
  places_in n (y ∷ xs) zero x e t =
      let same : y ≡ x = cc in
      choice (λ (l : List ℕ). In (n + 0) l) (p y) (n ∷ places (n + 1) xs) (places (n + 1) xs)
      (λ _. inl (omega arith)) (λ f. absurd (apart (p x) t (subst (λ (z : X). p z ≡ false) same f)))
  places_in n (y ∷ xs) (suc j) x e t =
      let rest = places_in (n + 1) xs j x e t in
      let moved : In (n + suc j) (places (n + 1) xs) =
      subst (λ m. In m (places (n + 1) xs)) (let g : n + 1 + j ≡ n + suc j = omega arith in g) rest in
      choice (λ (l : List ℕ). In (n + suc j) l) (p y) (n ∷ places (n + 1) xs) (places (n + 1) xs) (λ _. inr moved)
      (λ _. moved)

  pub distinct_places : (n : ℕ) (xs : List X) → Distinct (places n xs)
  unfolding places
  distinct_places n [] = tt
  distinct_places n (x ∷ xs) =
      choice (λ (l : List ℕ). Distinct l) (p x) (n ∷ places (n + 1) xs) (places (n + 1) xs)
      (λ _. (
        λ i. let r = in_places (n + 1) xs n i in let e = r.1 in let f : ⊥ = omega (arith, e) in f,
        distinct_places (n + 1) xs,
      ))
      (λ _. distinct_places (n + 1) xs)

  pub distinct_filter : (xs : List X) → Distinct xs → Distinct (filter p xs)
  distinct_filter [] d = tt
  distinct_filter (x ∷ xs) d =
      choice (λ (l : List X). Distinct l) (p x) (x ∷ filter p xs) (filter p xs)
      (λ _. (λ i. d.0 (in_filter p x xs i).0, distinct_filter xs d.1)) (λ _. distinct_filter xs d.1)

pub distinct_map : {X Y : Type 0} (f : X → Y) (xs : List X) → Distinct xs
    → ((x y : X) → In x xs → In y xs → f x ≡ f y → x ≡ y) → Distinct (map f xs)
distinct_map f [] d one = tt
distinct_map {X} f (x ∷ xs) d one = (
  λ i. let r = in_map_back f xs (f x) i in d.0 (subst (λ (z : X). In z xs) (one r.0 x (inr r.1) (inl refl) r.2) r.1),
  distinct_map f xs d.1 (λ y z i j. one y z (inr i) (inr j)),
)

-- elements that differ at different places
pub distinct_at : {X : Type 0} (xs : List X)
    → ((i j : ℕ) (x y : X) → i < j → slice_get xs i ≡ Some x → slice_get xs j ≡ Some y → x ≢ y) → Distinct xs
distinct_at [] apart' = tt
distinct_at (x ∷ xs) apart' = (
  λ i. let r = in_slice xs x i in apart' 0 (suc r.0) x x (omega arith) refl r.1 refl,
  distinct_at xs (λ i j y z lt a b. apart' (suc i) (suc j) y z (omega (arith, lt)) a b),
)
