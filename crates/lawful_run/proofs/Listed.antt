-- What stands in lists.
use Rattle.std.proofs.Common.{◌≡◌, ℕ, zero, suc, ◌<◌, ◌≤◌, List, [], ◌∷◌, ◌++◌, length, reverse, map, Some, slice_get, slice_index_or, refl, ap, sym, subst, ◌∙◌, ◌⊎◌, inl, inr, arith}
use Rattle.std.specs.Prelude.{◌≢◌}
use Rattle.std.specs.List.{AllPairs, Contains, flat_map}
use Rattle.std.proofs.lemmas.Bool.{cases_lt}
use Rattle.col_core.proofs.CallerLemmas.{In, reverse-cons}
pub use Rattle.col_core.proofs.CallerLemmas.{in_range}

module _ {A : Type 0} where
  pub to_in : (xs : List A) (x : A) → Contains xs x → In x xs
  to_in xs x c = at xs c.0 c.1 c.2 where
    at : (ys : List A) (k : ℕ) → k < length ys → slice_index_or ys k x ≡ x → In x ys
    at [] k lt e = absurd (let f : ⊥ = omega (arith, lt) in f)
    at (y ∷ ys) zero lt e = inl e
    at (y ∷ ys) (suc k) lt e = inr (at ys k (omega (arith, lt)) e)

  pub from_in : (xs : List A) (x : A) → In x xs → Contains xs x
  from_in [] x i = absurd i
  from_in (y ∷ ys) x (inl e) = (0, omega arith, e)
  from_in (y ∷ ys) x (inr i) = let r = from_in ys x i in let l = r.1 in (suc r.0, omega (arith, l), r.2)

  pub in_get : (xs : List A) (x : A) → In x xs → (k : ℕ) × (slice_get xs k ≡ Some x)
  in_get [] x i = absurd i
  in_get (y ∷ ys) x (inl e) = (0, ap (λ (z : A). Some z) e)
  in_get (y ∷ ys) x (inr i) = let r = in_get ys x i in (suc r.0, r.1)

  pub get_in : (xs : List A) (k : ℕ) (x : A) → slice_get xs k ≡ Some x → In x xs
  get_in [] k x e = absurd (let f : ⊥ = cc in f)
  get_in (y ∷ ys) zero x e = inl (let f : y ≡ x = cc in f)
  get_in (y ∷ ys) (suc k) x e = inr (get_in ys k x e)

  in_split : (x : A) (xs ys : List A) → In x (xs ++ ys) → In x xs ⊎ In x ys
  in_split x [] ys i = inr i
  in_split x (y ∷ xs) ys (inl e) = inl (inl e)
  in_split x (y ∷ xs) ys (inr i) = turn (in_split x xs ys i) where
    turn : In x xs ⊎ In x ys → ((y ≡ x) ⊎ In x xs) ⊎ In x ys
    turn (inl a) = inl (inr a)
    turn (inr b) = inr b

  pub in_reverse : (x : A) (xs : List A) → In x (reverse xs) → In x xs
  in_reverse x [] i = i
  in_reverse x (y ∷ ys) i = turn (in_reverse x ys)
      (in_split x (reverse ys) (y ∷ []) (subst (λ (l : List A). In x l) (reverse-cons y ys) i)) where
        turn : (In x (reverse ys) → In x ys) → In x (reverse ys) ⊎ ((y ≡ x) ⊎ ⊥) → (y ≡ x) ⊎ In x ys
        turn back (inl a) = inr (back a)
        turn back (inr (inl e)) = inl e
        turn back (inr (inr f)) = absurd f

  -- two elements with one value of what differs between all
  pub same_one : {B : Type 0} (f : A → B) (xs : List A) → AllPairs (λ x y. f x ≢ f y) xs → (i j : ℕ) (x y : A)
      → slice_get xs i ≡ Some x → slice_get xs j ≡ Some y → f x ≡ f y → x ≡ y
  same_one {B} f xs apart i j x y a b same = turn (cases_lt i j) (cases_lt j i) where
    index : (ys : List A) (k : ℕ) (z d : A) → slice_get ys k ≡ Some z → slice_index_or ys k d ≡ z
    index [] k z d e = absurd (let g : ⊥ = cc in g)
    index (w ∷ ws) zero z d e = cc
    index (w ∷ ws) (suc k) z d e = index ws k z d e

    within : (ys : List A) (k : ℕ) (z : A) → slice_get ys k ≡ Some z → k < length ys
    within [] k z e = absurd (let g : ⊥ = cc in g)
    within (w ∷ ws) zero z e = omega arith
    within (w ∷ ws) (suc k) z e = let l = within ws k z e in omega (arith, l)

    turn : (i < j) ⊎ (j ≤ i) → (j < i) ⊎ (i ≤ j) → x ≡ y
    turn (inl lt) other = absurd (apart i j x lt (within xs j y b)
        (ap f (index xs i x x a) ∙ (same ∙ ap f (sym (index xs j y x b)))))
    turn (inr ge) (inl lt) = absurd (apart j i x lt (within xs i x a)
        (ap f (index xs j y x b) ∙ (sym same ∙ ap f (sym (index xs i x x a)))))
    turn (inr ge) (inr le) =
        let e : i ≡ j = omega (arith, ge, le) in
        let s : slice_get xs j ≡ Some x = subst (λ (n : ℕ). slice_get xs n ≡ Some x) e a in
        let t : Some x ≡ Some y = sym s ∙ b in cc (t)

  pub in_map : {B : Type 0} (f : A → B) (xs : List A) (x : A) → In x xs → In (f x) (map f xs)
  in_map f [] x i = absurd i
  in_map f (y ∷ ys) x (inl e) = inl (ap f e)
  in_map f (y ∷ ys) x (inr i) = inr (in_map f ys x i)

  pub in_map_back : {B : Type 0} (f : A → B) (xs : List A) (b : B) → In b (map f xs) → (x : A) × In x xs × (f x ≡ b)
  in_map_back f [] b i = absurd i
  in_map_back f (y ∷ ys) b (inl e) = (y, inl refl, e)
  in_map_back f (y ∷ ys) b (inr i) = let r = in_map_back f ys b i in (r.0, inr r.1, r.2)

  pub in_flat_map : {B : Type 0} (f : A → List B) (xs : List A) (b : B) → In b (flat_map f xs) → (x : A) × In x xs
      × In b (f x)
  in_flat_map f [] b i = absurd i
  in_flat_map {B} f (y ∷ ys) b i = turn (in_flat_map f ys b) (split b (f y) (flat_map f ys) i) where
    split : (c : B) (us bs : List B) → In c (us ++ bs) → In c us ⊎ In c bs
    split c [] bs h = inr h
    split c (a ∷ us) bs (inl e) = inl (inl e)
    split c (a ∷ us) bs (inr h) = elim (split c us bs h) [ inl l ↦ inl (inr l) | inr r ↦ inr r ]

    turn : (In b (flat_map f ys) → (x : A) × In x ys × In b (f x)) → In b (f y) ⊎ In b (flat_map f ys) → (x : A) ×
        ((y ≡ x) ⊎ In x ys) × In b (f x)
    turn more (inl h) = (y, inl refl, h)
    turn more (inr h) = let r = more h in (r.0, inr r.1, r.2)
