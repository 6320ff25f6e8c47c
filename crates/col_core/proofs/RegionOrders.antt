-- Two orders of a region are equal: both rise, and they have the same keys.
use Rattle.std.proofs.Common.{◌≡◌, IsTrue, ℕ, zero, suc, List, [], ◌∷◌, refl, ap, sym, subst, ◌∙◌, arith}
use Rattle.std.specs.List.{AllPairs, Contains}
use Rattle.log_node.specs.declared.ids.Key.{Key}
use Rattle.log_node.specs.Order.{key_below}
use Rattle.col_core.specs.RegionOrder.{IsRegionOrder}
use Rattle.col_core.proofs.KeyOrder.{key-trans, key-irrefl}

abbrev Rises : List Key → Type 0
Rises keys = AllPairs (λ a b. IsTrue (key_below a b)) keys

-- every key of the one list is one of the other
abbrev Among : List Key → List Key → Type 0
Among xs ys = (key : Key) → Contains xs key → Contains ys key

first_in : (x : Key) (xs : List Key) → Contains (x ∷ xs) x
first_in x xs = (zero, omega arith, refl)

in_rest : (x : Key) (xs : List Key) (key : Key) → Contains xs key → Contains (x ∷ xs) key
in_rest x xs key c = (suc c.0, let l = c.1 in omega (arith, l), c.2)

rest_rises : (x : Key) (xs : List Key) → Rises (x ∷ xs) → Rises xs
rest_rises x xs r i j d lt there = r (suc i) (suc j) d (omega (arith, lt)) (omega (arith, there))

first_below : (x : Key) (xs : List Key) → Rises (x ∷ xs) → (key : Key) → Contains xs key → IsTrue (key_below x key)
first_below x xs r key c =
    subst (λ (k : Key). IsTrue (key_below x k)) c.2 (r zero (suc c.0) key (omega arith) (let l = c.1 in omega (arith, l)))

not_below_itself : (x y : Key) → IsTrue (key_below x y) → IsTrue (key_below y x) → ⊥
not_below_itself x y a b = key-irrefl x (key-trans x y x a b)

-- the first keys are equal
same_first : (x y : Key) (xs ys : List Key) → Rises (x ∷ xs) → Rises (y ∷ ys) → Contains (y ∷ ys) x → Contains (x ∷ xs) y → x ≡ y
same_first x y xs ys r s (zero, l, e) c = sym e
same_first x y xs ys r s (suc k, l, e) (zero, m, f) = f
same_first x y xs ys r s (suc k, l, e) (suc n, m, f) =
    absurd (not_below_itself x y (first_below x xs r y (n, omega (arith, m), f)) (first_below y ys s x (k, omega (arith, l), e)))

-- a key above the first one is in the rest
above_first : (x y : Key) (ys : List Key) → IsTrue (key_below x y) → Contains (x ∷ ys) y → Contains ys y
above_first x y ys above (zero, l, e) = absurd (key-irrefl x (subst (λ (k : Key). IsTrue (key_below x k)) (sym e) above))
above_first x y ys above (suc k, l, e) = (k, omega (arith, l), e)

rest_among : (x : Key) (xs ys : List Key) → Rises (x ∷ xs) → Among (x ∷ xs) (x ∷ ys) → Among xs ys
rest_among x xs ys r a key c = above_first x key ys (first_below x xs r key c) (a key (in_rest x xs key c))

none_in : (key : Key) → Contains [] key → ⊥
none_in key c = let l = c.1 in omega (arith, l)

same_keys : (xs ys : List Key) → Rises xs → Rises ys → Among xs ys → Among ys xs → xs ≡ ys
same_keys [] [] r s a b = refl
same_keys [] (y ∷ ys) r s a b = absurd (none_in y (b y (first_in y ys)))
same_keys (x ∷ xs) [] r s a b = absurd (none_in x (a x (first_in x xs)))
same_keys (x ∷ xs) (y ∷ ys) r s a b = with_same (same_keys xs ys) (same_first x y xs ys r s (a x (first_in x xs)) (b y (first_in y ys))) where
  with_same : (Rises xs → Rises ys → Among xs ys → Among ys xs → xs ≡ ys) → x ≡ y → x ∷ xs ≡ y ∷ ys
  with_same rest e =
      let a' : Among (x ∷ xs) (x ∷ ys) = subst (λ (k : Key). Among (x ∷ xs) (k ∷ ys)) (sym e) a in
      let b' : Among (x ∷ ys) (x ∷ xs) = subst (λ (k : Key). Among (k ∷ ys) (x ∷ xs)) (sym e) b in
      let s' : Rises (x ∷ ys) = subst (λ (k : Key). Rises (k ∷ ys)) (sym e) s in
      ap (λ (l : List Key). x ∷ l) (rest (rest_rises x xs r) (rest_rises x ys s') (rest_among x xs ys r a') (rest_among x ys xs s' b'))
      ∙ ap (λ (k : Key). k ∷ ys) e

pub same_region_order : (lines : List (List Key)) (stamp : ℕ) (one other : List Key) → IsRegionOrder lines stamp one → IsRegionOrder lines stamp other → one ≡ other
same_region_order lines stamp one other a b = same_keys one other a.rising b.rising (among one other a b) (among other one b a) where
  among : (xs ys : List Key) → IsRegionOrder lines stamp xs → IsRegionOrder lines stamp ys → Among xs ys
  among xs ys p q key c = let n = p.no_other key c in q.all n.1 key n.2 n.3 n.0
