-- Chains that are kept, with more at their ends and without some of the first.
use Rattle.std.proofs.Common.{◌≡◌, ℕ, ◌+◌, ◌-◌, ◌<◌, ◌≤◌, min, List, [], ◌∷◌, ◌++◌, length, drop, get_or, set, ap, sym, subst, ◌∙◌, arith, inl, inr, ◌⊎◌}
use Rattle.std.proofs.Math.Seq.{drop-append-add}
use Rattle.std.proofs.lemmas.Bool.{cases_lt}
use Rattle.std.proofs.lemmas.List.{drop_all, drop-append-le}
use Rattle.log_node.specs.Seen.{PlacedNode}
use Rattle.chain_store.specs.Kept.{Kept, kept_items}

-- what is dropped of a list in two parts
pub dropped_parts : {A : Type 0} (n m k j len : ℕ) (xs ys zs : List A) → m ≡ min n len → k ≡ min m (length xs)
    → j ≡ m - length xs → length xs + length ys ≡ len → xs ++ ys ≡ zs → drop k xs ++ drop j ys ≡ drop n zs
dropped_parts {A} n m k j len xs ys zs m_is k_is j_is long is =
    turn (cases_lt n (length xs)) ∙ ap (drop n) is where
      turn : (n < length xs) ⊎ (length xs ≤ n) → drop k xs ++ drop j ys ≡ drop n (xs ++ ys)
      turn (inl less) =
          ap (λ (i : ℕ). drop i xs ++ drop j ys) (let e : k ≡ n = omega (arith, m_is, k_is, long, less) in e)
          ∙ (ap (λ (i : ℕ). drop n xs ++ drop i ys) (let e : j ≡ 0 = omega (arith, m_is, j_is, long, less) in e)
          ∙ sym (drop-append-le n xs ys (omega (arith, less))))
      turn (inr past) =
          ap (λ (l : List A). l ++ drop j ys)
          (drop_all k xs (let e : length xs ≤ k = omega (arith, m_is, k_is, long, past) in e))
          ∙ (behind (cases_lt len n)
          ∙ (sym (drop-append-add xs ys (n - length xs))
          ∙ ap (λ (i : ℕ). drop i (xs ++ ys)) (let e : length xs + (n - length xs) ≡ n = omega (arith, past) in e))) where
            behind : (len < n) ⊎ (n ≤ len) → drop j ys ≡ drop (n - length xs) ys
            behind (inl more) =
                drop_all j ys (let e : length ys ≤ j = omega (arith, m_is, j_is, long, more) in e)
                ∙ sym (drop_all (n - length xs) ys (let e : length ys ≤ n - length xs = omega (arith, long, more) in e))
            behind (inr within) =
                ap (λ (i : ℕ). drop i ys) (let e : j ≡ n - length xs = omega (arith, m_is, j_is, within) in e)

-- chain after chain the first ones are dropped, and others come to the end
pub moved_each : (xs : List Kept) (ms : List (List PlacedNode)) (m r s t : List PlacedNode)
    (a b c d e f g h : Kept) (i j k l n o p q : ℕ) → length xs ≡ 4 → ms ≡ m ∷ r ∷ s ∷ t ∷ []
    → i ≡ n → b.items ≡ drop i (get_or xs 0 a).items ++ m
    → j ≡ o → d.items ≡ drop j (get_or (set xs 0 b) 1 c).items ++ r
    → k ≡ p → f.items ≡ drop k (get_or (set (set xs 0 b) 1 d) 2 e).items ++ s
    → l ≡ q → h.items ≡ drop l (get_or (set (set (set xs 0 b) 1 d) 2 f) 3 g).items ++ t
    → kept_items (set (set (set (set xs 0 b) 1 d) 2 f) 3 h)
    ≡ (drop n (get_or (kept_items xs) 0 []) ++ get_or ms 0 [])
    ∷ (drop o (get_or (kept_items xs) 1 []) ++ get_or ms 1 [])
    ∷ (drop p (get_or (kept_items xs) 2 []) ++ get_or ms 2 [])
    ∷ (drop q (get_or (kept_items xs) 3 []) ++ get_or ms 3 []) ∷ []
moved_each (w ∷ x ∷ y ∷ z ∷ []) ms m r s t a b c d e f g h i j k l n o p q
    four is i_is b_is j_is d_is k_is f_is l_is h_is =
    subst (λ (ns : List (List PlacedNode)). b.items ∷ d.items ∷ f.items ∷ h.items ∷ []
    ≡ (drop n w.items ++ get_or ns 0 []) ∷ (drop o x.items ++ get_or ns 1 [])
    ∷ (drop p y.items ++ get_or ns 2 []) ∷ (drop q z.items ++ get_or ns 3 []) ∷ []) (sym is)
    (let b_of : b.items ≡ drop n w.items ++ m = b_is ∙ ap (λ (u : ℕ). drop u w.items ++ m) i_is in
    let d_of : d.items ≡ drop o x.items ++ r = d_is ∙ ap (λ (u : ℕ). drop u x.items ++ r) j_is in
    let f_of : f.items ≡ drop p y.items ++ s = f_is ∙ ap (λ (u : ℕ). drop u y.items ++ s) k_is in
    let h_of : h.items ≡ drop q z.items ++ t = h_is ∙ ap (λ (u : ℕ). drop u z.items ++ t) l_is in
    cc)
moved_each _ ms m r s t a b c d e f g h i j k l n o p q four is i_is b_is j_is d_is k_is f_is l_is h_is =
    absurd (let none : ⊥ = omega (arith, four) in none)
