-- The greatest stamp of nodes, one after another.
use Rattle.std.proofs.Common.{◌≡◌, ℕ, ◌+◌, ◌<◌, List, [], ◌∷◌, ◌++◌, length, take, map, get_or, ap, ◌∙◌, arith}
use Rattle.std.specs.Prelude.{max}
use Rattle.std.proofs.lemmas.List.{map-append, take_more}
use Rattle.log_node.specs.Outcomes.{greatest}

greatest-append : (xs ys : List ℕ) → greatest (xs ++ ys) ≡ max (greatest xs) (greatest ys)
greatest-append [] ys = let n = greatest ys in let e : n ≡ max 0 n = omega arith in e
greatest-append (x ∷ xs) ys =
    let r = greatest-append xs ys in
    three x (greatest (xs ++ ys)) (greatest xs) (greatest ys) r where
      three : (a n b c : ℕ) → n ≡ max b c → max a n ≡ max (max a b) c
      three a n b c e = omega (arith, e)

-- of one item more
pub greatest_more : {A : Type 0} (f : A → ℕ) (xs : List A) (i most : ℕ) (d : A) → i < length xs
    → most ≡ greatest (map f (take i xs)) → max (f (get_or xs i d)) most ≡ greatest (map f (take (i + 1) xs))
greatest_more {A} f xs i most d lt is =
    let e = ap (λ (l : List A). greatest (map f l)) (take_more xs i d lt)
    ∙ (ap greatest (map-append f (take i xs) (get_or xs i d ∷ []))
    ∙ greatest-append (map f (take i xs)) (f (get_or xs i d) ∷ [])) in
    last (f (get_or xs i d)) most (greatest (map f (take i xs))) (greatest (map f (take (i + 1) xs))) is e where
      last : (x m n g : ℕ) → m ≡ n → g ≡ max n (max x 0) → max x m ≡ g
      last x m n g p q = omega (arith, p, q)
