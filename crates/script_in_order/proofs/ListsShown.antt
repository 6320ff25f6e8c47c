-- Lists made item by item.
use Rattle.std.proofs.Common.{◌≡◌, ℕ, ◌+◌, ◌<◌, List, [], ◌∷◌, ◌++◌, length, map, take, get_or, refl, ap}
use Rattle.std.proofs.Common.{sym, ◌∙◌, arith, zero-add}
use Rattle.std.proofs.lemmas.List.{take_more, map-append}
use Rattle.std.proofs.lemmas.List.{length-take-le}
use Rattle.std.proofs.lemmas.Grind.{flat_map-append}
use Rattle.std.specs.List.{flat_map, range_with_len, enumerate_from}
use Rattle.log_node.proofs.CallerLemmas.{enumerate-push as enumerate_append}
use Rattle.lawful_run.proofs.CallerLemmas.{range_more}

pub flat_map_range_more : {A : Type 0} (f : ℕ → List A) (n : ℕ)
    → flat_map f (range_with_len 0 (n + 1)) ≡ flat_map f (range_with_len 0 n) ++ f n
flat_map_range_more f n =
    ap (flat_map f) (range_more 0 n ∙ ap (λ (k : ℕ). range_with_len 0 n ++ k ∷ []) (zero-add n))
    ∙ (flat_map-append f (range_with_len 0 n) (n ∷ []) ∙ ap (λ l. flat_map f (range_with_len 0 n) ++ l)
    (append-none (f n))) where
      append-none : {A : Type 0} (xs : List A) → xs ++ [] ≡ xs
      append-none [] = refl
      append-none (x ∷ xs) = ap (λ l. x ∷ l) (append-none xs)

pub numbered_more : {A B : Type 0} (f : ℕ × A → B) (xs : List A) (n : ℕ) (x : A) → n < length xs → x ≡ get_or xs n x
    → map f (enumerate_from 0 (take (n + 1) xs)) ≡ map f (enumerate_from 0 (take n xs)) ++ f (n, x) ∷ []
numbered_more {A} {B} f xs n x h is =
    let e : 0 + length (take n xs) ≡ n = zero-add (length (take n xs)) ∙ length_front xs n h in
    ap (λ (l : List A). map f (enumerate_from 0 l)) (take_more xs n x h ∙ ap (λ (y : A). take n xs ++ y ∷ []) (sym is))
    ∙ (ap (map f) (enumerate_append 0 (take n xs) x)
    ∙ (map-append f (enumerate_from 0 (take n xs)) ((0 + length (take n xs), x) ∷ [])
    ∙ ap (λ (k : ℕ). map f (enumerate_from 0 (take n xs)) ++ f (k, x) ∷ []) e)) where
      length_front : (ys : List A) (k : ℕ) → k < length ys → length (take k ys) ≡ k
      length_front ys k lt = length-take-le k ys (omega arith)
