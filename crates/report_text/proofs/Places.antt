-- A journal with its places, one entry more.
use Rattle.std.proofs.Common.{◌≡◌, ℕ, ◌+◌, ◌<◌, List, [], ◌∷◌, ◌++◌, length, take, get_or, ap, sym, ◌∙◌, append-nil, length-take, arith}
use Rattle.std.proofs.lemmas.List.{take_more}
use Rattle.std.proofs.lemmas.List.Concat.{flat_map-append}
use Rattle.std.specs.List.{flat_map, enumerate_from}
use Rattle.log_node.proofs.CallerLemmas.{enumerate-push as places_push}

pub places_more : {X : Type 0} (f : ℕ × X → List ℕ) (xs : List X) (i : ℕ) (x : X) → i < length xs → x ≡ get_or xs i x →
    flat_map f (enumerate_from 0 (take (i + 1) xs)) ≡ flat_map f (enumerate_from 0 (take i xs)) ++ f (i, x)
places_more f xs i x less read =
    let here = take i xs in
    let long : 0 + length here ≡ i = omega (arith, length-take i xs) in
    ap (λ w. flat_map f (enumerate_from 0 w)) (take_more xs i x less ∙ ap (λ y. here ++ y ∷ []) (sym read))
    ∙ ap (flat_map f) (places_push 0 here x ∙ ap (λ (k : ℕ). enumerate_from 0 here ++ (k, x) ∷ []) long)
    ∙ flat_map-append f (enumerate_from 0 here) ((i, x) ∷ []) ∙ ap (λ w. flat_map f (enumerate_from 0 here) ++ w) (append-nil (f (i, x)))
