-- The replies to clients, shown one after another.
use Rattle.std.proofs.Common.{◌≡◌, ◌∙◌, ap, sym, ℕ, ◌+◌, ◌<◌, ◌++◌, ◌∷◌, [], List, arith, length, map, take, get_or, zero-add}
use Rattle.std.specs.List.{enumerate_from}
use Rattle.std.proofs.lemmas.List.{take_more, map-append, length-take-le}
use Rattle.report_text.specs.declared.report.ClientReport.{ClientReport}
use Rattle.report_text.specs.declared.report.ReplyLine.{ReplyLine}
use Rattle.log_node.proofs.CallerLemmas.{enumerate-push as enumerate_append}
pub use Rattle.log_node.proofs.CallerLemmas.{any_default}

-- an item more of a list with numbers
pub numbered_next : {A B : Type 0} (f : ℕ × A → B) (xs : List A) (n : ℕ) (x : A) → n < length xs → x ≡ get_or xs n x
    → map f (enumerate_from 0 (take (n + 1) xs)) ≡ map f (enumerate_from 0 (take n xs)) ++ f (n, x) ∷ []
numbered_next {A} {B} f xs n x h is =
    let e : 0 + length (take n xs) ≡ n = zero-add (length (take n xs)) ∙ length_front xs n h in
    ap (λ (l : List A). map f (enumerate_from 0 l)) (take_more xs n x h ∙ ap (λ (y : A). take n xs ++ y ∷ []) (sym is))
    ∙ (ap (map f) (enumerate_append 0 (take n xs) x)
    ∙ (map-append f (enumerate_from 0 (take n xs)) ((0 + length (take n xs), x) ∷ [])
    ∙ ap (λ (k : ℕ). map f (enumerate_from 0 (take n xs)) ++ f (k, x) ∷ []) e)) where
      length_front : (ys : List A) (k : ℕ) → k < length ys → length (take k ys) ≡ k
      length_front ys k lt = length-take-le k ys (omega arith)

pub reply_shown : (name name' : List ℕ) (replies replies' : List ReplyLine) → name ≡ name' → replies ≡ replies'
    → (let r : ClientReport = record { name = name; replies = replies } in r)
    ≡ record { name = name'; replies = replies' }
reply_shown name name' replies replies' e f = cc
