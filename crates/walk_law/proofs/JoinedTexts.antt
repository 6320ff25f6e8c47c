-- Texts that are joined by commas, as they are written.
use Rattle.std.proofs.Common.{◌≡◌, ℕ, ◌+◌, ◌-◌, ◌<◌, ◌≤◌, List, [], ◌∷◌, ◌++◌, map, length, get_or, take, drop, ap, sym, ◌∙◌, append_assoc, arith}
use Rattle.std.proofs.lemmas.List.{append-nil, take_more, take_all, take_rest}
use Rattle.std.specs.List.{join_with_byte}
use Rattle.object_form.specs.Forms.{comma}

-- the texts of what stands behind the first, each behind a comma
abbrev pub later_text : {X : Type 0} → (X → List ℕ) → List X → List ℕ
later_text f [] = []
later_text f (x ∷ xs) = comma ∷ f x ++ later_text f xs

later_push : {X : Type 0} (f : X → List ℕ) (xs : List X) (y : X) → later_text f (xs ++ y ∷ []) ≡ later_text f xs ++ comma ∷ f y
later_push f [] y = ap (λ t. comma ∷ t) (append-nil (f y))
later_push f (x ∷ xs) y = ap (λ t. comma ∷ f x ++ t) (later_push f xs y) ∙ ap (λ t. comma ∷ t) (sym (append_assoc (f x) (later_text f xs) (comma ∷ f y)))

joined : {X : Type 0} (f : X → List ℕ) (x : X) (xs : List X) → join_with_byte comma (map f (x ∷ xs)) ≡ f x ++ later_text f xs
joined f x [] = sym (append-nil (f x))
joined f x (y ∷ ys) = ap (λ t. f x ++ comma ∷ t) (joined f y ys)

later_more : {X : Type 0} (f : X → List ℕ) (xs : List X) (i : ℕ) (d : X) → i < length xs → later_text f (take (i + 1) xs) ≡ later_text f (take i xs) ++ comma ∷ f (get_or xs i d)
later_more f xs i d lt = ap (later_text f) (take_more xs i d lt) ∙ later_push f (take i xs) (get_or xs i d)

joined_all : {X : Type 0} (f : X → List ℕ) (xs : List X) (d : X) → 0 < length xs → join_with_byte comma (map f xs) ≡ f (get_or xs 0 d) ++ later_text f (drop 1 xs)
joined_all f [] d some = absurd (omega arith)
joined_all f (x ∷ xs) d some = joined f x xs

-- a text after one more comma and one more piece
pub one_more_piece : {X : Type 0} (f : X → List ℕ) (xs : List X) (i : ℕ) (x : X) (start before between later : List ℕ) → i < length xs → x ≡ get_or xs i x
    → before ≡ start ++ later_text f (take i xs) → between ≡ before ++ comma ∷ [] → later ≡ between ++ f x
    → later ≡ start ++ later_text f (take (i + 1) xs)
one_more_piece {X} f xs i x start before between later lt at e1 e2 e3 =
    e3 ∙ ap (λ (t : List ℕ). t ++ f x) (e2 ∙ ap (λ (t : List ℕ). t ++ comma ∷ []) e1)
    ∙ append_assoc (start ++ later_text f (take i xs)) (comma ∷ []) (f x)
    ∙ append_assoc start (later_text f (take i xs)) (comma ∷ f x)
    ∙ ap (λ (y : X). start ++ (later_text f (take i xs) ++ comma ∷ f y)) at
    ∙ ap (λ (t : List ℕ). start ++ t) (sym (later_more f xs i x lt))

-- a text after the first piece and all later ones
pub all_pieces : {X : Type 0} (f : X → List ℕ) (xs : List X) (i : ℕ) (x : X) (start first all : List ℕ) → 0 < length xs → x ≡ get_or xs 0 x
    → first ≡ start ++ f x → all ≡ first ++ later_text f (take i (take (length xs - 1) (drop 1 xs))) → length (take (length xs - 1) (drop 1 xs)) ≤ i
    → all ≡ start ++ join_with_byte comma (map f xs)
all_pieces {X} f xs i x start first all some at e1 e2 past =
    e2 ∙ ap (λ (t : List ℕ). t ++ later_text f (take i (take (length xs - 1) (drop 1 xs)))) e1
    ∙ append_assoc start (f x) (later_text f (take i (take (length xs - 1) (drop 1 xs))))
    ∙ ap (λ (ys : List X). start ++ (f x ++ later_text f ys)) (take_all i (take (length xs - 1) (drop 1 xs)) past ∙ take_rest xs 1)
    ∙ ap (λ (y : X). start ++ (f y ++ later_text f (drop 1 xs))) at
    ∙ ap (λ (t : List ℕ). start ++ t) (sym (joined_all f xs x some))
