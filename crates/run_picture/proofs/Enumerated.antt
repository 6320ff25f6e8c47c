-- A list, with its places or without, one item more.
use Rattle.std.proofs.Common.{◌≡◌, ℕ, ◌+◌, ◌<◌, List, [], ◌∷◌, ◌++◌, length, take, get_or, ap, refl, sym, subst, ◌∙◌, append-nil, append_assoc, length-take, arith}
use Rattle.std.proofs.lemmas.List.{take_more}
use Rattle.std.proofs.lemmas.List.Concat.{flat_map-append}
use Rattle.std.specs.List.{flat_map, enumerate_from}
use Rattle.report_text.specs.Output.{OutputState, Adds, HasTaken}
use Rattle.report_text.proofs.CallerLemmas.{adds_then}
use Rattle.log_node.proofs.CallerLemmas.{enumerate-push as places_push}

push_more : {X : Type 0} (f : X → List ℕ) (xs : List X) (x : X) → flat_map f (xs ++ x ∷ []) ≡ flat_map f xs ++ f x
push_more f xs x = flat_map-append f xs (x ∷ []) ∙ ap (λ w. flat_map f xs ++ w) (append-nil (f x))

-- what is written of the items before a place, and of the one at it
pub places_more : {X : Type 0} (f : ℕ × X → List ℕ) (xs : List X) (i : ℕ) (x : X) → i < length xs → x ≡ get_or xs i x →
    flat_map f (enumerate_from 0 (take (i + 1) xs)) ≡ flat_map f (enumerate_from 0 (take i xs)) ++ f (i, x)
places_more f xs i x less read =
    let here = take i xs in
    let long : 0 + length here ≡ i = omega (arith, length-take i xs) in
    ap (λ w. flat_map f (enumerate_from 0 w)) (take_more xs i x less ∙ ap (λ y. here ++ y ∷ []) (sym read))
    ∙ ap (flat_map f) (places_push 0 here x ∙ ap (λ (k : ℕ). enumerate_from 0 here ++ (k, x) ∷ []) long)
    ∙ push_more f (enumerate_from 0 here) (i, x)

-- the same without the places
pub items_more : {X : Type 0} (f : X → List ℕ) (xs : List X) (i : ℕ) (x : X) → i < length xs → x ≡ get_or xs i x →
    flat_map f (take (i + 1) xs) ≡ flat_map f (take i xs) ++ f x
items_more f xs i x less read =
    let here = take i xs in
    ap (flat_map f) (take_more xs i x less ∙ ap (λ y. here ++ y ∷ []) (sym read)) ∙ push_more f here x

pub item_added : {X : Type 0} (a b c : OutputState) (f : X → List ℕ) (xs : List X) (i : ℕ) (x : X) → i < length xs →
    Adds a b (flat_map f (take i xs)) → Adds b c (f (get_or xs i x)) → Adds a c (flat_map f (take (i + 1) xs))
item_added a b c f xs i x less first next =
    let more = ap (flat_map f) (take_more xs i x less) ∙ push_more f (take i xs) (get_or xs i x) in
    subst (Adds a c) (sym more) (adds_then a b c (flat_map f (take i xs)) (f (get_or xs i x)) first next)

-- what is written of the first items of a list, where these others are left
abbrev pub Begun : {X : Type 0} → (X → List ℕ) → List X → OutputState → OutputState → List X → Type 0
Begun {X} f all a b left = (first : List X) × (first ++ left ≡ all) × Adds a b (flat_map f first)

-- nothing is written yet
pub begun : {X : Type 0} (f : X → List ℕ) (all left : List X) (a : OutputState) → left ≡ all → Begun f all a a left
begun f all left a same =
    let none : Adds a a [] = record { same = refl; more = λ holds faults text h. subst (λ w. HasTaken holds faults w a) (sym (append-nil text)) h } in
    ([], same, none)

-- an item more
pub begun_more : {X : Type 0} (f : X → List ℕ) (all left rest : List X) (x : X) (a b c : OutputState) →
    Begun f all a b left → left ≡ x ∷ rest → Adds b c (f x) → Begun f all a c rest
begun_more f all left rest x a b c so_far next adds =
    let first = so_far.0 in (
      first ++ x ∷ [],
      append_assoc first (x ∷ []) rest ∙ ap (λ w. first ++ w) (sym next) ∙ so_far.1,
      subst (Adds a c) (sym (push_more f first x)) (adds_then a b c (flat_map f first) (f x) so_far.2 adds),
    )

-- all are written
pub begun_whole : {X : Type 0} (f : X → List ℕ) (all left : List X) (a b : OutputState) →
    Begun f all a b left → left ≡ [] → Adds a b (flat_map f all)
begun_whole f all left a b so_far none =
    let first = so_far.0 in
    let whole : first ≡ all = sym (append-nil first) ∙ ap (λ w. first ++ w) (sym none) ∙ so_far.1 in
    subst (λ w. Adds a b (flat_map f w)) whole so_far.2
