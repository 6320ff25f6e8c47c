-- Lists: what is printed item by item is read again, and what is read fits item by item.
use Rattle.std.proofs.Common.{◌≡◌, ℕ, zero, suc, ◌+◌, ◌<◌, ◌≤◌, Bool, true, false, List, [], ◌∷◌, ◌++◌, length, Option, Some, None, refl, sym, ap, ◌∙◌, append_assoc, length-append, arith, inl, inr}
use Rattle.std.specs.Prelude.{IfSome}
use Rattle.std.specs.List.{AllByRecursion, flat_map, enumerate_from}
use Rattle.std.proofs.lemmas.Bool.{cases_Bool}
use Rattle.std.proofs.lemmas.List.Concat.{flat_map-cons}
use Rattle.report_text.specs.Pieces.{listed}
use Rattle.report_reading.specs.Lists.{◌>>=◌, list_at, each_at}
use Rattle.report_reading.specs.Meant.{AllFrom}

-- the texts of items, each with its place
abbrev pub texts : {X : Type 0} → (ℕ → X → List ℕ) → ℕ → List X → List ℕ
texts text n [] = []
texts text n (x ∷ xs) = text n x ++ texts text (suc n) xs

-- texts that do not depend on the place
pub texts_alike : {X : Type 0} (text : X → List ℕ) (n : ℕ) (xs : List X) → flat_map text xs ≡ texts (λ _. text) n xs
texts_alike text n [] = refl
texts_alike text n (x ∷ xs) = flat_map-cons text x xs ∙ ap (λ w. text x ++ w) (texts_alike text (suc n) xs)

-- texts of items with their places
pub texts_placed : {X : Type 0} (text : ℕ × X → List ℕ) (n : ℕ) (xs : List X) → flat_map text (enumerate_from n xs) ≡ texts (λ k x. text (k, x)) n xs
texts_placed text n [] = refl
texts_placed text n (x ∷ xs) =
    let next : n + 1 ≡ suc n = omega arith in
    rw next (flat_map-cons text (n, x) (enumerate_from (suc n) xs) ∙ ap (λ w. text (n, x) ++ w) (texts_placed text (suc n) xs))

-- how items of one kind are read: each that is printed is read again where the right bytes stand behind it
pub record IsReadAgain {X : Type 0} (begins : ℕ → List ℕ → Bool) (item_at : ℕ → List ℕ → Option (X × List ℕ)) (text : ℕ → X → List ℕ) (Is : ℕ → X → Type 0) (Ends : List ℕ → Type 0) : Type 0 where
  pub some : (n : ℕ) (x : X) → Is n x → 0 < length (text n x)
  pub begin : (n : ℕ) (x : X) (rest : List ℕ) → Is n x → Ends rest → begins n (text n x ++ rest) ≡ true
  pub again : (n : ℕ) (x : X) (rest : List ℕ) → Is n x → Ends rest → item_at n (text n x ++ rest) ≡ Some (x, rest)
  pub end : (n : ℕ) (x : X) (rest : List ℕ) → Is (suc n) x → Ends rest → Ends (text (suc n) x ++ rest)

-- what may stand behind items may stand before those that are not the first
texts_end : {X : Type 0} (begins : ℕ → List ℕ → Bool) (item_at : ℕ → List ℕ → Option (X × List ℕ)) (text : ℕ → X → List ℕ) (Is : ℕ → X → Type 0) (Ends : List ℕ → Type 0) → IsReadAgain begins item_at text Is Ends
    → (n : ℕ) (xs : List X) (rest : List ℕ) → AllFrom Is (suc n) xs → Ends rest → Ends (texts text (suc n) xs ++ rest)
texts_end begins item_at text Is Ends r n [] rest all e = e
texts_end begins item_at text Is Ends r n (x ∷ xs) rest all e =
    rw (append_assoc (text (suc n) x) (texts text (suc (suc n)) xs) rest)
    (r.end n x (texts text (suc (suc n)) xs ++ rest) all.0 (texts_end begins item_at text Is Ends r (suc n) xs rest all.1 e))

list_again : {X : Type 0} (begins : ℕ → List ℕ → Bool) (item_at : ℕ → List ℕ → Option (X × List ℕ)) (text : ℕ → X → List ℕ) (Is : ℕ → X → Type 0) (Ends : List ℕ → Type 0) → IsReadAgain begins item_at text Is Ends
    → (most n : ℕ) (xs : List X) (rest : List ℕ) → AllFrom Is n xs → length xs ≤ most → Ends rest → begins (n + length xs) rest ≡ false
    → list_at begins item_at most n (texts text n xs ++ rest) ≡ Some (xs, rest)
unfolding list_at
list_again begins item_at text Is Ends r zero n [] rest all le e stop = refl
list_again begins item_at text Is Ends r (suc most) n [] rest all le e stop =
    let here : n + 0 ≡ n = omega arith in
    rw (rw here at stop) refl
list_again begins item_at text Is Ends r zero n (x ∷ xs) rest all le e stop = absurd (omega (arith, le))
list_again begins item_at text Is Ends r (suc most) n (x ∷ xs) rest all le e stop =
    let later = texts_end begins item_at text Is Ends r n xs rest all.1 e in
    let next : n + suc (length xs) ≡ suc n + length xs = omega arith in
    let others = list_again begins item_at text Is Ends r most (suc n) xs rest all.1 (omega (arith, le)) e (rw next at stop) in
    rw (append_assoc (text n x) (texts text (suc n) xs) rest, r.begin n x (texts text (suc n) xs ++ rest) all.0 later, r.again n x (texts text (suc n) xs ++ rest) all.0 later, others) refl

-- there are no more items than bytes
few_items : {X : Type 0} (begins : ℕ → List ℕ → Bool) (item_at : ℕ → List ℕ → Option (X × List ℕ)) (text : ℕ → X → List ℕ) (Is : ℕ → X → Type 0) (Ends : List ℕ → Type 0) → IsReadAgain begins item_at text Is Ends
    → (n : ℕ) (xs : List X) (rest : List ℕ) → AllFrom Is n xs → length xs ≤ length (texts text n xs ++ rest)
few_items begins item_at text Is Ends r n [] rest all = omega arith
few_items begins item_at text Is Ends r n (x ∷ xs) rest all =
    let one = r.some n x all.0 in
    let others = few_items begins item_at text Is Ends r (suc n) xs rest all.1 in
    rw (append_assoc (text n x) (texts text (suc n) xs) rest)
    (omega (arith, one, others, length-append (text n x) (texts text (suc n) xs ++ rest)))

-- all items that are printed are read again
pub each_again : {X : Type 0} (begins : ℕ → List ℕ → Bool) (item_at : ℕ → List ℕ → Option (X × List ℕ)) (text : ℕ → X → List ℕ) (Is : ℕ → X → Type 0) (Ends : List ℕ → Type 0) → IsReadAgain begins item_at text Is Ends
    → (xs : List X) (rest : List ℕ) → AllFrom Is 0 xs → Ends rest → begins (length xs) rest ≡ false → each_at begins item_at (texts text 0 xs ++ rest) ≡ Some (xs, rest)
each_again begins item_at text Is Ends r xs rest all e stop =
    let count : length xs ≡ 0 + length xs = omega arith in
    list_again begins item_at text Is Ends r (length (texts text 0 xs ++ rest)) 0 xs rest all (few_items begins item_at text Is Ends r 0 xs rest all) e (ap (λ n. begins n rest) (sym count) ∙ stop)

-- the same of texts that do not depend on the place
pub all_again : {X : Type 0} (begins : ℕ → List ℕ → Bool) (item_at : ℕ → List ℕ → Option (X × List ℕ)) (text : X → List ℕ) (Is : ℕ → X → Type 0) (Ends : List ℕ → Type 0) → IsReadAgain begins item_at (λ _. text) Is Ends
    → (xs : List X) (rest : List ℕ) → AllFrom Is 0 xs → Ends rest → begins (length xs) rest ≡ false → each_at begins item_at (flat_map text xs ++ rest) ≡ Some (xs, rest)
all_again begins item_at text Is Ends r xs rest all e stop =
    rw (texts_alike text 0 xs) (each_again begins item_at (λ _. text) Is Ends r xs rest all e stop)

pub all_end : {X : Type 0} (begins : ℕ → List ℕ → Bool) (item_at : ℕ → List ℕ → Option (X × List ℕ)) (text : X → List ℕ) (Is : ℕ → X → Type 0) (Ends : List ℕ → Type 0) → IsReadAgain begins item_at (λ _. text) Is Ends
    → (xs : List X) (rest : List ℕ) → AllFrom Is 1 xs → Ends rest → Ends (flat_map text xs ++ rest)
all_end begins item_at text Is Ends r xs rest all e = rw (texts_alike text 1 xs) (texts_end begins item_at (λ _. text) Is Ends r 0 xs rest all e)

-- with a comma before each but the first
abbrev pub comma : ℕ → List ℕ → List ℕ
comma zero text = text
comma (suc n) text = 44 ∷ text

commas : {X : Type 0} (text : X → List ℕ) (n : ℕ) (xs : List X) → flat_map (λ y. 44 ∷ text y) xs ≡ texts (λ k y. comma k (text y)) (suc n) xs
commas text n [] = refl
commas text n (x ∷ xs) = flat_map-cons (λ y. 44 ∷ text y) x xs ∙ ap (λ w. 44 ∷ (text x ++ w)) (commas text (suc n) xs)

-- a list with commas that is not empty
pub listed_texts : {X : Type 0} (text : X → List ℕ) (x : X) (xs : List X) → listed text (x ∷ xs) ≡ texts (λ k y. comma k (text y)) 0 (x ∷ xs)
listed_texts text x xs = ap (λ w. text x ++ w) (commas text 0 xs)

-- what holds of each item holds of it in its place
pub in_places : {X : Type 0} (P : X → Type 0) (n : ℕ) (xs : List X) → AllByRecursion P xs → AllFrom (λ _. P) n xs
in_places P n [] all = tt
in_places P n (x ∷ xs) all = (all.0, in_places P (suc n) xs all.1)

pub of_places : {X : Type 0} (P : X → Type 0) (n : ℕ) (xs : List X) → AllFrom (λ _. P) n xs → AllByRecursion P xs
of_places P n [] all = tt
of_places P n (x ∷ xs) all = (all.0, of_places P (suc n) xs all.1)

-- ---- what is read fits

-- what was read, where something was, fits
abbrev pub Fits : {X : Type 0} → (X → Type 0) → Option (X × List ℕ) → Type 0
Fits Is read = IfSome read (λ x. Is x.0)

pub fits_then : {A B : Type 0} (P : A → Type 0) (Q : B → Type 0) (read : Option (A × List ℕ)) (f : A × List ℕ → Option (B × List ℕ)) → Fits P read → ((x : A × List ℕ) → P x.0 → Fits Q (f x)) → Fits Q (read >>= f)
fits_then P Q None f p q = tt
fits_then P Q (Some x) f p q = q x p

list_fits : {X : Type 0} (begins : ℕ → List ℕ → Bool) (item_at : ℕ → List ℕ → Option (X × List ℕ)) (Is : ℕ → X → Type 0) → ((n : ℕ) (bytes : List ℕ) → begins n bytes ≡ true → Fits (Is n) (item_at n bytes))
    → (most n : ℕ) (bytes : List ℕ) → Fits (λ xs. AllFrom Is n xs × (length xs ≤ most)) (list_at begins item_at most n bytes)
unfolding list_at
list_fits begins item_at Is each zero n bytes = (tt, omega arith)
list_fits begins item_at Is each (suc most) n bytes = elim (cases_Bool (begins n bytes)) [
  | inl here ↦ rw (here) (fits_then (Is n) (λ xs. AllFrom Is n xs × (length xs ≤ suc most)) (item_at n bytes) _ (each n bytes here) (λ x p.
      fits_then (λ xs. AllFrom Is (suc n) xs × (length xs ≤ most)) (λ xs. AllFrom Is n xs × (length xs ≤ suc most)) (list_at begins item_at most (suc n) x.1) _
      (list_fits begins item_at Is each most (suc n) x.1) (λ xs ps. ((p, ps.0), let few = ps.1 in omega (arith, few)))))
  | inr none ↦ rw (none) (tt, omega arith)
]

pub each_fits : {X : Type 0} (begins : ℕ → List ℕ → Bool) (item_at : ℕ → List ℕ → Option (X × List ℕ)) (Is : ℕ → X → Type 0) → ((n : ℕ) (bytes : List ℕ) → begins n bytes ≡ true → Fits (Is n) (item_at n bytes))
    → (bytes : List ℕ) → Fits (λ xs. AllFrom Is 0 xs × (length xs ≤ length bytes)) (each_at begins item_at bytes)
each_fits begins item_at Is each bytes = list_fits begins item_at Is each (length bytes) 0 bytes
