-- Plain facts of lists, options, tests and answers, for all crates above.
use Rattle.std.proofs.Common.{◌≡◌, ℕ, zero, suc, ◌+◌, ◌<◌, ◌||◌, ◌⊎◌, ◌∙◌, List, [], ◌∷◌, ◌++◌, Bool, true, false, cond, Some, Result, Ok, Err, ap, sym, refl, inl, inr, length, map, get_or, arith}
use Rattle.std.proofs.lemmas.Option.{slice_get-map}
use Rattle.std.specs.Option.{option_map}
use Rattle.std.specs.List.{AllZip, Contains, count_by, enumerate_from, range_with_len}
use Rattle.std.proofs.lemmas.List.Sums.{sum_by-cons}
use Rattle.std.specs.Prelude.{IfOk, OnErr, slice_get}

-- an item of a mapped list
pub get_map : {A B : Type 0} (f : A → B) (xs : List A) (n : ℕ) (x : A) → slice_get xs n ≡ Some x
    → slice_get (map f xs) n ≡ Some (f x)
get_map f xs n x at = slice_get-map f xs n ∙ ap (option_map f) at

-- and what it is the image of
pub get_map_back : {A B : Type 0} (f : A → B) (xs : List A) (i : ℕ) (y : B) → slice_get (map f xs) i ≡ Some y
    → (x : A) × (slice_get xs i ≡ Some x) × (f x ≡ y)
get_map_back f [] i y e = absurd cc
get_map_back f (x ∷ xs) zero y e = (x, refl, cc e)
get_map_back f (x ∷ xs) (suc i) y e = get_map_back f xs i y e

-- how many pass, with one more in front
pub count_by-cons : {A : Type 0} (p : A → Bool) (y : A) (ys : List A) → count_by p (y ∷ ys) ≡ cond (p y) 1 0 + count_by p ys
count_by-cons p y ys = sum_by-cons (λ x. cond (p x) 1 0) y ys

-- there is an item below the length
pub get_within : {A : Type 0} (xs : List A) (i : ℕ) → i < length xs → (x : A) × (slice_get xs i ≡ Some x)
get_within [] i lt = absurd (omega (arith, lt))
get_within (x ∷ xs) zero lt = (x, refl)
get_within (x ∷ xs) (suc i) lt = get_within xs i (omega (arith, lt))

-- the last item
pub get_last : {A : Type 0} (xs : List A) (y : A) → slice_get (xs ++ y ∷ []) (length xs) ≡ Some y
get_last [] y = refl
get_last (x ∷ xs) y = get_last xs y

-- the numbered items, with one more at the end
pub enumerate-push : {X : Type 0} (n : ℕ) (xs : List X) (x : X) → enumerate_from n (xs ++ x ∷ []) ≡ enumerate_from n xs ++ (n + length xs, x) ∷ []
enumerate-push n [] x = ap (λ (k : ℕ). (k, x) ∷ []) (omega arith)
enumerate-push n (y ∷ ys) x =
    let place : n + 1 + length ys ≡ n + length (y ∷ ys) = omega arith in
    ap (λ w. (n, y) ∷ w) (enumerate-push (n + 1) ys x ∙ ap (λ (k : ℕ). enumerate_from (n + 1) ys ++ (k, x) ∷ []) place)

-- what counts for one is so
pub one_if : (b : Bool) → 0 < cond b 1 0 → b ≡ true
one_if true h = refl
one_if false h = absurd (let f : ⊥ = omega (arith, h) in f)

-- what follows for each two
pub all_zip_of : {A B : Type 0} (P Q : A → B → Type 0) → ((a : A) (b : B) → P a b → Q a b) → (xs : List A) (ys : List B)
    → AllZip P xs ys → AllZip Q xs ys
all_zip_of P Q f [] [] all = tt
all_zip_of P Q f [] (y ∷ ys) all = absurd all
all_zip_of P Q f (x ∷ xs) [] all = absurd all
all_zip_of P Q f (x ∷ xs) (y ∷ ys) all = (f x y all.0, all_zip_of P Q f xs ys all.1)

-- below the length the other value is never read
pub any_default : {A : Type 0} (xs : List A) (i : ℕ) (d e : A) → i < length xs → get_or xs i d ≡ get_or xs i e
any_default [] i d e lt = absurd (let f : ⊥ = omega (arith, lt) in f)
any_default (x ∷ xs) zero d e lt = refl
any_default (x ∷ xs) (suc i) d e lt = any_default xs i d e (omega (arith, lt))

-- an item of a list with one more at the end
pub get_push : {A : Type 0} (xs : List A) (x : A) (n : ℕ) (y : A) → slice_get (xs ++ x ∷ []) n ≡ Some y
    → (slice_get xs n ≡ Some y) ⊎ ((n ≡ length xs) × (x ≡ y))
get_push [] x zero y e = inr (refl, let f : x ≡ y = cc in f)
get_push [] x (suc n) y e = absurd (let f : ⊥ = cc in f)
get_push (z ∷ xs) x zero y e = inl e
get_push {A} (z ∷ xs) x (suc n) y e = turn (get_push xs x n y e) where
  turn : (slice_get xs n ≡ Some y) ⊎ ((n ≡ length xs) × (x ≡ y))
      → (slice_get xs n ≡ Some y) ⊎ ((suc n ≡ suc (length xs)) × (x ≡ y))
  turn (inl old) = inl old
  turn (inr new) = inr (ap suc new.0, new.1)

-- nothing is in no list
pub contains_none : {A : Type 0} (y : A) → Contains [] y → ⊥
contains_none y (k, lt, e) = omega (arith, lt)

-- or with false
pub or_false : (b : Bool) → (b || false) ≡ b
or_false true = refl
or_false false = refl

-- what is there is there in a longer list
pub get_longer : {A : Type 0} (xs ys : List A) (i : ℕ) (v : A) → slice_get xs i ≡ Some v → slice_get (xs ++ ys) i ≡ Some v
get_longer [] ys i v h = absurd cc
get_longer (x ∷ xs) ys zero v h = h
get_longer (x ∷ xs) ys (suc i) v h = get_longer xs ys i v h

-- two values that are there are one
pub same_some : {A : Type 0} {x y : A} → Some x ≡ Some y → x ≡ y
same_some e = cc

-- what holds in any case holds at an error
pub on_err : {R E : Type 0} (r : Result R E) (P : Type 0) → P → OnErr r P
on_err (Ok x) P p = tt
on_err (Err e) P p = p

-- a number by its place
pub get_range : (a m n x : ℕ) → slice_get (range_with_len a m) n ≡ Some x → x ≡ a + n
get_range a zero n x e = absurd (let f : ⊥ = cc in f)
get_range a (suc m) zero x e = let f : a ≡ x = cc in omega (arith, f)
get_range a (suc m) (suc n) x e = let f = get_range (a + 1) m n x e in omega (arith, f)

-- what follows for an answer
pub ok_then : {T E : Type 0} (r : Result T E) (P Q : T → Type 0) → ((x : T) → P x → Q x) → IfOk r P → IfOk r Q
ok_then (Ok x) P Q f h = f x h
ok_then (Err e) P Q f h = tt

-- two tests that imply each other
pub same_tests : (a b : Bool) → (a ≡ true → b ≡ true) → (b ≡ true → a ≡ true) → a ≡ b
same_tests true b f g = sym (f refl)
same_tests false true f g = g refl
same_tests false false f g = refl
