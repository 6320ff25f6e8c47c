-- Lists, part by part.
use Rattle.std.proofs.Common.{◌≡◌, ◌≢◌, ℕ, zero, suc, ◌+◌, ◌-◌, ◌<◌, ◌≤◌, min, List, [], ◌∷◌, ◌++◌, length, drop, take, Some, refl, ap}
use Rattle.std.proofs.Common.{sym, subst, ◌∙◌, arith}
use Rattle.std.specs.List.{AllByRecursion}
use Rattle.std.specs.Prelude.{map, slice_get, slice_set, slice_index_or}
use Rattle.std.proofs.lemmas.Option.{none-some, same_Some}
pub use Rattle.log_node.proofs.CallerLemmas.{get_within as item_there}
pub use Rattle.log_node.proofs.CallerLemmas.{get_map_back as got_map}
pub use Rattle.log_node.proofs.CallerLemmas.{get_map as map_got}

-- past the end there is nothing
pub drop_past : {A : Type 0} (n : ℕ) (xs : List A) → length xs ≤ n → drop n xs ≡ []
drop_past zero [] le = refl
drop_past (suc n) [] le = refl
drop_past zero (x ∷ xs) le = absurd (let f : ⊥ = omega (arith, le) in f)
drop_past (suc n) (x ∷ xs) le = drop_past n xs (omega (arith, le))

-- more at the end is dropped from the same beginning
pub drop_behind : {A : Type 0} (n : ℕ) (xs ys : List A) → n ≤ length xs → drop n (xs ++ ys) ≡ drop n xs ++ ys
drop_behind zero xs ys le = refl
drop_behind (suc n) [] ys le = absurd (let f : ⊥ = omega (arith, le) in f)
drop_behind (suc n) (x ∷ xs) ys le = drop_behind n xs ys (omega (arith, le))

pub map_drop : {A B : Type 0} (f : A → B) (n : ℕ) (xs : List A) → drop n (map f xs) ≡ map f (drop n xs)
map_drop f zero xs = refl
map_drop f (suc n) [] = refl
map_drop f (suc n) (x ∷ xs) = map_drop f n xs

-- what is dropped twice
pub drop_twice : {A : Type 0} (m n k : ℕ) (xs : List A) → m + n ≡ k → drop m (drop n xs) ≡ drop k xs
drop_twice m zero k xs is = ap (λ (j : ℕ). drop j xs) (let e : m ≡ k = omega (arith, is) in e)
drop_twice zero (suc n) k [] is = none k where
  none : {A : Type 0} (j : ℕ) → ◌≡◌ {A = List A} [] (drop j [])
  none zero = refl
  none (suc j) = refl
drop_twice (suc m) (suc n) k [] is = none k where
  none : {A : Type 0} (j : ℕ) → ◌≡◌ {A = List A} [] (drop j [])
  none zero = refl
  none (suc j) = refl
drop_twice m (suc n) zero (x ∷ xs) is = absurd (let f : ⊥ = omega (arith, is) in f)
drop_twice m (suc n) (suc k) (x ∷ xs) is = drop_twice m n k xs (omega (arith, is))

pub got_dropped : {A : Type 0} (s : ℕ) (xs : List A) (n : ℕ) (x : A) → slice_get (drop s xs) n ≡ Some x
    → (m : ℕ) × (slice_get xs m ≡ Some x)
got_dropped zero xs n x is = (n, is)
got_dropped (suc s) [] n x is = absurd (none-some x is)
got_dropped (suc s) (y ∷ ys) n x is = let r = got_dropped s ys n x is in (suc r.0, r.1)

pub got_taken : {A : Type 0} (m : ℕ) (xs : List A) (n : ℕ) (x : A) → slice_get (take m xs) n ≡ Some x → slice_get xs n
    ≡ Some x
got_taken zero xs n x is = absurd (none-some x is)
got_taken (suc m) [] n x is = absurd (none-some x is)
got_taken (suc m) (y ∷ ys) zero x is = is
got_taken (suc m) (y ∷ ys) (suc n) x is = got_taken m ys n x is

-- another item at one place
pub set_there : {A : Type 0} (xs : List A) (i : ℕ) (x d : A) → i < length xs → slice_index_or (slice_set xs i x) i d ≡ x
set_there [] i x d lt = absurd (let f : ⊥ = omega (arith, lt) in f)
set_there (y ∷ ys) zero x d lt = refl
set_there (y ∷ ys) (suc i) x d lt = set_there ys i x d (omega (arith, lt))

pub set_elsewhere : {A : Type 0} (xs : List A) (i j : ℕ) (x d : A) → i ≢ j
    → slice_index_or (slice_set xs i x) j d ≡ slice_index_or xs j d
set_elsewhere [] i j x d ne = refl
set_elsewhere (y ∷ ys) zero zero x d ne = absurd (ne refl)
set_elsewhere (y ∷ ys) zero (suc j) x d ne = refl
set_elsewhere (y ∷ ys) (suc i) zero x d ne = refl
set_elsewhere (y ∷ ys) (suc i) (suc j) x d ne = set_elsewhere ys i j x d (λ e. ne (ap (λ (n : ℕ). suc n) e))

pub set-length : {A : Type 0} (xs : List A) (i : ℕ) (x : A) → length (slice_set xs i x) ≡ length xs
set-length [] i x = refl
set-length (y ∷ ys) zero x = refl
set-length (y ∷ ys) (suc i) x = ap (λ (n : ℕ). suc n) (set-length ys i x)

pub map_take : {A B : Type 0} (f : A → B) (n : ℕ) (xs : List A) → take n (map f xs) ≡ map f (take n xs)
map_take f zero xs = refl
map_take f (suc n) [] = refl
map_take {B} f (suc n) (x ∷ xs) = ap (λ (ys : List B). f x ∷ ys) (map_take f n xs)

-- what stands at a place behind what was dropped
pub dropped_at : {A : Type 0} (n : ℕ) (xs : List A) (k m : ℕ) → k + n ≡ m → slice_get (drop n xs) k ≡ slice_get xs m
dropped_at zero xs k m is = ap (slice_get xs) (let e : k ≡ m = omega (arith, is) in e)
dropped_at (suc n) [] k m is = refl
dropped_at (suc n) (x ∷ xs) k zero is = absurd (let f : ⊥ = omega (arith, is) in f)
dropped_at (suc n) (x ∷ xs) k (suc m) is = dropped_at n xs k m (omega (arith, is))

-- what holds of each holds of one
pub each_at : {A : Type 0} (P : A → Type 0) (xs : List A) (n : ℕ) (x : A) → AllByRecursion P xs
    → slice_get xs n ≡ Some x → P x
each_at P [] n x h e = absurd (none-some x e)
each_at P (y ∷ ys) zero x h e = subst P (same_Some y x e) h.0
each_at P (y ∷ ys) (suc n) x h e = each_at P ys n x h.1 e
