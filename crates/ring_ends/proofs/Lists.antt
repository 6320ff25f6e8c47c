-- Lists with one item more, or with another item at a place.
use Rattle.std.proofs.Common.{◌≡◌, ◌≢◌, ◌⊎◌, inl, inr, Bool, true, false, nat_eq, ℕ, zero, suc, ◌+◌, ◌<◌, List, [], ◌∷◌, ◌++◌, length, map, set, take, drop, Some, slice_get, refl, ap, sym, ◌∙◌, arith, length-append}
use Rattle.std.specs.List.{All}
use Rattle.log_node.proofs.CallerLemmas.{get_last, get_longer, get_within}

-- the last of so many, or one before it
pub last_or_before : (n i : ℕ) → n < i + 1 → (n ≡ i) ⊎ (n < i)
last_or_before n i lt = by (nat_eq n i) refl where
  by : (b : Bool) → nat_eq n i ≡ b → (n ≡ i) ⊎ (n < i)
  by true e = inl (grind (arith, e))
  by false e = inr (grind (arith, e, lt))

module _ {A : Type 0} where
  pub all_more : (P : A → Type 0) (xs : List A) (x : A) → All P xs → P x → All P (xs ++ x ∷ [])
  all_more P [] x old new zero d lt = new
  all_more P [] x old new (suc k) d lt = absurd (let f : ⊥ = omega (arith, lt) in f)
  all_more P (y ∷ ys) x old new zero d lt = old zero d (omega arith)
  all_more P (y ∷ ys) x old new (suc k) d lt =
      all_more P ys x (λ j e l. old (suc j) e (omega (arith, l))) new k d (omega (arith, lt))

  pub one_more : (xs : List A) (x : A) → length (xs ++ x ∷ []) ≡ length xs + 1
  one_more xs x = length-append xs (x ∷ [])

  -- an item of the list stays where it was, and the new one stands behind all others
  pub get_old : (xs : List A) (x : A) (n : ℕ) → n < length xs → slice_get (xs ++ x ∷ []) n ≡ slice_get xs n
  get_old xs x n lt = let there = get_within xs n lt in get_longer xs (x ∷ []) n there.0 there.1 ∙ sym there.1

  pub get_new : (xs : List A) (x : A) (n : ℕ) → length xs ≡ n → slice_get (xs ++ x ∷ []) n ≡ Some x
  get_new xs x n long = ap (slice_get (xs ++ x ∷ [])) (sym long) ∙ get_last xs x

  -- an item before others
  pub get_at : (xs ys : List A) (x : A) (n : ℕ) → length xs ≡ n → slice_get (xs ++ x ∷ ys) n ≡ Some x
  get_at [] ys x zero long = refl
  get_at [] ys x (suc n) long = absurd (let f : ⊥ = omega (arith, long) in f)
  get_at (y ∷ xs) ys x zero long = absurd (let f : ⊥ = omega (arith, long) in f)
  get_at (y ∷ xs) ys x (suc n) long = get_at xs ys x n (omega (arith, long))

  -- a whole list that was lent is as it was given back
  pub given_back : (n : ℕ) (new items : List A) → n ≡ length items → length new ≡ length items
      → take n (new ++ drop (length new) items) ≡ new
  given_back zero [] [] long same = refl
  given_back zero [] (y ∷ ys) long same = absurd (let f : ⊥ = omega (arith, same) in f)
  given_back zero (x ∷ xs) [] long same = absurd (let f : ⊥ = omega (arith, same) in f)
  given_back zero (x ∷ xs) (y ∷ ys) long same = absurd (let f : ⊥ = omega (arith, long) in f)
  given_back (suc n) [] [] long same = absurd (let f : ⊥ = omega (arith, long) in f)
  given_back (suc n) [] (y ∷ ys) long same = absurd (let f : ⊥ = omega (arith, same) in f)
  given_back (suc n) (x ∷ xs) [] long same = absurd (let f : ⊥ = omega (arith, same) in f)
  given_back (suc n) (x ∷ xs) (y ∷ ys) long same =
      ap (λ l. x ∷ l) (given_back n xs ys (omega (arith, long)) (omega (arith, same)))

  -- an item that was set, and the others
  pub set_here : (xs : List A) (i : ℕ) (x : A) → i < length xs → slice_get (set xs i x) i ≡ Some x
  set_here [] i x lt = absurd (let f : ⊥ = omega (arith, lt) in f)
  set_here (y ∷ xs) zero x lt = refl
  set_here (y ∷ xs) (suc i) x lt = set_here xs i x (omega (arith, lt))

  pub set_there : (xs : List A) (i k : ℕ) (x : A) → k ≢ i → slice_get (set xs i x) k ≡ slice_get xs k
  set_there [] i k x ne = refl
  set_there (y ∷ xs) zero zero x ne = absurd (ne refl)
  set_there (y ∷ xs) zero (suc k) x ne = refl
  set_there (y ∷ xs) (suc i) zero x ne = refl
  set_there (y ∷ xs) (suc i) (suc k) x ne = set_there xs i k x (λ e. ne (ap suc e))

pub map_more : {A B : Type 0} (f : A → B) (xs : List A) (x : A) → map f (xs ++ x ∷ []) ≡ map f xs ++ f x ∷ []
map_more f [] x = refl
map_more f (y ∷ xs) x = ap (λ l. f y ∷ l) (map_more f xs x)
