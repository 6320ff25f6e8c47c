-- Two holds of a list, taken out by splitting it.
use Rattle.std.proofs.Common.{◌≡◌, ◌≢◌, ℕ, zero, suc, ◌<◌, List, [], ◌∷◌, ◌++◌, length, take, drop, get_or, Some, refl, ap, sym, ◌∙◌, arith, append-nil}
use Rattle.std.specs.Prelude.{slice_get, slice_set}

module _ {A : Type 0} where
  -- what is read of the two parts
  pub low_at : (xs low : List A) (n m : ℕ) (x d : A) → slice_get xs n ≡ Some x → n < m → low ≡ take m xs
      → get_or low n d ≡ x
  low_at xs low n m x d e lt is = ap (λ l. get_or l n d) is ∙ go xs n m e lt where
    go : (ys : List A) (i k : ℕ) → slice_get ys i ≡ Some x → i < k → get_or (take k ys) i d ≡ x
    go ys i zero e lt = absurd (let f : ⊥ = omega (arith, lt) in f)
    go [] i (suc k) e lt = absurd (let f : ⊥ = cc (e) in f)
    go (y ∷ ys) zero (suc k) e lt = cc (e)
    go (y ∷ ys) (suc i) (suc k) e lt = go ys i k e (omega (arith, lt))

  pub high_at : (xs high : List A) (m : ℕ) (x d : A) → slice_get xs m ≡ Some x → high ≡ drop m xs → get_or high 0 d ≡ x
  high_at xs high m x d e is = ap (λ l. get_or l 0 d) is ∙ go xs m e where
    go : (ys : List A) (k : ℕ) → slice_get ys k ≡ Some x → get_or (drop k ys) 0 d ≡ x
    go [] k e = absurd (let f : ⊥ = cc (e) in f)
    go (y ∷ ys) zero e = cc (e)
    go (y ∷ ys) (suc k) e = go ys k e

  set_back : (xs : List A) (m : ℕ) (b : A) → m < length xs → take m xs ++ slice_set (drop m xs) 0 b ≡ slice_set xs m b
  set_back [] m b lt = absurd (let f : ⊥ = omega (arith, lt) in f)
  set_back (x ∷ xs) zero b lt = refl
  set_back (x ∷ xs) (suc m) b lt = ap (λ l. x ∷ l) (set_back xs m b (omega (arith, lt)))

  set_both : (xs : List A) (n m : ℕ) (a b : A) → n < m → m < length xs
      → slice_set (take m xs) n a ++ slice_set (drop m xs) 0 b ≡ slice_set (slice_set xs n a) m b
  set_both [] n m a b lt within = absurd (let f : ⊥ = omega (arith, within) in f)
  set_both (x ∷ xs) n zero a b lt within = absurd (let f : ⊥ = omega (arith, lt) in f)
  set_both (x ∷ xs) zero (suc m) a b lt within = ap (λ l. a ∷ l) (set_back xs m b (omega (arith, within)))
  set_both (x ∷ xs) (suc n) (suc m) a b lt within =
      ap (λ l. x ∷ l) (set_both xs n m a b (omega (arith, lt)) (omega (arith, within)))

  pub set_apart : (xs : List A) (n m : ℕ) (a b : A) → n ≢ m
      → slice_set (slice_set xs n a) m b ≡ slice_set (slice_set xs m b) n a
  set_apart [] n m a b ne = refl
  set_apart (x ∷ xs) zero zero a b ne = absurd (ne refl)
  set_apart (x ∷ xs) zero (suc m) a b ne = refl
  set_apart (x ∷ xs) (suc n) zero a b ne = refl
  set_apart (x ∷ xs) (suc n) (suc m) a b ne = ap (λ l. x ∷ l) (set_apart xs n m a b (λ e. ne (ap suc e)))

  dropped_all : (ws xs : List A) → length ws ≡ length xs → drop (length ws) xs ≡ []
  dropped_all [] [] e = refl
  dropped_all [] (x ∷ xs) e = absurd (let f : ⊥ = omega (arith, e) in f)
  dropped_all (w ∷ ws) [] e = absurd (let f : ⊥ = omega (arith, e) in f)
  dropped_all (w ∷ ws) (x ∷ xs) e = dropped_all ws xs (omega (arith, e))

  taken_all : (ws : List A) (k : ℕ) → k ≡ length ws → take k ws ≡ ws
  taken_all [] zero e = refl
  taken_all [] (suc k) e = refl
  taken_all (w ∷ ws) zero e = absurd (let f : ⊥ = omega (arith, e) in f)
  taken_all (w ∷ ws) (suc k) e = ap (λ l. w ∷ l) (taken_all ws k (omega (arith, e)))

  set_keeps : (xs : List A) (n : ℕ) (x : A) → length (slice_set xs n x) ≡ length xs
  set_keeps [] n x = refl
  set_keeps (z ∷ zs) zero x = refl
  set_keeps (z ∷ zs) (suc n) x = ap suc (set_keeps zs n x)

  -- the list that the two parts leave
  pub parts_left : (xs low high : List A) (n m len : ℕ) (a b : A) → n < m → m < length xs → len ≡ length xs
      → low ≡ take m xs → high ≡ drop m xs
      → take len ((slice_set low n a ++ slice_set high 0 b)
      ++ drop (length (slice_set low n a ++ slice_set high 0 b)) xs)
      ≡ slice_set (slice_set xs n a) m b
  parts_left xs low high n m len a b lt within long is_low is_high =
      let ws = slice_set low n a ++ slice_set high 0 b in
      let is : ws ≡ slice_set (slice_set xs n a) m b =
      ap (λ l. slice_set l n a ++ slice_set high 0 b) is_low
      ∙ (ap (λ l. slice_set (take m xs) n a ++ slice_set l 0 b) is_high ∙ set_both xs n m a b lt within) in
      let same : length ws ≡ length xs = ap length is ∙ (set_keeps (slice_set xs n a) m b ∙ set_keeps xs n a) in
      ap (λ l. take len (ws ++ l)) (dropped_all ws xs same)
      ∙ (ap (take len) (append-nil ws) ∙ (taken_all ws len (long ∙ sym same) ∙ is))
