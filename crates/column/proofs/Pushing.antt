-- What holds of each item of a list, by its place, after one more.
use Rattle.std.proofs.Common.{ℕ, zero, suc, ◌+◌, ◌<◌, List, [], ◌∷◌, ◌++◌, length, get_or, arith}

pub each_pushed : {A : Type 0} (P : ℕ → A → Type 0) (xs : List A) (x d : A)
    → ((k : ℕ) → k < length xs → P k (get_or xs k d))
    → P (length xs) x → (k : ℕ) → k < length xs + 1 → P k (get_or (xs ++ x ∷ []) k d)
each_pushed P [] x d old new zero lt = new
each_pushed P [] x d old new (suc k) lt = absurd (let f : ⊥ = omega (arith, lt) in f)
each_pushed P (y ∷ ys) x d old new zero lt = old zero (omega arith)
each_pushed P (y ∷ ys) x d old new (suc k) lt =
    each_pushed (λ n. P (suc n)) ys x d (λ n less. old (suc n) (omega (arith, less))) new k (omega (arith, lt))
