-- Beginnings of lists and of column histories, and functions with another value at one number.
use Rattle.std.proofs.Common.{◌≡◌, ℕ, zero, suc, ◌≤◌, List, [], ◌∷◌, ◌++◌, take, drop, refl, ap, sym, subst, ◌∙◌, arith}
use Rattle.std.specs.Prelude.{◌==◌}
use Rattle.std.proofs.lemmas.Bool.{eqb-true, eq-eqb}
use Rattle.std.proofs.lemmas.List.{take-append-le}
use Rattle.col_core.specs.Cuts.{Dated}
use Rattle.col_core.specs.Legal.{IsColumnHistory, IsLawfulEvent}
use Rattle.col_core.specs.Keeping.{updated, updated_at}
use Rattle.col_core.proofs.CallerLemmas.{choice, if_true}
use Rattle.lawful_run.proofs.Prefixes.{get-append, get_within}

-- at another value
pub at_new : {A : Type 0} (P : A → Type 0) (f : ℕ → A) (n : ℕ) (x : A) (m : ℕ) → (m ≡ n → P x) → P (f m)
    → P (updated f n x m)
at_new P f n x m here there = choice P (m == n) x (f m) (λ t. here (eqb-true m n t)) (λ _. there)

pub at_new_at : (P : ℕ → Type 0) (f : ℕ → ℕ → ℕ) (a n x b m : ℕ) → (b ≡ a → m ≡ n → P x) → P (f b m)
    → P (updated_at f a n x b m)
at_new_at P f a n x b m here there =
    at_new (λ (g : ℕ → ℕ). P (g m)) f a (updated (f a) n x) b
    (λ e. at_new P (f a) n x m (here e) (subst (λ r. P (f r m)) e there)) there

pub split : {A : Type 0} (xs : List A) (n : ℕ) → take n xs ++ drop n xs ≡ xs
split [] zero = refl
split [] (suc n) = refl
split (x ∷ xs) zero = refl
split (x ∷ xs) (suc n) = ap (λ l. x ∷ l) (split xs n)

short : {A : Type 0} (xs : List A) (n m : ℕ) → n ≤ m → take n (take m xs) ≡ take n xs
short xs zero m le = refl
short xs (suc n) zero le = absurd (let f : ⊥ = omega (arith, le) in f)
short [] (suc n) (suc m) le = refl
short (x ∷ xs) (suc n) (suc m) le = ap (λ l. x ∷ l) (short xs n m (omega (arith, le)))

pub taken : {A : Type 0} (xs : List A) (n m : ℕ) → n ≤ m → take n xs ++ drop n (take m xs) ≡ take m xs
taken xs n m le = ap (λ l. l ++ drop n (take m xs)) (sym (short xs n m le)) ∙ split (take m xs) n

-- the beginning of a column's history is one
pub front : (own regions : ℕ) (before more : List Dated) → IsColumnHistory own regions (before ++ more)
    → IsColumnHistory own regions before
front own regions before more h n d there =
    let lt = get_within before n d there in
    subst (λ (ds : List Dated). IsLawfulEvent own regions ds d.entry.event d.entry.stamp)
    (take-append-le n before more (omega (arith, lt)))
    (h n d (get-append before more n d there))

pub updated_at_here : (f : ℕ → ℕ → ℕ) (a n x : ℕ) → updated_at f a n x a n ≡ x
updated_at_here f a n x =
    ap (λ (g : ℕ → ℕ). g n) (if_true (a == a) (updated (f a) n x) (f a) (eq-eqb a a refl)) ∙ if_true (n == n) x (f a n)
    (eq-eqb n n refl)
