-- What is so of the items of a list, each by its number.
use Rattle.std.proofs.Common.{◌≡◌, refl, ℕ, suc, List, [], ◌∷◌, Some}
use Rattle.std.specs.Prelude.{slice_get}
use Rattle.std.specs.List.{AllZip}

abbrev pub Numbered : {A : Type 0} → (ℕ → A → Type 0) → List A → Type 0
Numbered P [] = Unit {0}
Numbered P (x ∷ xs) = P 0 x × Numbered (λ k. P (suc k)) xs

-- what is so wherever an item stands
pub all_numbered : {A : Type 0} (P : ℕ → A → Type 0) (xs : List A) → ((k : ℕ) (x : A) → slice_get xs k ≡ Some x → P k x)
    → Numbered P xs
all_numbered P [] f = tt
all_numbered {A} P (x ∷ xs) f = (f 0 x refl, all_numbered (λ (k : ℕ) (y : A). P (suc k) y) xs (λ k y e. f (suc k) y e))

-- of items beside one another
pub zip_numbered : {A B : Type 0} (R S : A → B → Type 0) (P : ℕ → A → Type 0) (Q : ℕ → B → Type 0) (xs : List A) (ys : List B)
    → AllZip R xs ys → Numbered P xs → Numbered Q ys → ((k : ℕ) (x : A) (y : B) → R x y → P k x → Q k y → S x y)
    → AllZip S xs ys
zip_numbered R S P Q [] [] r p q f = tt
zip_numbered R S P Q [] (y ∷ ys) r p q f = absurd r
zip_numbered R S P Q (x ∷ xs) [] r p q f = absurd r
zip_numbered {A} {B} R S P Q (x ∷ xs) (y ∷ ys) r p q f = (
  f 0 x y r.0 p.0 q.0,
  zip_numbered R S (λ (k : ℕ) (z : A). P (suc k) z) (λ (k : ℕ) (z : B). Q (suc k) z) xs ys r.1 p.1 q.1 (λ k. f (suc k)),
)

-- what more is so of each
pub numbered_more : {A : Type 0} (P S : ℕ → A → Type 0) (xs : List A) → Numbered P xs
    → ((k : ℕ) (x : A) → slice_get xs k ≡ Some x → P k x → S k x) → Numbered S xs
numbered_more P S [] p f = tt
numbered_more {A} P S (x ∷ xs) p f = (
  f 0 x refl p.0,
  numbered_more (λ (k : ℕ) (y : A). P (suc k) y) (λ (k : ℕ) (y : A). S (suc k) y) xs p.1 (λ k y e. f (suc k) y e),
)
