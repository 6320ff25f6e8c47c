-- The number behind places.
use Rattle.std.proofs.Common.{◌≡◌, refl, ℕ, ◌+◌, ◌≤◌, List, [], ◌∷◌, ◌++◌, length, take}
use Rattle.std.specs.Prelude.{max}
use Rattle.std.proofs.lemmas.List.{take_all}
use Rattle.col_core.specs.Keeping.{seen_past}

-- the places of two lists, one after the other
pub past_joined : (seen : ℕ) (xs ys : List ℕ) → seen_past seen (xs ++ ys) ≡ seen_past (seen_past seen xs) ys
past_joined seen [] ys = refl
past_joined seen (x ∷ xs) ys = past_joined (max seen (x + 1)) xs ys

-- all of a list's items
pub take_all_of : {A : Type 0} (xs : List A) (n : ℕ) → length xs ≤ n → take n xs ≡ xs
take_all_of xs n long = take_all n xs long
