-- Names by number.
use Rattle.std.proofs.Common.{◌≡◌, ℕ, zero, suc, List, [], ◌∷◌, Some, None, slice_get, refl}
use Rattle.script_text.specs.Pieces.{name_of}

pub name_some : (names : List (List ℕ)) (n : ℕ) (name : List ℕ) → Some name ≡ slice_get names n → name ≡ name_of names n
name_some [] n name e = absurd cc
name_some (first ∷ names) zero name e = cc
name_some (first ∷ names) (suc n) name e = name_some names n name e

pub name_none : (names : List (List ℕ)) (n : ℕ) → None ≡ slice_get names n → [] ≡ name_of names n
name_none [] n e = refl
name_none (first ∷ names) zero e = absurd cc
name_none (first ∷ names) (suc n) e = name_none names n e
