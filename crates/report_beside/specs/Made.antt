-- Texts of a report's parts that were made apart.
use Rattle.std.specs.Prelude.{◌≡◌, ℕ, List, Option, Some, None, slice_get, ⊤}
use Rattle.fuzzy_io.specs.Memory.{BytesHeld}

-- just these bytes, or nothing, where there was no memory for them
abbrev pub IsMade : List ℕ → Option BytesHeld → Type 0
IsMade text None = ⊤
IsMade text (Some held) = held.bytes ≡ text

-- what was made for each item is its text; there may be fewer than items
abbrev pub AreMade : {A : Type 0} → (A → List ℕ) → List A → List (Option BytesHeld) → Type 0
AreMade {A = A} text_of items made =
    (n : ℕ) (x : A) (one : Option BytesHeld) → slice_get items n ≡ Some x → slice_get made n ≡ Some one → IsMade (text_of x) one
