-- The words of a command line, parted.
use Rattle.std.specs.Prelude.{ℕ, List, [], ◌∷◌, Bool, false, not, Option, Some, None, codes, option_map}
use Rattle.std.specs.Prelude.{◌==◌, ◌&&◌, if◌then◌else◌}
use Rattle.std.specs.Str.{bytes_eq}
use Rattle.command_words.specs.declared.words.Words.{Words}

-- the word begins with `-` (45)
abbrev pub has_hyphen : List ℕ → Bool
has_hyphen [] = false
has_hyphen (b ∷ bs) = b == 45

-- the word is no option and no call for help
abbrev pub is_plain_word : List ℕ → Bool
is_plain_word word = not (has_hyphen word) && not (bytes_eq word (codes "help"))

-- one plain word, or two
abbrev pub parted : List (List ℕ) → Option (List ℕ × Option (List ℕ))
parted [] = None
parted (word ∷ []) = if is_plain_word word then Some (word, None) else None
parted (word ∷ number ∷ []) = if is_plain_word word && is_plain_word number then Some (word, Some number) else None
parted (word ∷ number ∷ other ∷ words) = None

-- the texts of the words that were found
abbrev pub texts_of : Words → List ℕ × Option (List ℕ)
texts_of words = (words.word.now, option_map (λ text. text.now) words.number)
