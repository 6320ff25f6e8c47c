-- Which drawing the words of a command line ask for.
use Rattle.std.specs.Prelude.{ℕ, List, [], ◌∷◌, Option, Some, None, codes, if◌then◌else◌}
use Rattle.std.specs.Str.{bytes_eq}
use Rattle.run_picture.specs.declared.asked.Drawing.{Drawing}
use Rattle.run_picture.specs.declared.asked.Drawing.TheVariants.{Picture, Timeline}

-- the drawing that a word names
abbrev pub drawing_at : List ℕ → Option Drawing
drawing_at word =
    if bytes_eq word (codes "picture") then Some Picture
    else if bytes_eq word (codes "timeline") then Some Timeline else None

-- the drawing that a word names with no other after it
abbrev pub drawing_by : List ℕ × Option (List ℕ) → Option Drawing
drawing_by (word, None) = drawing_at word
drawing_by (word, Some other) = None

-- one word alone asks for a drawing
abbrev pub drawing_of : List (List ℕ) → Option Drawing
drawing_of [] = None
drawing_of (word ∷ []) = drawing_at word
drawing_of (word ∷ other ∷ words) = None
