-- The pieces of a drawing's text, and how texts of a script stand in it.
use Rattle.std.specs.Prelude.{ℕ, ◌==◌, nat_le, nat_lt, ◌&&◌, List, [], ◌∷◌, decimal, codes, if◌then◌else◌}
use Rattle.std.specs.List.{flat_map}
use Rattle.run_picture.specs.declared.pieces.Piece.{Piece}
use Rattle.run_picture.specs.declared.pieces.Piece.TheVariants.{Mark, Number, Text}

-- a byte of a text: what XML keeps for itself is written as an entity, and what can't be seen as a question mark
abbrev pub escaped : ℕ → List ℕ
escaped b =
    if b == 38 then codes "&amp;"
    else (if b == 60 then codes "&lt;"
    else (if nat_le 32 b && nat_lt b 127 then b ∷ [] else codes "?"))

-- a text, as it stands in a drawing
abbrev pub text_shown : List ℕ → List ℕ
text_shown text = flat_map escaped text

-- the bytes of a piece
abbrev pub piece_text : Piece → List ℕ
piece_text (Mark mark) = mark.now
piece_text (Number number) = decimal number
piece_text (Text text) = text_shown text.now

-- one text after another
abbrev pub texts_joined : List (List ℕ) → List ℕ
texts_joined texts = flat_map (λ text. text) texts
