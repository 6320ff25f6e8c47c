-- The beginning of a drawing.
use Rattle.std.specs.Prelude.{ℕ, List, [], ◌∷◌, decimal, codes}
use Rattle.run_picture.specs.declared.look.TheConstants.{LOOK}
use Rattle.run_picture.specs.Pieces.{texts_joined}

-- the beginning of a drawing of this size, with what it says of itself
abbrev pub start_text : ℕ → ℕ → List ℕ → List ℕ
start_text width height legend =
    texts_joined (codes "<svg xmlns='http://www.w3.org/2000/svg' font-family='Helvetica,Arial,sans-serif' font-size='11' width='"
    ∷ decimal width ∷ codes "' height='" ∷ decimal height ∷ codes "'>\n" ∷ LOOK.now ∷ legend ∷ [])
