use Rattle.std.proofs.Common.{◌≡◌, ◌++◌, List, ℕ, length}
use Rattle.script_text.specs.Pieces.{fields_of, is_ascii_line}
use Rattle.script_text.specs.Readings.{fields_in}
use Rattle.script_text.proofs.pieces.cut_line.Given as goal

-- the fields so far, and those of the rest
pub record Cuts (fields : List (List ℕ)) (rest line : List ℕ) : Type 0 where
  pub cut : fields ++ fields_of rest ≡ fields_of line
  pub ascii : is_ascii_line rest ≡ is_ascii_line line

abbrev pub invariant-loop-rest : goal.invariant-loop-rest
invariant-loop-rest l = Cuts (fields_in l.fields.items) l.rest l.line

abbrev pub decreases-loop-rest : goal.decreases-loop-rest
decreases-loop-rest l = length l.rest
