-- What the meaning of trees rests on of their own laws.
use Rattle.tree_fold.specs.Laws.{ChangesReadBack, NamesAreAnswered}

-- the text of a change is read as this change, and what is computed of a path is what is answered of it
abbrev pub TreesReadBack : Type 0
TreesReadBack = ChangesReadBack × NamesAreAnswered
