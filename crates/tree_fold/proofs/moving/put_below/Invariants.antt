use Rattle.std.proofs.Common.{◌≡◌, ◌++◌, List, length}
use Rattle.std.specs.Map.{values_of}
use Rattle.tree_fold.specs.declared.entries.Entry.{Entry}
use Rattle.tree_fold.specs.declared.places.Place.{Place}
use Rattle.tree_fold.specs.Places.{AreMoved}
use Rattle.tree_fold.proofs.moving.put_below.Given as goal

-- the first entries are in the branch
abbrev pub invariant-loop-entry : goal.invariant-loop-entry
invariant-loop-entry l = record {
  done : List (Place × Entry);
  parts : done ++ l.entry-iterator ≡ l.initial.entry-iterator;
  moved : (branch : List Entry) → AreMoved (length l.source) l.target branch l.initial.moved → AreMoved (length l.source) l.target (branch ++ values_of done) l.moved;
}
