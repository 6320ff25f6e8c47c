use Rattle.std.proofs.Common.{◌≡◌, ◌<◌, ◌^◌}
use Rattle.tree_fold.specs.Places.{name_number}
use Rattle.tree_fold.proofs.places.name_number.Given as goal

-- the number of the bytes so far
abbrev pub invariant-loop-at : goal.invariant-loop-at
invariant-loop-at l = record {
  is : l.number ≡ name_number l.at l.name;
  low : l.number < 256 ^ l.at;
}
