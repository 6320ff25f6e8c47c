use Rattle.std.proofs.Common.{◌≡◌, ◌%◌, sum, take}
use Rattle.part_fold.proofs.part.place_of.Given as goal

-- the sum of the bytes so far
abbrev pub invariant-loop-byte : goal.invariant-loop-byte
invariant-loop-byte l = l.place ≡ sum (take l.byte-index l.key) % l.colours
