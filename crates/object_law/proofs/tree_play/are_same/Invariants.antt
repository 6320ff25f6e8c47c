use Rattle.std.proofs.Common.{◌≡◌, length, take}
use Rattle.object_law.proofs.tree_play.are_same.Given as goal

-- the names so far are the same
abbrev pub invariant-loop-place : goal.invariant-loop-place
invariant-loop-place l = (length l.one ≡ length l.other) × (take l.place l.one ≡ take l.place l.other)
