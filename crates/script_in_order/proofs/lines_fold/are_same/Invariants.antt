use Rattle.std.proofs.Common.{◌≡◌, take}
use Rattle.script_in_order.proofs.lines_fold.are_same.Given as goal

-- those so far are the same
abbrev pub invariant-loop-place : goal.invariant-loop-place
invariant-loop-place l = take l.place l.some ≡ take l.place l.others
