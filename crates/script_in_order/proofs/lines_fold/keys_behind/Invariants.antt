use Rattle.std.proofs.Common.{◌≡◌, take}
use Rattle.world_code.specs.WorldView.{world_of}
use Rattle.script_in_order.specs.Folds.{keys_behind}
use Rattle.script_in_order.proofs.lines_fold.keys_behind.Given as goal

-- the keys of the lines so far
abbrev pub invariant-loop-first : goal.invariant-loop-first
invariant-loop-first l =
    l.keys.items ≡ keys_behind (world_of l.world) l.stamp (take l.first-index l.firsts)
