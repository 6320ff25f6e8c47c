use Rattle.std.proofs.Common.{◌≡◌, take}
use Rattle.world_laws.specs.Worlds.{World}
use Rattle.script_in_order.specs.Folds.{AreFolded}
use Rattle.script_in_order.proofs.folds.Folds.open.Given as goal

-- the folds of the objects so far
abbrev pub invariant-loop-object : goal.invariant-loop-object
invariant-loop-object l =
    (w : World) → w.shape ≡ l.script.shape
    → AreFolded w (take l.object-index l.object-items) l.of.items
