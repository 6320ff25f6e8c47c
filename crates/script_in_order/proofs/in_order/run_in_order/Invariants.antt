use Rattle.world_code.specs.WorldView.{world_of}
use Rattle.script_in_order.specs.Folds.{AreFolded}
use Rattle.script_in_order.specs.Runs.{IsRunAt}
use Rattle.script_in_order.proofs.in_order.run_in_order.Given as goal

-- the commands so far, and what of their nodes is folded
abbrev pub invariant-loop-place : goal.invariant-loop-place
invariant-loop-place l =
    IsRunAt l.script l.place (record { world = l.world; replies = l.replies.items })
    × AreFolded (world_of l.world) l.script.objects l.folds
