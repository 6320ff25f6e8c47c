use Rattle.std.proofs.Common.{◌+◌, ◌-◌}
use Rattle.log_node.specs.Vectors.{at}
use Rattle.playback.proofs.Steps.{IsPlaying}
use Rattle.playback.proofs.player.items_in_order.Given as goal

-- what was played so far
abbrev pub invariant-loop-region : goal.invariant-loop-region
invariant-loop-region l = IsPlaying l.view l.fn.from l.played l.items.items

abbrev pub decreases-loop-region : goal.decreases-loop-region
decreases-loop-region l =
    (at l.view.cut 0 - at l.played 0) + (at l.view.cut 1 - at l.played 1)
    + (at l.view.cut 2 - at l.played 2) + (at l.view.cut 3 - at l.played 3)
