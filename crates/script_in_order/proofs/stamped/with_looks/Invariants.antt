use Rattle.std.proofs.Common.{◌≡◌}
use Rattle.world_code.specs.WorldView.{world_of}
use Rattle.script_in_order.specs.Stamped.{looked_in}
use Rattle.script_in_order.proofs.ListsChanged.{changed}
use Rattle.script_in_order.proofs.stamped.with_looks.Given as goal

-- the syncs so far have their looks
abbrev pub invariant-loop-sync : goal.invariant-loop-sync
invariant-loop-sync l =
    l.sync-items ≡ changed (looked_in (world_of l.world) l.client) l.sync-index l.fn.syncs.items
