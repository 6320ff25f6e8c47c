use Rattle.std.proofs.Common.{◌≡◌, take, map}
use Rattle.world_code.specs.WorldView.{world_of}
use Rattle.script_meaning.specs.Stamped.{shown_key}
use Rattle.script_in_order.proofs.scans.shown_keys.Given as goal

-- the nodes so far
abbrev pub invariant-loop-key : goal.invariant-loop-key
invariant-loop-key l = l.items.items ≡ map (shown_key (world_of l.world)) (take l.key-index l.keys)
