use Rattle.std.proofs.Common.{◌≡◌, take}
use Rattle.log_node.specs.Sets.{members}
use Rattle.atomic_map.specs.Several.{values_in}
use Rattle.atomic_map.proofs.atomic.AtomicMap.values.Given as goal

abbrev pub invariant-loop-key : goal.invariant-loop-key
invariant-loop-key l = l.values ≡ values_in l.self.lines.items (members l.set) (take l.key-index l.keys)
