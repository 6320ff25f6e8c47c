use Rattle.std.proofs.Common.{◌≡◌, ◌++◌, List, ℕ}
use Rattle.std.specs.Option.{option_copied}
use Rattle.log_node.specs.Sets.{members}
use Rattle.atomic_map.specs.Several.{latest_in}
use Rattle.atomic_map.proofs.atomic.AtomicMap.latest.Given as goal

-- the latest in the first lines
abbrev pub invariant-loop-colour : goal.invariant-loop-colour
invariant-loop-colour l =
    (first : List ℕ) × (first ++ l.colour-iterator ≡ members l.fn.set)
    × (option_copied l.latest ≡ latest_in l.self.lines.items first l.key)
