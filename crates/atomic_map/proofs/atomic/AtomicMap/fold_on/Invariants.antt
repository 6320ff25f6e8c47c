use Rattle.std.proofs.Common.{List, ℕ}
use Rattle.log_node.specs.Sets.{members}
use Rattle.atomic_map.proofs.MapLines.{FoldsLines}
use Rattle.atomic_map.proofs.atomic.AtomicMap.fold_on.Given as goal

-- the first lines are folded
abbrev pub invariant-loop-colour : goal.invariant-loop-colour
invariant-loop-colour l =
    (first : List ℕ) × FoldsLines l.client l.fn.self l.self l.stamp first l.colour-iterator (members l.fn.set)
