use Rattle.std.proofs.Common.{◌≡◌, ◌++◌, List, ℕ}
use Rattle.log_node.specs.Sets.{members}
use Rattle.log_client.specs.Items.{are_parts, AreMergedParts}
use Rattle.log_client.proofs.merging.items_read.Given as goal

-- the first lines are merged
abbrev pub invariant-loop-colour : goal.invariant-loop-colour
invariant-loop-colour l =
    (first : List ℕ) × (first ++ l.colour-iterator ≡ members l.fn.colours)
    × AreMergedParts (are_parts l.tracks l.last l.stamp first) l.items.items
