use Rattle.std.proofs.Common.{◌≡◌, take}
use Rattle.log_node.specs.Sets.{set_of}
use Rattle.log_node.proofs.ids.Colours.of.Given as goal

-- the set is that of the colours so far
abbrev pub invariant-loop-colour : goal.invariant-loop-colour
invariant-loop-colour l = l.set ≡ set_of (take l.colour-index l.colours)
