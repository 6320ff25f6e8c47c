use Rattle.std.proofs.Common.{◌≡◌, ◌++◌, map}
use Rattle.walk_law.specs.Finds.{wants_in}
use Rattle.walk_law.specs.Keepings.{start_at}
use Rattle.object_law.proofs.node_said.wants_in.Given as goal

-- what is wanted of the members so far stands before what is wanted of those that are left
abbrev pub invariant-loop-colour : goal.invariant-loop-colour
invariant-loop-colour l = l.wants ++ map (start_at l.keeping) l.colour-iterator ≡ wants_in l.fn.keeping l.fn.colours
