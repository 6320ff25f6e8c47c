use Rattle.std.proofs.Common.{◌≡◌, ◌++◌}
use Rattle.walk_law.specs.Asking.{colours_in}
use Rattle.walk_law.proofs.object_colours.listed.Given as goal

-- the members so far stand before those that are left
abbrev pub invariant-loop-colour : goal.invariant-loop-colour
invariant-loop-colour l = l.colours ++ l.colour-iterator ≡ colours_in l.fn.set
