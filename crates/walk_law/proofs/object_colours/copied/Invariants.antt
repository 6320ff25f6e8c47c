use Rattle.std.proofs.Common.{◌≡◌, take}
use Rattle.walk_law.proofs.object_colours.copied.Given as goal

-- the colours so far
abbrev pub invariant-loop-colour : goal.invariant-loop-colour
invariant-loop-colour l = l.colours ≡ take l.colour-index l.own
