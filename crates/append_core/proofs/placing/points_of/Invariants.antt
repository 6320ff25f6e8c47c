use Rattle.append_core.specs.Inside.{AreFirstOf}
use Rattle.append_core.proofs.placing.points_of.Given as goal

-- the first colours have their points
abbrev pub invariant-loop-colour : goal.invariant-loop-colour
invariant-loop-colour l = record { first : AreFirstOf l.points.items l.colour-iterator l.fn.colours }
