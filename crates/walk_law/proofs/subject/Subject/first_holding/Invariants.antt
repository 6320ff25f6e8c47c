use Rattle.std.proofs.Common.{◌-◌}
use Rattle.walk_law.proofs.MovingLemmas.{Between}
use Rattle.walk_law.proofs.subject.Subject.first_holding.Given as goal

-- the number lies between these
abbrev pub invariant-loop-low : goal.invariant-loop-low
invariant-loop-low l = Between l.self l.own l.colour l.of l.from l.to l.count l.low l.high

abbrev pub decreases-loop-low : goal.decreases-loop-low
decreases-loop-low l = l.high - l.low
