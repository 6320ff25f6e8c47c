use Rattle.region_pull.specs.Inside.{HasWatched}
use Rattle.region_pull.proofs.bringing.bring.Given as goal

abbrev pub invariant-loop : goal.invariant-loop
invariant-loop g l = HasWatched l.from l.colour l.initial.from_hold l.from_hold
    × HasWatched l.to l.colour l.initial.to_hold l.to_hold
