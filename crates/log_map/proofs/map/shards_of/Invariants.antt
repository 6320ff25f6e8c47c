use Rattle.log_map.specs.Maps.{AreFresh}
use Rattle.log_map.proofs.map.shards_of.Given as goal

-- the shards so far
abbrev pub invariant-loop-colour : goal.invariant-loop-colour
invariant-loop-colour l = AreFresh l.fn.colours l.colour-index l.shards.items
