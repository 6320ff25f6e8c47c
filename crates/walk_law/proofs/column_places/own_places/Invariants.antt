use Rattle.std.proofs.Common.{take}
use Rattle.walk_law.proofs.PlaceLemmas.{MadeSo}
use Rattle.walk_law.proofs.column_places.own_places.Given as goal

-- the own events so far
abbrev pub invariant-loop-at : goal.invariant-loop-at
invariant-loop-at l = MadeSo l.clients (take l.at l.journal) l.own
