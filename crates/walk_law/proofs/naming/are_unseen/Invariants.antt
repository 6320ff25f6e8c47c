use Rattle.std.proofs.Common.{take, ◌≤◌}
use Rattle.std.specs.List.{All}
use Rattle.walk_law.proofs.naming.are_unseen.Given as goal

-- all so far
abbrev pub invariant-loop-place : goal.invariant-loop-place
invariant-loop-place l = All (λ p. l.seen ≤ p) (take l.place-index l.places)
