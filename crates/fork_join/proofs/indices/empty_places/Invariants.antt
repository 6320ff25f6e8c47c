use Rattle.std.proofs.Common.{◌≡◌, length, None}
use Rattle.std.specs.List.{All}
use Rattle.fork_join.proofs.indices.empty_places.Given as goal

-- so many so far, all empty
abbrev pub invariant-loop : goal.invariant-loop
invariant-loop g l = (length l.places.items ≡ l.counter) × All (λ place. place ≡ None) l.places.items
