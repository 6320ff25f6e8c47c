use Rattle.std.proofs.Common.{◌≡◌, ℕ, List, [], length}
use Rattle.walk_law.specs.PlaceTables.{places_at}
use Rattle.walk_law.proofs.place_lists.PlaceLists.new.Given as goal

-- so many lists, all without a place
abbrev pub invariant-loop : goal.invariant-loop
invariant-loop l = (length l.lists.items ≡ l.counter) × ((number : ℕ) → places_at l.lists.items number ≡ [])
