use Rattle.std.proofs.Common.{◌≡◌, ℕ, length}
use Rattle.std.specs.Prelude.{slice_index_or}
use Rattle.run_rules.specs.Nodes.{any_decision}
use Rattle.object_law.proofs.decisions_noted.unknown_of.Given as goal

-- so many are there, of which nothing is known
abbrev pub invariant-loop : goal.invariant-loop
invariant-loop l =
    (length l.decided.items ≡ l.counter) × ((k : ℕ) → slice_index_or l.decided.items k any_decision ≡ any_decision)
