use Rattle.std.proofs.Common.{◌≡◌, []}
use Rattle.std.specs.List.{All}
use Rattle.fork_join.proofs.indices.empty_lists.Given as goal

-- those so far are empty
abbrev pub invariant-loop : goal.invariant-loop
invariant-loop g l = All (λ list. list.items ≡ []) l.lists.items
