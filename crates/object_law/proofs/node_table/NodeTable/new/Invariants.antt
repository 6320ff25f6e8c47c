use Rattle.std.proofs.Common.{◌≡◌, ℕ, List, [], length}
use Rattle.object_law.specs.NodeTables.{nodes_at}
use Rattle.object_law.proofs.node_table.NodeTable.new.Given as goal

-- so many lists, all without a node
abbrev pub invariant-loop : goal.invariant-loop
invariant-loop l = (length l.lists.items ≡ l.counter) × ((client : ℕ) → nodes_at l.lists.items client ≡ [])
