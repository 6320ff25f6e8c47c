use Rattle.std.proofs.Common.{◌≡◌, ◌++◌}
use Rattle.object_law.specs.AccountTables.{as_shown}
use Rattle.object_law.proofs.account_tables.list_showing.Given as goal

-- the nodes so far stand before those that are left
abbrev pub invariant-loop-node : goal.invariant-loop-node
invariant-loop-node l =
    l.shown ++ as_shown l.texts l.node-iterator.rest.items ≡ as_shown l.texts l.initial.node-iterator.rest.items
