use Rattle.std.proofs.Common.{◌≡◌, ◌++◌, map}
use Rattle.object_law.specs.AccountTables.{as_shown}
use Rattle.object_law.proofs.account_tables.show.Given as goal

-- the lists so far stand before those that are left
abbrev pub invariant-loop-list : goal.invariant-loop-list
invariant-loop-list l =
    l.table ++ map (as_shown l.texts) l.list-iterator.rest.items ≡ map (as_shown l.texts) l.initial.list-iterator.rest.items
