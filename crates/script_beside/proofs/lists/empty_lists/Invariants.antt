use Rattle.script_beside.specs.Lists.{AreEmptyLists}
use Rattle.script_beside.proofs.lists.empty_lists.Given as goal

-- so many lists so far, all empty
abbrev pub invariant-loop : goal.invariant-loop
invariant-loop g l = AreEmptyLists l.counter l.lists.items
