use Rattle.std.proofs.Common.{◌≡◌, length}
use Rattle.script_beside.specs.Lists.{AreBehind}
use Rattle.script_beside.proofs.lists.put_behind.Given as goal

-- the lists so far are behind the shares of their numbers
abbrev pub invariant-loop-list : goal.invariant-loop-list
invariant-loop-list l = record {
  place : l.number ≡ length l.yielded;
  behind : AreBehind l.yielded l.initial.shares.items l.shares.items;
}
