use Rattle.std.proofs.Common.{map}
use Rattle.script_beside.specs.Joining.{later}
use Rattle.script_beside.specs.Lists.{HaveOwn}
use Rattle.script_beside.proofs.lists.give.Given as goal

-- the commands so far have been given
abbrev pub invariant-loop-command : goal.invariant-loop-command
invariant-loop-command l = HaveOwn (map (later l.before) l.yielded) l.initial.lists.items l.lists.items
