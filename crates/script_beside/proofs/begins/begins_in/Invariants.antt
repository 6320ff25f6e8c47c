use Rattle.std.proofs.Common.{◌≡◌, ◌≤◌, take}
use Rattle.script_beside.specs.Begins.{begins_in}
use Rattle.script_beside.proofs.begins.begins_in.Given as goal

-- those of the commands so far that may begin a row
abbrev pub invariant-loop-command : goal.invariant-loop-command
invariant-loop-command l = record {
  counted : l.count ≡ begins_in (take l.command-index l.commands);
  few : l.count ≤ l.command-index;
}
