use Rattle.std.proofs.Common.{◌≡◌, ◌++◌, map}
use Rattle.std.specs.List.{range_with_len}
use Rattle.load_script.specs.Generated.{command_of}
use Rattle.load_script.proofs.script.push_round.Given as goal

-- the commands of the clients so far stand behind those that were there
abbrev pub invariant-loop-client : goal.invariant-loop-client
invariant-loop-client l = record {
  pushed : l.commands ≡ l.initial.commands ++ map (command_of l.count l.round) (range_with_len 0 l.client);
}
