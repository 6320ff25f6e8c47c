use Rattle.std.proofs.Common.{◌≡◌, map}
use Rattle.std.specs.List.{range_with_len}
use Rattle.load_script.specs.Generated.{home_by_turns}
use Rattle.load_script.proofs.script.homes.Given as goal

-- the homes so far
abbrev pub invariant-loop-client : goal.invariant-loop-client
invariant-loop-client l = record { pushed : l.homes ≡ map home_by_turns (range_with_len 0 l.client) }
