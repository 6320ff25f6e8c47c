use Rattle.std.proofs.Common.{◌≡◌}
use Rattle.load_script.specs.Generated.{rounds_of}
use Rattle.load_script.proofs.script.commands.Given as goal

-- the rounds so far
abbrev pub invariant-loop-round : goal.invariant-loop-round
invariant-loop-round l = record { pushed : l.commands ≡ rounds_of l.count l.round }
