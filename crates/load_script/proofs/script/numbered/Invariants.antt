use Rattle.std.proofs.Common.{◌≡◌}
use Rattle.load_script.specs.Generated.{numbered}
use Rattle.load_script.proofs.script.numbered.Given as goal

-- the names so far
abbrev pub invariant-loop-n : goal.invariant-loop-n
invariant-loop-n l = record { pushed : l.names ≡ numbered l.letter l.n }
