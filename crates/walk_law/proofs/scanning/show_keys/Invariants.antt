use Rattle.std.proofs.Common.{◌≡◌, map, take}
use Rattle.walk_law.specs.Ninth.{key_shown}
use Rattle.walk_law.proofs.scanning.show_keys.Given as goal

-- the keys so far are shown
abbrev pub invariant-loop-at : goal.invariant-loop-at
invariant-loop-at l = take l.at l.keys ≡ map key_shown (take l.at l.nodes)
