use Rattle.std.proofs.Common.{◌≡◌, take}
use Rattle.object_law.specs.KeysRead.{whole_order}
use Rattle.walk_law.specs.Walking.{log_walked}
use Rattle.object_law.proofs.keys_read.whole_order.Given as goal

-- those of the colours so far
abbrev pub invariant-loop-colour : goal.invariant-loop-colour
invariant-loop-colour l =
    l.keys.items ≡ whole_order (log_walked l.subject) l.region (take l.colour-index l.colours)
