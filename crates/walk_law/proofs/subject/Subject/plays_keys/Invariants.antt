use Rattle.walk_law.specs.Playing.{lines_of}
use Rattle.walk_law.proofs.PlayOrders.{PlaysOn}
use Rattle.walk_law.proofs.subject.Subject.plays_keys.Given as goal

-- what is left decides
abbrev pub invariant-loop-item : goal.invariant-loop-item
invariant-loop-item l = PlaysOn (lines_of l.self l.colour) l.fn.from l.to l.nodes l.played l.item-index
