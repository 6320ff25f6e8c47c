use Rattle.std.proofs.Common.{◌≡◌, ◌++◌, map}
use Rattle.log_node.specs.Sets.{members}
use Rattle.script_in_order.specs.Stamped.{no_look}
use Rattle.script_in_order.proofs.stamped.no_looks.Given as goal

-- the syncs so far, and the colours that are left
abbrev pub invariant-loop-colour : goal.invariant-loop-colour
invariant-loop-colour l = l.syncs.items ++ map no_look l.colour-iterator ≡ map no_look (members l.fn.colours)
