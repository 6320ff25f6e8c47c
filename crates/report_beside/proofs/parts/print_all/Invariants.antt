use Rattle.std.proofs.Common.{take}
use Rattle.std.specs.List.{flat_map}
use Rattle.report_text.specs.Output.{Adds}
use Rattle.report_beside.proofs.parts.print_all.Given as goal

-- the items before this place are put out
abbrev pub invariant-loop-item : goal.invariant-loop-item
invariant-loop-item g l = Adds (g.O.Output.state l.fn.out) (g.O.Output.state l.out) (flat_map (g.T.Printed.text l.names) (take l.item-index l.items))
