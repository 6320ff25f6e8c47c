use Rattle.std.proofs.Common.{take}
use Rattle.std.specs.List.{flat_map}
use Rattle.report_text.specs.Output.{Adds}
use Rattle.report_beside.proofs.made.put_each.Given as goal

-- the items before this place are put out
abbrev pub invariant-loop-place : goal.invariant-loop-place
invariant-loop-place g l = Adds (g.O.Output.state l.fn.out) (g.O.Output.state l.out) (flat_map (g.T.Printed.text l.names) (take l.place l.items))
