use Rattle.std.proofs.Common.{take}
use Rattle.report_text.specs.Pieces.{spaced}
use Rattle.report_text.specs.Output.{Adds}
use Rattle.report_text.proofs.printed.print_spaced.Given as goal

-- the items before this one are printed
abbrev pub invariant-loop-item : goal.invariant-loop-item
invariant-loop-item g l = Adds (g.O.Output.state l.fn.out) (g.O.Output.state l.out) (spaced (g.T.Printed.text l.names) (take l.item-index l.items))
