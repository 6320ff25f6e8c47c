use Rattle.std.proofs.Common.{◌∷◌, take}
use Rattle.std.specs.List.{flat_map}
use Rattle.report_text.specs.Output.{Adds}
use Rattle.report_text.proofs.printed.print_further.Given as goal

-- the items before this one are printed
abbrev pub invariant-loop-item : goal.invariant-loop-item
invariant-loop-item g l = Adds (g.O.Output.state l.fn.out) (g.O.Output.state l.out) (flat_map (λ x. 44 ∷ g.T.Printed.text l.names x) (take l.item-index l.items))
