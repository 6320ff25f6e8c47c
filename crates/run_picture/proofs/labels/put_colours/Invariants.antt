use Rattle.log_node.specs.Sets.{members}
use Rattle.run_picture.specs.Labels.{name_among, field_label}
use Rattle.run_picture.proofs.Enumerated.{Begun}
use Rattle.run_picture.proofs.labels.put_colours.Given as goal

-- the first names are put out
abbrev pub invariant-loop-colour : goal.invariant-loop-colour
invariant-loop-colour g l =
    Begun (λ colour. field_label (name_among l.script.colours colour)) (members l.fn.colours)
    (g.O.Output.state l.fn.out) (g.O.Output.state l.out) l.colour-iterator
