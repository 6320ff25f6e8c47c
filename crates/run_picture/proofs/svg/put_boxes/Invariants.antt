use Rattle.std.proofs.Common.{take}
use Rattle.std.specs.List.{flat_map}
use Rattle.run_picture.specs.Svg.{box_text}
use Rattle.report_text.specs.Output.{Adds}
use Rattle.run_picture.proofs.svg.put_boxes.Given as goal

-- the boxes before this one are put out
abbrev pub invariant-loop-node : goal.invariant-loop-node
invariant-loop-node g l =
    Adds (g.O.Output.state l.fn.out) (g.O.Output.state l.out)
    (flat_map (box_text l.script l.report) (take l.node-index l.boxes))
