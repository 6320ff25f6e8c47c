use Rattle.std.proofs.Common.{take}
use Rattle.std.specs.List.{flat_map}
use Rattle.run_picture.specs.Links.{links_of}
use Rattle.report_text.specs.Output.{Adds}
use Rattle.run_picture.proofs.links.put_links.Given as goal

-- the links of the boxes before this one are put out
abbrev pub invariant-loop-node : goal.invariant-loop-node
invariant-loop-node g l =
    Adds (g.O.Output.state l.fn.out) (g.O.Output.state l.out)
    (flat_map (links_of l.boxes) (take l.node-index l.nodes))
