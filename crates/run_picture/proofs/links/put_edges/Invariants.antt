use Rattle.std.proofs.Common.{take}
use Rattle.std.specs.List.{flat_map}
use Rattle.run_picture.specs.Links.{edge_link}
use Rattle.report_text.specs.Output.{Adds}
use Rattle.run_picture.proofs.links.put_edges.Given as goal

-- the edges to the regions before this one are put out
abbrev pub invariant-loop-region : goal.invariant-loop-region
invariant-loop-region g l =
    Adds (g.O.Output.state l.fn.out) (g.O.Output.state l.out)
    (flat_map (edge_link l.boxes l.node) (take l.region-index l.regions))
