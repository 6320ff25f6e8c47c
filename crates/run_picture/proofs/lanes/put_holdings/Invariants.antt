use Rattle.std.proofs.Common.{take}
use Rattle.std.specs.List.{flat_map}
use Rattle.run_picture.specs.Lanes.{origin_text}
use Rattle.report_text.specs.Output.{Adds}
use Rattle.run_picture.proofs.lanes.put_holdings.Given as goal

-- what is held of the columns before this one is put out
abbrev pub invariant-loop-origin : goal.invariant-loop-origin
invariant-loop-origin g l =
    Adds (g.O.Output.state l.fn.out) (g.O.Output.state l.out)
    (flat_map (origin_text l.script l.column) (take l.origin-index l.origins))
