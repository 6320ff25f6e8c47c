use Rattle.std.specs.List.{flat_map, range_with_len}
use Rattle.report_text.specs.Output.{Adds}
use Rattle.run_picture.specs.Svg.{slot_text}
use Rattle.run_picture.proofs.svg.put_axis.Given as goal

-- the stamps before this one are put out
abbrev pub invariant-loop-slot : goal.invariant-loop-slot
invariant-loop-slot g l =
    Adds (g.O.Output.state l.fn.out) (g.O.Output.state l.out)
    (flat_map (slot_text l.first) (range_with_len 0 l.slot))
