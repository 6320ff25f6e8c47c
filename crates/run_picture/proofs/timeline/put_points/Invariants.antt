use Rattle.std.proofs.Common.{take}
use Rattle.std.specs.List.{flat_map, enumerate_from}
use Rattle.run_picture.specs.Timeline.{point_text}
use Rattle.report_text.specs.Output.{Adds}
use Rattle.run_picture.proofs.timeline.put_points.Given as goal

-- the boxes before this place are put out
abbrev pub invariant-loop-place : goal.invariant-loop-place
invariant-loop-place g l =
    Adds (g.O.Output.state l.fn.out) (g.O.Output.state l.out)
    (flat_map (point_text l.script l.report) (enumerate_from 0 (take l.place l.commands)))
