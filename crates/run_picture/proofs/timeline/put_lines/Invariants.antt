use Rattle.std.proofs.Common.{take}
use Rattle.std.specs.List.{flat_map, enumerate_from}
use Rattle.run_picture.specs.Timeline.{line_text}
use Rattle.report_text.specs.Output.{Adds}
use Rattle.run_picture.proofs.timeline.put_lines.Given as goal

-- the numbers before this place are put out
abbrev pub invariant-loop-place : goal.invariant-loop-place
invariant-loop-place g l =
    Adds (g.O.Output.state l.fn.out) (g.O.Output.state l.out)
    (flat_map line_text (enumerate_from 0 (take l.place l.commands)))
