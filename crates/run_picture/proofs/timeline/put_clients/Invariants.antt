use Rattle.std.proofs.Common.{take}
use Rattle.std.specs.List.{flat_map, enumerate_from}
use Rattle.run_picture.specs.Timeline.{client_text}
use Rattle.report_text.specs.Output.{Adds}
use Rattle.run_picture.proofs.timeline.put_clients.Given as goal

-- the lanes before this one are put out
abbrev pub invariant-loop-lane : goal.invariant-loop-lane
invariant-loop-lane g l =
    Adds (g.O.Output.state l.fn.out) (g.O.Output.state l.out)
    (flat_map (client_text l.script) (enumerate_from 0 (take l.lane l.clients)))
