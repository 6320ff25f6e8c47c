use Rattle.std.proofs.Common.{take}
use Rattle.std.specs.List.{flat_map, enumerate_from}
use Rattle.run_picture.specs.Arrows.{maker_arrows}
use Rattle.report_text.specs.Output.{Adds}
use Rattle.run_picture.proofs.arrows.put_arrows.Given as goal

-- the arrows from the commands before this one are put out
abbrev pub invariant-loop-from : goal.invariant-loop-from
invariant-loop-from g l =
    Adds (g.O.Output.state l.fn.out) (g.O.Output.state l.out)
    (flat_map (maker_arrows l.script l.report l.commands) (enumerate_from 0 (take l.from l.commands)))
