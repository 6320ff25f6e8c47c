use Rattle.std.proofs.Common.{take}
use Rattle.std.specs.List.{flat_map, enumerate_from}
use Rattle.run_picture.specs.Arrows.{maker_arrow}
use Rattle.report_text.specs.Output.{Adds}
use Rattle.run_picture.proofs.arrows.put_maker_arrows.Given as goal

-- the arrows to the clients before this one are put out
abbrev pub invariant-loop-client : goal.invariant-loop-client
invariant-loop-client g l =
    Adds (g.O.Output.state l.fn.out) (g.O.Output.state l.out)
    (flat_map (maker_arrow l.script l.report l.commands l.from l.maker) (enumerate_from 0 (take l.client l.clients)))
