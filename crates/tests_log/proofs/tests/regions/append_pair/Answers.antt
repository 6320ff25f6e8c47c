use Rattle.std.proofs.Common.{None, ap, ◌∙◌}
use Rattle.tests_log.proofs.Knowing.{several_number}
use Rattle.stamp_board.specs.declared.view.Size.{Size}
use Rattle.tests_log.proofs.tests.regions.append_pair.Goals as goal

pub multi-requires-clause-colours : goal.multi-requires-clause-colours
multi-requires-clause-colours g c = λ κs met. c.in_ok-node.ensures.both c.args.region.now.board.size
    (ap (λ (z : Size). z.colours) c.requires.region.size)

pub returns-clause-number : goal.returns-clause-number
returns-clause-number g c =
    several_number c.args.region.now c.args.hold.now c.multi.new.hold c.in_ok-node.node.value None c.multi.result
    c.multi.ensures.ok c.multi.ensures.err ∙ c.requires.hold.0.number
