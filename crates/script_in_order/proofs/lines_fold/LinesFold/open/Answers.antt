use Rattle.script_in_order.proofs.LinesFolds.{opened}
use Rattle.script_in_order.proofs.lines_fold.LinesFold.open.Goals as goal

pub returns-clause-folded : goal.returns-clause-folded
returns-clause-folded g c = λ w.
    opened g.F.NodeFold.Holds w (record { kept = c.open.result; firsts = c.new.result; stamp = 0 }) c.new.ensures.items
    c.open.ensures.state
