use Rattle.std.proofs.Common.{arith}
use Rattle.script_in_order.proofs.LinesFolds.{others_folded}
use Rattle.script_in_order.proofs.lines_fold.LinesFold.leave_out.Goals as goal

pub returns-then-own-self-clause-folded : goal.returns-then-own-self-clause-folded
returns-then-own-self-clause-folded g c = λ w folded. c.clear.ensures.folded w

pub returns-else-own-self-clause-others : goal.returns-else-own-self-clause-others
returns-else-own-self-clause-others g c = λ w folded.
    others_folded g.F.NodeFold.Holds w c.args.self.now c.args.own folded (omega (arith, c.if-own-self.false))
