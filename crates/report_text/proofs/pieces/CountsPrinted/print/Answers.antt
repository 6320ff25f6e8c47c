use Rattle.std.proofs.Common.{◌<◌, arith}
use Rattle.std.specs.Prelude.{decimal}
use Rattle.log_node.specs.Vectors.{at}
use Rattle.report_text.proofs.Outputs.{adds_then}
use Rattle.report_text.proofs.Joins.{join_more}
use Rattle.report_text.proofs.pieces.CountsPrinted.print.Goals as goal

pub loop-region-preserved : goal.loop-region-preserved
loop-region-preserved g c =
    let counts = c.args.self.now in
    let number = rw c.count_of-in-loop-region.ensures at c.put_number-in-loop-region.ensures in
    let some : 0 < c.loop-region.region = omega arith in
    rw (join_more 44 (λ region. decimal (at counts region)) c.loop-region.region some)
    (adds_then _ _ _ _ _ c.loop-region.invariant (adds_then _ _ _ _ _ c.put.ensures number))
