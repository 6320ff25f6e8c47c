use Rattle.std.proofs.Common.{arith}
use Rattle.std.proofs.lemmas.Fmt.{length-decimal-le}
use Rattle.report_text.proofs.Decimals.{length_four_more}
use Rattle.report_text.proofs.digits.digit_count.Goals as goal

pub overflow_add-count : goal.overflow_add-count
overflow_add-count c =
    let whole = c.ranges.number.fits in
    omega (arith, c.loop-left.invariant, length_four_more c.loop-left.left (omega arith) (omega arith), length-decimal-le 20 c.args.number (omega arith) (omega (arith, whole)) (omega (arith, whole)))

pub loop-left-preserved : goal.loop-left-preserved
loop-left-preserved c = omega (arith, c.loop-left.invariant, length_four_more c.loop-left.left (omega arith) (omega arith))

pub overflow_add-result : goal.overflow_add-result
overflow_add-result c =
    let whole = c.ranges.number.fits in
    omega (arith, c.loop-left.invariant, c.short_count.ensures, length-decimal-le 20 c.args.number (omega arith) (omega (arith, whole)) (omega (arith, whole)))
