use Rattle.std.proofs.Common.{◌<◌}
use Rattle.walk_law.proofs.Lists.{all_end, all_step, all_stop}
use Rattle.walk_law.proofs.fifth.are_below.Goals as goal

pub returns-then-not-is_below : goal.returns-then-not-is_below
returns-then-not-is_below c =
    all_stop (λ n. n < c.args.end) c.args.numbers.now c.loop-number.number-index _ c.is_below.result c.loop-number-test.true
    c.is_below.ensures c.if-not-is_below.true

pub loop-number-preserved : goal.loop-number-preserved
loop-number-preserved c =
    all_step (λ n. n < c.args.end) c.args.numbers.now c.loop-number.number-index _ c.is_below.result c.loop-number-test.true
    c.loop-number.invariant c.is_below.ensures c.if-not-is_below.false

pub returns : goal.returns
returns c =
    all_end (λ n. n < c.args.end) c.args.numbers.now c.loop-number.number-index c.loop-number-test.false c.loop-number.invariant
