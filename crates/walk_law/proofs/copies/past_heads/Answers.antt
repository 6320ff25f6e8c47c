use Rattle.std.proofs.Common.{arith}
use Rattle.walk_law.specs.Proposals.{line_heads}
use Rattle.walk_law.proofs.CopiesLemmas.{past_end, past_step}
use Rattle.walk_law.proofs.copies.past_heads.Goals as goal

pub loop-head-preserved : goal.loop-head-preserved
loop-head-preserved c =
    let place = c.loop-head.invariant.0 in (
      omega (arith, place),
      past_step (line_heads c.args.track.now.region c.args.journal.now) c.args.from c.args.heads.now c.loop-head.head-index _ c.loop-head.at
          c.is_head_at.result c.loop-head-test.true c.loop-head.invariant.0 c.loop-head.invariant.1 c.is_head_at.ensures.head
          c.if-not-is_head_at.false,
    )

pub returns : goal.returns
returns c =
    past_end (line_heads c.args.track.now.region c.args.journal.now) c.args.from c.args.heads.now c.loop-head.head-index c.loop-head.at
    c.loop-head-test.false c.loop-head.auto.head-index-end c.loop-head.invariant.0 c.loop-head.invariant.1
