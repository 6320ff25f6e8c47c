use Rattle.std.proofs.Common.{◌∙◌, ap}
use Rattle.std.specs.Prelude.{◌||◌}
use Rattle.walk_law.specs.LeftOpen.{has_id, is_open_key}
use Rattle.walk_law.proofs.LeftLemmas.{put_end, put_next}
use Rattle.walk_law.proofs.left_open.put_open.Goals as goal

pub loop-shown-preserved : goal.loop-shown-preserved
loop-shown-preserved c = λ id.
    put_next c.args.queue.now c.loop-shown.shown-index _ c.loop-shown-test.true (is_open_key id) _ _ _ _ (c.loop-shown.invariant id)
    (c.open_id.ensures id) (c.in_ok-put.ensures id)

pub returns : goal.returns
returns c = λ id.
    c.loop-shown.invariant id
    ∙ ap (λ b. has_id c.args.ids.now id || b) (put_end c.args.queue.now c.loop-shown.shown-index (is_open_key id) c.loop-shown-test.false)
