use Rattle.std.proofs.Common.{◌∙◌, ap}
use Rattle.std.specs.Prelude.{◌||◌}
use Rattle.col_core.specs.declared.Entry.{Entry}
use Rattle.walk_law.specs.LeftOpen.{has_id, helps}
use Rattle.walk_law.proofs.LeftLemmas.{put_end, put_item}
use Rattle.walk_law.proofs.left_open.put_helped.Goals as goal

pub loop-entry-preserved : goal.loop-entry-preserved
loop-entry-preserved c = λ id.
    put_item c.args.journal.now c.loop-entry.entry-index c.entry-item.result c.loop-entry-test.true c.entry-item.is
    (λ (e : Entry). helps id e.by e.event) _ _ _ _ (c.loop-entry.invariant id) (c.helped_by.ensures id) (c.in_ok-put.ensures id)

pub returns : goal.returns
returns c = λ id.
    c.loop-entry.invariant id
    ∙ ap (λ b. has_id c.args.ids.now id || b)
    (put_end c.args.journal.now c.loop-entry.entry-index (λ (e : Entry). helps id e.by e.event) c.loop-entry-test.false)
