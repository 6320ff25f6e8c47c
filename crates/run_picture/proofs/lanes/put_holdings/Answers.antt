use Rattle.report_text.proofs.CallerLemmas.{adds_then}
use Rattle.run_picture.specs.Lanes.{origin_text}
use Rattle.run_picture.proofs.Enumerated.{items_more}
use Rattle.run_picture.proofs.lanes.put_holdings.Goals as goal

pub loop-origin-preserved : goal.loop-origin-preserved
loop-origin-preserved g c =
    rw (items_more (origin_text c.args.script.now c.args.column.now) c.args.origins.now c.loop-origin.origin-index c.origin-item.result c.loop-origin-test.true c.origin-item.is)
    (adds_then _ _ _ _ _ c.loop-origin.invariant c.put_origin.ensures)
