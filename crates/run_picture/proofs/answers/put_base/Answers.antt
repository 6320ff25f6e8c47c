use Rattle.report_text.proofs.CallerLemmas.{adds_then}
use Rattle.run_picture.specs.Answers.{region_label}
use Rattle.run_picture.proofs.Enumerated.{places_more}
use Rattle.run_picture.proofs.answers.put_base.Goals as goal

pub loop-region-preserved : goal.loop-region-preserved
loop-region-preserved g c =
    rw (places_more (region_label c.args.base.now) c.args.regions.now c.loop-region.region c.index-regions-region.result c.loop-region-test.true c.index-regions-region.is)
    (adds_then _ _ _ _ _ c.loop-region.invariant c.put_count.ensures)
