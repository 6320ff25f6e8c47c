use Rattle.report_text.proofs.CallerLemmas.{adds_then}
use Rattle.run_picture.specs.Timeline.{point_text}
use Rattle.run_picture.proofs.Enumerated.{places_more}
use Rattle.run_picture.proofs.timeline.put_points.Goals as goal

pub loop-place-preserved : goal.loop-place-preserved
loop-place-preserved g c =
    rw (places_more (point_text c.args.script.now c.args.report.now) c.args.commands.now c.loop-place.place c.index-commands-place.result c.loop-place-test.true c.index-commands-place.is)
    (adds_then _ _ _ _ _ c.loop-place.invariant c.put_point.ensures)
