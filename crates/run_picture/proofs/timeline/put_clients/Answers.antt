use Rattle.report_text.proofs.CallerLemmas.{adds_then}
use Rattle.run_picture.specs.Timeline.{client_text}
use Rattle.run_picture.proofs.Enumerated.{places_more}
use Rattle.run_picture.proofs.timeline.put_clients.Goals as goal

pub loop-lane-preserved : goal.loop-lane-preserved
loop-lane-preserved g c =
    rw (places_more (client_text c.args.script.now) c.args.clients.now c.loop-lane.lane c.index-clients-lane.result c.loop-lane-test.true c.index-clients-lane.is)
    (adds_then _ _ _ _ _ c.loop-lane.invariant c.put_client.ensures)
