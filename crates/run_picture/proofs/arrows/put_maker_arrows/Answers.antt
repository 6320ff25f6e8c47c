use Rattle.report_text.proofs.CallerLemmas.{adds_then}
use Rattle.run_picture.specs.Arrows.{maker_arrow}
use Rattle.run_picture.proofs.Enumerated.{places_more}
use Rattle.run_picture.proofs.arrows.put_maker_arrows.Goals as goal

pub loop-client-preserved : goal.loop-client-preserved
loop-client-preserved g c =
    rw (places_more (maker_arrow c.args.script.now c.args.report.now c.args.commands.now c.args.from c.args.maker.now) c.args.clients.now c.loop-client.client c.index-clients-client.result c.loop-client-test.true c.index-clients-client.is)
    (adds_then _ _ _ _ _ c.loop-client.invariant c.put_reader.ensures)
