use Rattle.report_text.proofs.CallerLemmas.{adds_then}
use Rattle.run_picture.specs.Arrows.{maker_arrows}
use Rattle.run_picture.proofs.Enumerated.{places_more}
use Rattle.run_picture.proofs.arrows.put_arrows.Goals as goal

pub loop-from-preserved : goal.loop-from-preserved
loop-from-preserved g c =
    rw (places_more (maker_arrows c.args.script.now c.args.report.now c.args.commands.now) c.args.commands.now c.loop-from.from c.index-commands-from.result c.loop-from-test.true c.index-commands-from.is)
    (adds_then _ _ _ _ _ c.loop-from.invariant (rw c.as_slice.ensures at c.put_maker_arrows.ensures))
