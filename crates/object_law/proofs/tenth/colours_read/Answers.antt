use Rattle.object_law.proofs.TenthSteps.{read_stop}
use Rattle.object_law.proofs.tenth.colours_read.Goals as goal

pub returns-then-sync-colours : goal.returns-then-sync-colours
returns-then-sync-colours c =
    read_stop c.args.colours c.args.syncs.now c.loop-sync.sync-index _ c.loop-sync-test.true c.if-sync-colours.true
