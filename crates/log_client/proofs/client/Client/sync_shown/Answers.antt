use Rattle.std.proofs.Common.{refl}
use Rattle.log_client.proofs.Sync.SyncCalls.{explained_by_plays, refused_by_plays}
use Rattle.log_client.proofs.client.Client.sync_shown.Goals as goal

pub returns-in-Ok-clause-ok : goal.returns-in-Ok-clause-ok
returns-in-Ok-clause-ok g c =
    explained_by_plays c.args.store.now c.args.self.now c.play_colour.new.self c.args.colour c.in-Ok.answer.0 c.in-Ok.ensures.ok

pub returns-in-Ok-clause-nodes : goal.returns-in-Ok-clause-nodes
returns-in-Ok-clause-nodes g c = c.in-Ok.ensures.nodes refl

pub returns-in-Err-clause-err : goal.returns-in-Err-clause-err
returns-in-Err-clause-err g c =
    refused_by_plays c.args.store.now c.args.self.now c.play_colour.new.self c.args.colour c.in-Err.fault c.in-Err.ensures.err
