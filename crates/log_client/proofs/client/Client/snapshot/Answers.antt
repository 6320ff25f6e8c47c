use Rattle.log_client.proofs.Sync.SyncCalls.{snapshot_there}
use Rattle.log_client.proofs.client.Client.snapshot.Goals as goal

pub returns-clause-column : goal.returns-clause-column
returns-clause-column c s is = snapshot_there s c.args.self.now c.args.colour c.index.result.now is c.requires c.index.ensures
