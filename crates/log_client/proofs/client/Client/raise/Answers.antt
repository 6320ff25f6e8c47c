use Rattle.log_client.proofs.Read.Raising.{explained_by_raise, nothing_by_keeping}
use Rattle.log_client.proofs.client.Client.raise.Goals as goal

pub returns-in-Ok-clause-ok : goal.returns-in-Ok-clause-ok
returns-in-Ok-clause-ok g c =
    explained_by_raise c.args.store.now c.args.self.now c.raise_to.new.self c.args.stamp c.args.colour c.in-Ok.at
    c.raise_to.ensures.rests c.in-Ok.ensures.ok

pub returns-in-Ok-clause-reached : goal.returns-in-Ok-clause-reached
returns-in-Ok-clause-reached g c = c.in-Ok.ensures.ok.reached

pub returns-in-Err-clause-err : goal.returns-in-Err-clause-err
returns-in-Err-clause-err g c =
    nothing_by_keeping c.args.store.now c.args.self.now c.raise_to.new.self c.in-Err.ensures.err
