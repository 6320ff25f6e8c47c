use Rattle.example_stalls.proofs.Staying.{stall_stays}
use Rattle.example_stalls.proofs.stall.Stall.fetch.Goals as goal

pub returns-in_err-pulled-clause-stall : goal.returns-in_err-pulled-clause-stall
returns-in_err-pulled-clause-stall g c =
    stall_stays c.args.store.now c.args.self.now c.pull.new.self c.requires.stall c.pull.ensures.client c.pull.ensures.grows

pub returns-clause-stall : goal.returns-clause-stall
returns-clause-stall g c =
    stall_stays c.args.store.now c.args.self.now c.pull.new.self c.requires.stall c.pull.ensures.client c.pull.ensures.grows
