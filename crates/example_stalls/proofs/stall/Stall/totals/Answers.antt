use Rattle.example_stalls.proofs.Staying.{stall_stays}
use Rattle.example_stalls.proofs.stall.Stall.totals.Goals as goal

pub returns-in_err-synced-clause-stall : goal.returns-in_err-synced-clause-stall
returns-in_err-synced-clause-stall g c =
    stall_stays c.args.store.now c.args.self.now c.sync.new.self c.requires.stall c.sync.ensures.client c.sync.ensures.grows
