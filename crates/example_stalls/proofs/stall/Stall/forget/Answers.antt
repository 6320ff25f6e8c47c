use Rattle.example_stalls.proofs.Staying.{stall_stays}
use Rattle.example_stalls.proofs.stall.Stall.forget.Goals as goal

pub returns-in_err-_place : goal.returns-in_err-_place
returns-in_err-_place g c = record {
  stall = stall_stays c.args.store.now c.args.self.now c.trim.new.self c.requires.stall c.trim.ensures.client
      c.trim.ensures.grows;
}

pub returns : goal.returns
returns g c = record {
  stall = stall_stays c.args.store.now c.args.self.now c.trim.new.self c.requires.stall c.trim.ensures.client
      c.trim.ensures.grows;
}
