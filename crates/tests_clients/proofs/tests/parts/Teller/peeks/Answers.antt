use Rattle.tests_clients.proofs.Small.{shard_is}
use Rattle.tests_clients.proofs.tests.parts.Teller.peeks.Goals as goal

pub peek-requires-clause-key : goal.peek-requires-clause-key
peek-requires-clause-key g c κs within =
    shard_is c.args.self.now.part c.args.key c.in_ok-key.key c.requires.part c.in_ok-key.ensures
