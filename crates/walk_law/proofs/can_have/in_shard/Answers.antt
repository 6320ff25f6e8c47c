use Rattle.walk_law.proofs.Members.{shard_told}
use Rattle.walk_law.proofs.can_have.in_shard.Goals as goal

pub returns : goal.returns
returns c = shard_told c.args.own.now c.args.key.now c.args.colour c.shard_of.result c.requires c.shard_of.ensures
