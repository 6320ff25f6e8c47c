use Rattle.walk_law.proofs.Members.{shards_told}
use Rattle.walk_law.proofs.can_have.in_shards.Goals as goal

pub returns : goal.returns
returns c = shards_told c.args.own.now c.args.keys.now c.args.colour c.requires c.any_shard.result c.any_shard.ensures
