use Rattle.chain_store.proofs.Holding.{desk_there, desks_set}
use Rattle.chain_store.proofs.region.Region.behind.Goals as goal

pub behind-requires-clause-desk : goal.behind-requires-clause-desk
behind-requires-clause-desk g c =
    desk_there c.args.self.now.shares.items c.args.desks.now.items c.args.colour c.share.result.now
    c.index_mut-desk.result.now c.requires.desks c.share.ensures.there c.index_mut-desk.ensures.value

pub returns : goal.returns
returns g c =
    desks_set c.args.self.now.shares.items c.args.desks.now.items c.args.colour c.share.result.now c.behind.new.desk
    c.share.ensures.there c.behind.ensures.desk c.requires.desks
