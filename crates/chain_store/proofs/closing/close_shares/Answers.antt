use Rattle.chain_store.proofs.Gathering.{desks_less}
use Rattle.chain_store.proofs.closing.close_shares.Goals as goal

pub close-requires : goal.close-requires
close-requires g c =
    (desks_less c.loop-share.shares.items c.pop.new.self.items c.in-Some.share c.loop-share.desks.items
    c.pop-in-Some.new.self.items c.in-Some-pop.desk c.loop-share.invariant c.in-Some.ensures.items
    c.in-Some-pop.ensures.items).1

pub loop-share-preserved : goal.loop-share-preserved
loop-share-preserved g c =
    (desks_less c.loop-share.shares.items c.pop.new.self.items c.in-Some.share c.loop-share.desks.items
    c.pop-in-Some.new.self.items c.in-Some-pop.desk c.loop-share.invariant c.in-Some.ensures.items
    c.in-Some-pop.ensures.items).0
