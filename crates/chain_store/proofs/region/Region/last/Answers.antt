use Rattle.std.proofs.Common.{refl}
use Rattle.chain_store.proofs.Beginning.{hold_learnt}
use Rattle.chain_store.proofs.region.Region.last.Goals as goal

pub returns-clause-hold : goal.returns-clause-hold
returns-clause-hold c =
    hold_learnt c.args.self.now c.args.hold.now
    (record {
      passes = c.args.hold.now.passes;
      seat = c.last.new.seat;
      next = c.args.hold.now.next;
      desks =
          c.args.hold.now.desks;
    }) c.requires.hold
    refl refl refl c.last.ensures.seat

pub returns-clause-one_node : goal.returns-clause-one_node
returns-clause-one_node c = λ other. c.last.ensures.value.1.one_node other
