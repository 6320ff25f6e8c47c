use Rattle.chain_store.proofs.Keeping.{moved_each}
use Rattle.chain_store.proofs.read_view.shown.move_each.Goals as goal

pub returns : goal.returns
returns c =
    let more = c.each_of-first.result in
    moved_each c.args.chains.now c.args.more more.0 more.1 more.2 more.3
    c.index-chains-0.result c.move_on.new.self c.index-chains-1.result c.move_on-2.new.self
    c.index-chains-2.result c.move_on-3.new.self c.index-chains-3.result c.move_on-4.new.self
    c.between.result c.between-2.result c.between-3.result c.between-4.result _ _ _ _
    c.told-chains c.each_of-first.ensures c.between.ensures c.move_on.ensures c.between-2.ensures c.move_on-2.ensures
    c.between-3.ensures c.move_on-3.ensures c.between-4.ensures c.move_on-4.ensures
