use Rattle.chain_store.proofs.Notes.{split_holder}
use Rattle.chain_store.proofs.CopyLooks.{begun_now, sees_now}
use Rattle.chain_store.proofs.turns.begin_now.Goals as goal

pub returns-clause-turn : goal.returns-clause-turn
returns-clause-turn c =
    let t = c.try_take.ensures in
    begun_now c.args.cell.now c.args.by c.args.pass.now c.try_take.new.pass c.requires t.seen c.try_take.result _ t.turn t.made

pub returns-clause-more : goal.returns-clause-more
returns-clause-more c =
    let t = c.try_take.ensures in
    sees_now c.args.cell.now c.args.by c.args.pass.now c.try_take.new.pass c.requires t.seen c.try_take.result t.made t.none

pub returns-clause-none : goal.returns-clause-none
returns-clause-none c = λ e.
    split_holder c.args.cell.now c.args.by c.args.pass.now c.try_take.new.pass c.requires (c.try_take.ensures.none e)
