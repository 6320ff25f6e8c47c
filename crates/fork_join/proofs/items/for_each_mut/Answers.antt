use Rattle.fork_join.proofs.Places.{changes_each}
use Rattle.fork_join.proofs.items.for_each_mut.Goals as goal

pub returns-then-size-items : goal.returns-then-size-items
returns-then-size-items g c = changes_each g.F.Fn c.args.f.now _ _ c.in_shares.ensures

pub returns-else-size-items : goal.returns-else-size-items
returns-else-size-items g c = changes_each g.F.Fn c.args.f.now _ _ c.in_turn.ensures
