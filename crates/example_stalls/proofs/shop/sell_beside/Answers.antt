use Rattle.std.proofs.Common.{rules, ◌<◌, length, subst}
use Rattle.example_stalls.specs.Stalls.{IsStall}
use Rattle.example_stalls.proofs.shop.sell_beside.Goals as goal

pub returns-clause-stalls : goal.returns-clause-stalls
returns-clause-stalls g c = λ k d lt.
    let was : k < length c.args.stalls.now = search rules in
    let changed = c.for_each_mut.ensures k d was in
    subst (IsStall c.args.store.now) changed.1.left changed.1.call
