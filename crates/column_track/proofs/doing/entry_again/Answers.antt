use Rattle.col_core.specs.declared.Event.TheVariants.{Single, Propose}
use Rattle.col_core.proofs.CallerLemmas.{same_id-refl}
use Rattle.column_track.proofs.NextLemmas.{fresh_as, proposed_under}
use Rattle.column_track.proofs.doing.entry_again.Goals as goal

pub single_again-requires-clause-fresh : goal.single_again-requires-clause-fresh
single_again-requires-clause-fresh c =
    let new = c.in-Single in
    fresh_as c.args.journal.now c.args.column.now.journal c.args.entry.now c.args.places.now c.requires.places c.requires.next
    new.id (Single new.id new.floor new.wants) new.is (same_id-refl new.id)

pub propose_again-requires-clause-fresh : goal.propose_again-requires-clause-fresh
propose_again-requires-clause-fresh c =
    let new = c.in-Propose in
    fresh_as c.args.journal.now c.args.column.now.journal c.args.entry.now c.args.places.now c.requires.places c.requires.next
    new.id (Propose new.id new.floor new.wants) new.is (same_id-refl new.id)

pub settle_again-requires : goal.settle_again-requires
settle_again-requires c =
    let column = c.args.column.now in
    proposed_under column.region column.regions c.args.journal.now column.journal c.args.entry.now c.args.places.now
    c.requires.places c.requires.next c.agrees.ensures.lawful c.in-Settle.id c.stamp_of-proposed.result c.stamp_of-proposed.ensures
