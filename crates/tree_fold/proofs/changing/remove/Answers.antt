use Rattle.tree_fold.proofs.DoneLemmas.{remove_does}
use Rattle.tree_fold.proofs.changing.remove.Goals as goal

pub returns : goal.returns
returns c =
    remove_does c.args.entries.now c.take_entry.new.entries c.args.path.now c.requires.kept c.requires.path c.requires.done c.take_entry.ensures.placed c.take_entry.ensures.ordered
    (rw c.place_of.ensures at c.take_entry.ensures.out)
