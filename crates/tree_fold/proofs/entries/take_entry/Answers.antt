use Rattle.tree_fold.proofs.EntryLemmas.{placed_out}
use Rattle.tree_fold.proofs.entries.take_entry.Goals as goal

pub returns-clause-placed : goal.returns-clause-placed
returns-clause-placed c = rw c.remove.ensures.entries (placed_out c.args.entries.now.entries _ c.requires.placed)
