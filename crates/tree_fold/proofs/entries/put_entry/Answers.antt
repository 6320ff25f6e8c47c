use Rattle.std.proofs.Common.{ap, ◌∙◌}
use Rattle.tree_fold.specs.Places.{place_of}
use Rattle.tree_fold.proofs.EntryLemmas.{placed_put}
use Rattle.tree_fold.proofs.entries.put_entry.Goals as goal

pub returns-clause-placed : goal.returns-clause-placed
returns-clause-placed c =
    rw c.in_ok-insert.ensures.entries
    (placed_put c.args.entries.now.entries c.place_of.result c.args.entry c.requires.placed (c.requires.path, c.place_of.ensures ∙ ap place_of c.as_slice.ensures))

pub returns-clause-ok : goal.returns-clause-ok
returns-clause-ok c = rw (c.place_of.ensures, c.as_slice.ensures) at c.in_ok-insert.ensures.updates
