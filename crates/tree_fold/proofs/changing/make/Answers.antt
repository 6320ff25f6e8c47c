use Rattle.tree_fold.proofs.DoneLemmas.{make_does}
use Rattle.tree_fold.proofs.changing.make.Goals as goal

pub returns-clause-ok : goal.returns-clause-ok
returns-clause-ok c =
    make_does c.args.entries.now c.put_entry.new.entries c.args.path c.args.value c.requires.kept c.requires.path c.requires.done c.put_entry.ensures.placed c.put_entry.ensures.ordered
    c.in_ok-put_entry.ensures.ok
