use Rattle.tree_fold.proofs.DoneLemmas.{undone}
use Rattle.tree_fold.proofs.moving.put_branch.Goals as goal

pub returns-then-is_err-clause-err : goal.returns-then-is_err-clause-err
returns-then-is_err-clause-err c =
    undone c.args.entries.now c.put_in.new.entries c.take_out.new.entries c.in_ok-places.places.items c.requires.ordered c.take_out.ensures.ordered
    (rw (c.in_ok-places.ensures, c.deref.ensures.value) c.requires.free)
    (rw (c.in_ok-places.ensures, c.deref.ensures.value) c.put_in.ensures.others)
    (rw c.deref-then-is_err.ensures.value at c.take_out.ensures.out)
