use Rattle.std.proofs.Common.{◌∙◌}
use Rattle.tree_fold.specs.Places.{is_child}
use Rattle.tree_fold.proofs.PlaceLemmas.{child_between, first_at, last_at}
use Rattle.tree_fold.proofs.EntryLemmas.{between_is}
use Rattle.tree_fold.proofs.entries.children.Goals as goal

pub returns : goal.returns
returns c =
    let path = c.args.path.now in
    rw c.name_numbers-parent.ensures at (c.range.ensures.between tt)
    ∙ between_is c.args.entries.now.entries (first_at 0 path) (last_at 0 path) (is_child path) c.requires.placed (λ q root. child_between path q c.requires.path c.requires.room root)
