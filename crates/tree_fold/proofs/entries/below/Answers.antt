use Rattle.std.proofs.Common.{◌∙◌}
use Rattle.tree_fold.specs.Paths.{goes_on_from}
use Rattle.tree_fold.proofs.PlaceLemmas.{below_between, first_at, last_at, last_number}
use Rattle.tree_fold.proofs.EntryLemmas.{between_is}
use Rattle.tree_fold.proofs.entries.below.Goals as goal

pub returns : goal.returns
returns c =
    let path = c.args.path.now in
    rw (c.name_numbers.ensures, c.name_numbers-2.ensures) at (c.range.ensures.between tt)
    ∙ between_is c.args.entries.now.entries (first_at 0 path) (last_at last_number path) (goes_on_from path) c.requires.placed (λ q root. below_between path q c.requires.path c.requires.room root)
