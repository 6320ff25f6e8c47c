use Rattle.std.proofs.Common.{◌∙◌}
use Rattle.tree_fold.proofs.DoneLemmas.{more_is}
use Rattle.tree_fold.proofs.fold.TreeFold.has_more.Goals as goal

pub returns : goal.returns
returns c = rw (← c.self.view_is) (c.goes_deeper.ensures ∙ more_is c.self.inside.entries c.args.path.now c.self.invariant.placed)
