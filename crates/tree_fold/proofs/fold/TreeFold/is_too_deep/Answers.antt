use Rattle.std.proofs.Common.{◌∙◌}
use Rattle.tree_fold.proofs.DoneLemmas.{deep_is}
use Rattle.tree_fold.proofs.fold.TreeFold.is_too_deep.Goals as goal

pub returns : goal.returns
returns c = rw (← c.self.view_is) (c.goes_deeper.ensures ∙ deep_is c.self.inside.entries c.args.source.now c.args.target.now c.self.invariant.placed c.requires.target)
