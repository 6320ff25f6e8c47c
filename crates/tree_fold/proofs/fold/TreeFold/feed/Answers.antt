use Rattle.std.proofs.Common.{sym, ◌∙◌}
use Rattle.tree_fold.specs.Readings.{change_of}
use Rattle.tree_fold.proofs.FoldLemmas.{told_same}
use Rattle.tree_fold.proofs.fold.TreeFold.feed.Goals as goal

pub returns-in_ok-take-in-Some-clause-told : goal.returns-in_ok-take-in-Some-clause-told
returns-in_ok-take-in-Some-clause-told c = λ nodes same.
    told_same c.args.self.now c.args.key.stamp nodes c.in-Some.change (change_of c.args.text.now) c.in_ok-take-in-Some.field-0 same
    (sym c.in-Some.is ∙ c.in_ok-change.ensures.change) c.in_ok-take-in-Some.ensures.told
