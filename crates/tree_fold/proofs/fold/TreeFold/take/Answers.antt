use Rattle.std.proofs.Common.{sym, ◌∙◌}
use Rattle.tree_fold.proofs.FoldLemmas.{fails, done}
use Rattle.tree_fold.proofs.fold.TreeFold.take.Goals as goal

pub returns-in-Some-clause-ok : goal.returns-in-Some-clause-ok
returns-in-Some-clause-ok c = λ tree same. fails c.args.self.now tree c.args.change c.in-Some.why (sym c.why.ensures ∙ c.in-Some.is) same

pub returns-in_ok-apply-in-None-clause-ok : goal.returns-in_ok-apply-in-None-clause-ok
returns-in_ok-apply-in-None-clause-ok c = λ tree same.
    done c.args.self.now c.apply.new.self tree c.args.change (sym c.why.ensures ∙ c.in-None.is) same (c.in_ok-apply-in-None.ensures.ok tree same)
