use Rattle.std.proofs.Common.{subst, sym}
use Rattle.tree_fold.specs.declared.fold.TreeFold.{TreeFold}
use Rattle.tree_fold.specs.Trees.{ValueAfter}
use Rattle.tree_fold.specs.TreeStates.{IsTree}
use Rattle.log_tree.proofs.TreeAnswers.{reads_so}
use Rattle.log_tree.proofs.tree.LogTree.value.Goals as goal

pub returns-in-Ok-copied_value-clause-ok : goal.returns-in-Ok-copied_value-clause-ok
returns-in-Ok-copied_value-clause-ok g c =
    reads_so c.args.store.now c.args.client.now c.look.new.client c.args.self.now.colours c.args.self.now.fold.kept.last c.in-Ok.read
    (IsTree c.look.new.self.fold.kept.state) (ValueAfter c.args.path.now c.in-Ok-copied_value.value)
    (λ nodes is. c.in-Ok-copied_value.ensures nodes (subst (λ (t : TreeFold). IsTree t nodes) (sym c.state.ensures) is)) c.in-Ok.ensures.ok
