use Rattle.std.proofs.Common.{◌≡◌, true, sym, ap, ◌∙◌}
use Rattle.std.specs.BTreeMap.{values}
use Rattle.tree_fold.specs.Trees.{Tree, is_there, tree_after}
use Rattle.tree_fold.proofs.NamesLemmas.{are_names}
use Rattle.tree_fold.proofs.fold.TreeFold.names.Goals as goal

pub returns : goal.returns
returns c = λ nodes same.
    let m = c.self.inside.entries in
    let path = c.args.path.now in
    let names = rw c.names-path.ensures.names at c.in_ok-names.ensures in
    let there : is_there (values m) path ≡ true = ap (λ (t : Tree). is_there t path) c.self.view_is ∙ ap (is_there c.args.self.now) (sym c.names-path.ensures.names) ∙ sym c.is_there.ensures ∙ c.if-not-is_there.false in
    are_names m (tree_after nodes) path c.in_ok-names.names c.self.invariant (rw c.self.view_is same) there names
