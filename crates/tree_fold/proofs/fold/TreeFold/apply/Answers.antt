use Rattle.std.proofs.Common.{◌≡◌, None}
use Rattle.std.specs.BTreeMap.{values}
use Rattle.tree_fold.specs.declared.change.Change.TheVariants.{Remove, Move}
use Rattle.tree_fold.specs.Trees.{why}
use Rattle.tree_fold.proofs.FoldLemmas.{does_same, does_ok}
use Rattle.tree_fold.proofs.fold.TreeFold.apply.Goals as goal

pub returns-in-Remove-clause-ok : goal.returns-in-Remove-clause-ok
returns-in-Remove-clause-ok c = λ tree same.
    let m = c.self.inside.entries in
    let change = Remove c.in-Remove.path in
    let done : why (values m) change ≡ None = rw (c.in-Remove.is, ← c.self.view_is) at c.requires.done in
    let did = rw c.names.ensures.names at c.remove.ensures in
    rw c.in-Remove.is (does_same m.entries c.remove.new.entries.entries tree change c.self.invariant done did (rw c.self.view_is same))

pub returns-in-Move-clause-ok : goal.returns-in-Move-clause-ok
returns-in-Move-clause-ok c = λ tree same.
    let m = c.self.inside.entries in
    let change = Move c.in-Move.source c.in-Move.target in
    let done : why (values m) change ≡ None = rw (c.in-Move.is, ← c.self.view_is) at c.requires.done in
    let did = rw (c.names-in-Move.ensures.names, c.names-in-Move-2.ensures.names) at c.relocate.ensures.ok in
    rw c.in-Move.is (does_ok m.entries c.relocate.new.entries.entries tree change c.relocate.result c.self.invariant done did (rw c.self.view_is same))
