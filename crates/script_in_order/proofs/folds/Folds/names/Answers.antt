use Rattle.std.proofs.Common.{◌≡◌, List, get_or, set, refl, sym, subst}
use Rattle.world_code.specs.WorldView.{world_of}
use Rattle.script_text.specs.declared.script.Kind.TheVariants as kinds
use Rattle.script_in_order.specs.declared.folds.Fold.{Fold}
use Rattle.script_in_order.specs.declared.folds.Fold.TheVariants as folds
use Rattle.script_in_order.specs.Folds.{AreFolded}
use Rattle.script_in_order.proofs.FoldsKept.{fold_there, fold_put, tree_of, only_tree}
use Rattle.script_in_order.proofs.folds.Folds.names.Goals as goal

pub names-requires-clause-folded : goal.names-requires-clause-folded
names-requires-clause-folded c =
    let m = c.requires.may in
    let there = subst (λ (l : List Fold). c.index_mut.result.now ≡ get_or l c.args.object c.index_mut.result.now)
    c.self.view_is c.index_mut.ensures.value in
    tree_of (world_of c.args.world.now) m.0 c.args.self.now c.args.object c.index_mut.result.now c.in-Tree.fold m.2 m.1 there
    c.in-Tree.is

pub unreachable-requires : goal.unreachable-requires
unreachable-requires c =
    let w = world_of c.args.world.now in
    let m = c.requires.may in
    let there = subst (λ (l : List Fold). c.index_mut.result.now ≡ get_or l c.args.object c.index_mut.result.now)
    c.self.view_is c.index_mut.ensures.value in
    only_tree w m.1.0 m.1.1 c.index_mut.result.now
    (fold_there w m.0 c.args.self.now c.args.object (kinds.Tree m.1.0 m.1.1) m.2 m.1.2 c.index_mut.result.now there)
    c.in_default.not-Tree

pub returns-clause-folded : goal.returns-clause-folded
returns-clause-folded c = λ objects is folded.
    let w = world_of c.args.world.now in
    let new : Fold = folds.Tree c.names.new.self in
    subst (λ (l : List Fold). AreFolded w objects (set l c.args.object new)) (sym c.self.view_is)
    (fold_put w objects c.args.self.now c.args.object (kinds.Tree is.0 is.1) folded is.2 new
    (is.0, is.1, refl, c.names.ensures.folded))
