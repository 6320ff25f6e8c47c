use Rattle.std.proofs.Common.{◌≡◌, List, get_or, set, refl, sym, subst}
use Rattle.tree_fold.specs.Changes.{change_text}
use Rattle.script_text.specs.declared.script.Kind.TheVariants as kinds
use Rattle.script_text.specs.Fitting.{is_tree}
use Rattle.world_code.specs.WorldView.{world_of}
use Rattle.script_meaning.specs.Trees.{change_tells}
use Rattle.script_in_order.specs.declared.folds.Fold.{Fold}
use Rattle.script_in_order.specs.declared.folds.Fold.TheVariants as folds
use Rattle.script_in_order.specs.Folds.{AreFolded}
use Rattle.script_in_order.proofs.FoldsKept.{fold_there, fold_put, tree_of, only_tree}
use Rattle.script_in_order.proofs.ObjectSteps.{kind_is, small}
use Rattle.script_in_order.proofs.TellSteps.{folds_after}
use Rattle.script_in_order.proofs.TransactionSteps.{whole_members, whole_low, whole_some}
use Rattle.script_in_order.proofs.TreeSteps.{tree_is, tree_at, change_set, set_made, set_low, set_some, change_told}
use Rattle.script_in_order.proofs.trees.change_so.Goals as goal

pub all_colours-colours-requires-clause-telling : goal.all_colours-colours-requires-clause-telling
all_colours-colours-requires-clause-telling c =
    tree_is c.args.objects.now c.args.object c.index-objects-object.result c.requires.tree

pub all_colours-colours-requires-clause-colours : goal.all_colours-colours-requires-clause-colours
all_colours-colours-requires-clause-colours c =
    small c.args.world.now.shape.regions c.args.world.now.shape.colours c.is_whole.ensures.few_colours c.args.objects.now
    c.requires.kinds c.args.object is_tree c.requires.tree
    (get_or c.args.objects.now c.args.object c.index-objects-object.result).kind
    (kind_is c.args.objects.now c.args.object c.index-objects-object.result c.requires.tree)

pub key_shards-set-requires : goal.key_shards-set-requires
key_shards-set-requires c =
    small c.args.world.now.shape.regions c.args.world.now.shape.colours c.is_whole.ensures.few_colours c.args.objects.now
    c.requires.kinds c.args.object is_tree c.requires.tree
    (get_or c.args.objects.now c.args.object c.index-objects-object.result).kind
    (kind_is c.args.objects.now c.args.object c.index-objects-object.result c.requires.tree)

pub append_and_tell-requires : goal.append_and_tell-requires
append_and_tell-requires c =
    let w = world_of c.args.world.now in
    let regions = c.args.world.now.shape.regions in
    let count = c.args.world.now.shape.colours in
    let few = c.is_whole.ensures.few_colours in
    let objects = c.args.objects.now in
    let object = c.args.object in
    let has = c.requires.tree in
    let other = c.index-objects-object.result in
    let there = subst (λ (l : List Fold). c.index_mut.result.now ≡ get_or l object c.index_mut.result.now)
    c.folds.view_is c.index_mut.ensures.value in record {
      caller = c.requires.caller;
      within = whole_low regions count few objects c.requires.kinds object has other c.all_colours-colours.result
          c.all_colours-colours.ensures;
      some = whole_some regions count few objects c.requires.kinds object has other c.all_colours-colours.result
          c.all_colours-colours.ensures;
      set = set_low objects object c.args.change.now other has c.key_shards-set.result c.in_ok-keys.keys
          c.as_slice.result.now c.key_shards-set.ensures c.as_slice.ensures c.in_ok-keys.ensures regions count few
          c.requires.kinds;
      many = set_some objects object c.args.change.now other has c.key_shards-set.result c.in_ok-keys.keys
          c.as_slice.result.now c.key_shards-set.ensures c.as_slice.ensures c.in_ok-keys.ensures regions count few
          c.requires.kinds c.requires.may;
      folded = tree_of w objects c.args.folds.now object c.index_mut.result.now c.in-Tree.fold c.requires.folded
          (tree_at objects object has) there c.in-Tree.is;
    }

pub unreachable-requires : goal.unreachable-requires
unreachable-requires c =
    let w = world_of c.args.world.now in
    let at = tree_at c.args.objects.now c.args.object c.requires.tree in
    let there = subst (λ (l : List Fold). c.index_mut.result.now ≡ get_or l c.args.object c.index_mut.result.now)
    c.folds.view_is c.index_mut.ensures.value in
    only_tree w at.0 at.1 c.index_mut.result.now
    (fold_there w c.args.objects.now c.args.folds.now c.args.object (kinds.Tree at.0 at.1) c.requires.folded at.2
    c.index_mut.result.now there)
    c.in_default.not-Tree

pub returns-clause-ok : goal.returns-clause-ok
returns-clause-ok c =
    let objects = c.args.objects.now in
    let has = c.requires.tree in
    let other = c.index-objects-object.result in
    change_told objects c.args.command.now c.args.object c.args.change.now (world_of c.args.world.now)
    (world_of c.append_and_tell.new.world) c.append_and_tell.result c.all_colours-colours.result c.key_shards-set.result
    c.in_ok-text.text
    (whole_members c.args.world.now.shape.regions c.args.world.now.shape.colours c.is_whole.ensures.few_colours objects
    c.requires.kinds c.args.object has other c.all_colours-colours.result c.all_colours-colours.ensures)
    (set_made objects c.args.object c.args.change.now other has c.key_shards-set.result c.in_ok-keys.keys
    c.as_slice.result.now c.key_shards-set.ensures c.as_slice.ensures c.in_ok-keys.ensures)
    c.in_ok-text.ensures c.append_and_tell.ensures.ok

pub returns-clause-folded : goal.returns-clause-folded
returns-clause-folded c =
    let v = world_of c.append_and_tell.new.world in
    let objects = c.args.objects.now in
    let at = tree_at objects c.args.object c.requires.tree in
    let new : Fold = folds.Tree c.append_and_tell.new.fold in
    subst (λ (l : List Fold). AreFolded v objects (set l c.args.object new)) (sym c.folds.view_is)
    (fold_put v objects c.args.folds.now c.args.object (kinds.Tree at.0 at.1)
    (folds_after change_tells objects c.args.command.now c.args.object
    (change_set objects c.args.object c.args.change.now) (change_text c.args.change.now)
    (world_of c.args.world.now) v c.args.folds.now c.append_and_tell.result c.is_whole.ensures.reached
    (returns-clause-ok c) c.append_and_tell.ensures.err c.requires.folded) at.2 new
    (at.0, at.1, refl, c.append_and_tell.ensures.folded))
