use Rattle.std.proofs.Common.{◌≡◌, ◌∙◌, List, get_or, set, ap, sym, subst}
use Rattle.log_node.specs.declared.forms.Form.TheVariants as forms
use Rattle.object_form.specs.Forms.{IsForm, form_text}
use Rattle.script_text.specs.Fitting.{is_tx}
use Rattle.world_code.specs.WorldView.{world_of}
use Rattle.script_meaning.specs.Transactions.{verdict_tells}
use Rattle.lawful_run.proofs.CallerLemmas.{pairs_are}
use Rattle.script_in_order.specs.declared.folds.Fold.{Fold}
use Rattle.script_in_order.specs.declared.folds.Fold.TheVariants as folds
use Rattle.script_in_order.specs.Folds.{AreFolded}
use Rattle.script_in_order.specs.declared.tx_folds.TxFolds.{TxFolds}
use Rattle.script_in_order.proofs.FoldsKept.{map_with, tx_of, none_else, tx_put}
use Rattle.script_in_order.proofs.ObjectSteps.{kind_is, small}
use Rattle.script_in_order.proofs.TellSteps.{folds_after}
use Rattle.script_in_order.proofs.TransactionSteps.{tx_is, whole_members, whole_low, whole_some, set_made, its_set, its_some, its_low, commit_told}
use Rattle.script_in_order.proofs.transactions.commit_on.Goals as goal

pub all_colours-colours-requires-clause-telling : goal.all_colours-colours-requires-clause-telling
all_colours-colours-requires-clause-telling c =
    tx_is c.args.objects.now c.args.object c.index-objects-object.result c.requires.uses.0

pub all_colours-colours-requires-clause-colours : goal.all_colours-colours-requires-clause-colours
all_colours-colours-requires-clause-colours c =
    small c.args.world.now.shape.regions c.args.world.now.shape.colours c.is_whole.ensures.few_colours c.args.objects.now
    c.requires.kinds c.args.object is_tx c.requires.uses.0
    (get_or c.args.objects.now c.args.object c.index-objects-object.result).kind
    (kind_is c.args.objects.now c.args.object c.index-objects-object.result c.requires.uses.0)

pub shards_of-set-requires : goal.shards_of-set-requires
shards_of-set-requires c =
    small c.args.world.now.shape.regions c.args.world.now.shape.colours c.is_whole.ensures.few_colours c.args.objects.now
    c.requires.kinds c.args.object is_tx c.requires.uses.0
    (get_or c.args.objects.now c.args.object c.index-objects-object.result).kind
    (kind_is c.args.objects.now c.args.object c.index-objects-object.result c.requires.uses.0)

pub write_form-requires : goal.write_form-requires
write_form-requires c =
    subst IsForm (sym (ap (forms.Transaction c.args.reads) (c.in_ok-writes.ensures ∙ c.as_slice-3.ensures)))
    (c.requires.rests, pairs_are 2 c.args.pairs.now c.requires.uses.1)

pub append_and_tell-requires : goal.append_and_tell-requires
append_and_tell-requires c =
    let w = world_of c.args.world.now in
    let regions = c.args.world.now.shape.regions in
    let count = c.args.world.now.shape.colours in
    let few = c.is_whole.ensures.few_colours in
    let objects = c.args.objects.now in
    let object = c.args.object in
    let has = c.requires.uses.0 in
    let other = c.index-objects-object.result in
    let set_is = set_made objects c.args.command.now object c.args.pairs.now c.args.reads other has c.shards_of-set.result
    c.as_slice.result.now c.as_slice-2.result.now c.shards_of-set.ensures c.as_slice.ensures c.as_slice-2.ensures in
    let there = subst (λ (l : List Fold). c.index_mut.result.now ≡ get_or l object c.index_mut.result.now)
    c.folds.view_is c.index_mut.ensures.value in record {
      caller = c.requires.caller;
      within = whole_low regions count few objects c.requires.kinds object has other c.all_colours-colours.result
          c.all_colours-colours.ensures;
      some = whole_some regions count few objects c.requires.kinds object has other c.all_colours-colours.result
          c.all_colours-colours.ensures;
      set = its_low objects c.args.command.now object c.args.pairs.now c.args.reads regions count few c.requires.kinds other
          has c.shards_of-set.result set_is;
      many = its_some objects c.args.command.now object c.args.pairs.now c.args.reads regions count few c.requires.kinds
          other has c.shards_of-set.result set_is c.requires.uses.1;
      folded = (tx_of w objects c.args.folds.now object c.requires.folded has c.index_mut.result.now c.in-Tx.fold there
          c.in-Tx.is).map;
    }

pub unreachable-requires : goal.unreachable-requires
unreachable-requires c =
    let there = subst (λ (l : List Fold). c.index_mut.result.now ≡ get_or l c.args.object c.index_mut.result.now)
    c.folds.view_is c.index_mut.ensures.value in
    none_else (world_of c.args.world.now) c.args.objects.now c.args.folds.now c.args.object c.requires.folded
    c.requires.uses.0 c.index_mut.result.now there c.in_default.not-Tx

pub returns-clause-ok : goal.returns-clause-ok
returns-clause-ok c =
    let objects = c.args.objects.now in
    let has = c.requires.uses.0 in
    let other = c.index-objects-object.result in
    commit_told objects c.args.command.now c.args.object c.args.pairs.now c.args.reads (world_of c.args.world.now)
    (world_of c.append_and_tell.new.world) c.append_and_tell.result c.all_colours-colours.result c.shards_of-set.result
    c.in_ok-text.text
    (whole_members c.args.world.now.shape.regions c.args.world.now.shape.colours c.is_whole.ensures.few_colours objects
    c.requires.kinds c.args.object has other c.all_colours-colours.result c.all_colours-colours.ensures)
    (set_made objects c.args.command.now c.args.object c.args.pairs.now c.args.reads other has c.shards_of-set.result
    c.as_slice.result.now c.as_slice-2.result.now c.shards_of-set.ensures c.as_slice.ensures c.as_slice-2.ensures)
    (c.in_ok-text.ensures
    ∙ ap (λ writes. form_text (forms.Transaction c.args.reads writes)) (c.in_ok-writes.ensures ∙ c.as_slice-3.ensures))
    c.append_and_tell.ensures.ok

pub returns-clause-folded : goal.returns-clause-folded
returns-clause-folded c =
    let v = world_of c.append_and_tell.new.world in
    let objects = c.args.objects.now in
    let has = c.requires.uses.0 in
    let there = subst (λ (l : List Fold). c.index_mut.result.now ≡ get_or l c.args.object c.index_mut.result.now)
    c.folds.view_is c.index_mut.ensures.value in
    let all = folds_after verdict_tells objects c.args.command.now c.args.object
    (its_set objects c.args.object c.args.reads c.args.pairs.now) (form_text (forms.Transaction c.args.reads c.args.pairs.now))
    (world_of c.args.world.now) v c.args.folds.now c.append_and_tell.result c.is_whole.ensures.reached
    (returns-clause-ok c) c.append_and_tell.ensures.err c.requires.folded in
    let old = tx_of v objects c.args.folds.now c.args.object all has c.index_mut.result.now c.in-Tx.fold there c.in-Tx.is in
    let new : TxFolds = record c.in-Tx.fold { map = c.append_and_tell.new.fold } in
    subst (λ (l : List Fold). AreFolded v objects (set l c.args.object (folds.Tx new))) (sym c.folds.view_is)
    (tx_put v objects c.args.folds.now c.args.object all has new
    (map_with v has.found.kind c.in-Tx.fold c.append_and_tell.new.fold old c.append_and_tell.ensures.folded))
