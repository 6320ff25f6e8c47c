use Rattle.std.proofs.Common.{◌∙◌, [], Option, ap}
use Rattle.script_text.specs.declared.script.Kind.{Kind}
use Rattle.script_text.specs.declared.commands.What.TheVariants as whats
use Rattle.lawful_run.specs.Asks.{object_colours, rising}
use Rattle.world_code.specs.WorldView.{world_of}
use Rattle.script_in_order.proofs.CommandKinds.{all_do}
use Rattle.script_in_order.proofs.PartSteps.{no_other}
use Rattle.script_in_order.proofs.PartsHere.{fold_now, its_kind, its_fold, its_put}
use Rattle.script_in_order.proofs.TransactionSteps.{whole_members, whole_low, whole_some}
use Rattle.script_in_order.proofs.parts.decide.Goals as goal

pub decide_in-requires-clause-all : goal.decide_in-requires-clause-all
decide_in-requires-clause-all c =
    whole_members c.args.world.now.shape.regions c.args.world.now.shape.colours c.is_whole.ensures.few_colours
    c.args.objects.now c.requires.kinds c.args.object c.requires.uses.0 c.index-objects-object.result c.all_colours-all.result
    c.all_colours-all.ensures
    ∙ ap (λ (k : Option Kind). rising (object_colours k))
    (its_kind (world_of c.args.world.now) c.args.objects.now c.args.command.now c.args.object c.requires.uses.0
    c.requires.near c.index-objects-object.result c.in-Parts._home c.in-Parts.colours c.as_slice.result.now c.in-Parts.is
    c.as_slice.ensures)

pub decide_in-requires-clause-within : goal.decide_in-requires-clause-within
decide_in-requires-clause-within c =
    whole_low c.args.world.now.shape.regions c.args.world.now.shape.colours c.is_whole.ensures.few_colours c.args.objects.now
    c.requires.kinds c.args.object c.requires.uses.0 c.index-objects-object.result c.all_colours-all.result
    c.all_colours-all.ensures

pub decide_in-requires-clause-some : goal.decide_in-requires-clause-some
decide_in-requires-clause-some c =
    whole_some c.args.world.now.shape.regions c.args.world.now.shape.colours c.is_whole.ensures.few_colours c.args.objects.now
    c.requires.kinds c.args.object c.requires.uses.0 c.index-objects-object.result c.all_colours-all.result
    c.all_colours-all.ensures

pub decide_in-requires-clause-folded : goal.decide_in-requires-clause-folded
decide_in-requires-clause-folded c =
    its_fold (world_of c.args.world.now) c.args.objects.now c.args.command.now c.args.object c.requires.uses.0
    c.requires.near c.index-objects-object.result c.in-Parts._home c.in-Parts.colours c.as_slice.result.now c.in-Parts.is
    c.as_slice.ensures _ c.args.folds.now c.folds.view_is c.requires.folded c.index_mut.result.now c.in-Tx.fold
    c.index_mut.ensures.value c.in-Tx.is

pub unreachable-requires-in_default-index_mut : goal.unreachable-requires-in_default-index_mut
unreachable-requires-in_default-index_mut c =
    no_other (world_of c.args.world.now) c.args.objects.now c.args.folds.now c.args.object c.requires.folded
    c.requires.uses.0 c.index_mut.result.now
    (fold_now _ c.args.folds.now c.args.object c.index_mut.result.now c.folds.view_is c.index_mut.ensures.value)
    c.in_default-index_mut.not-Tx

pub returns : goal.returns
returns c =
    let w = world_of c.args.world.now in
    let v = world_of c.decide_in.new.world in
    let command = c.args.command.now in
    let objects = c.args.objects.now in
    let object = c.args.object in
    let has = c.requires.uses.0 in
    let slice = c.as_slice.result.now in
    let done = all_do objects command c.requires.asks c.decide_in.result w v []
    (c.decide_in.ensures.ok objects object (ap object_colours (its_kind w objects command object has c.requires.near
    c.index-objects-object.result c.in-Parts._home c.in-Parts.colours slice c.in-Parts.is c.as_slice.ensures))) in
    record {
      ok = done;
      err = c.decide_in.ensures.err;
      folded = its_put w objects command object has c.requires.near c.index-objects-object.result c.in-Parts._home
          c.in-Parts.colours slice c.in-Parts.is c.as_slice.ensures _ c.args.folds.now c.folds.view_is c.requires.folded v
          (whats.Decide object c.args.key.now) c.decide_in.result c.decide_in.new.fold c.is_whole.ensures.reached
          c.requires.asks c.requires.near done c.decide_in.ensures.err c.decide_in.ensures.folded;
    }
