use Rattle.std.proofs.Common.{◌∙◌, [], List, Option, Some, get_or, ap, sym, subst}
use Rattle.script_text.specs.Fitting.{AreBelow, HasColours, is_map}
use Rattle.script_text.specs.declared.script.Kind.{Kind}
use Rattle.log_node.specs.declared.forms.Pair.{Pair}
use Rattle.lawful_run.specs.Asks.{object_colours, keys_of_pairs}
use Rattle.object_form.specs.Forms.{IsForm}
use Rattle.log_node.specs.declared.forms.Form.TheVariants as forms
use Rattle.world_code.specs.WorldView.{world_of}
use Rattle.script_meaning.specs.States.{kind_in}
use Rattle.script_meaning.specs.Objects.{shard_set}
use Rattle.lawful_run.proofs.CallerLemmas.{key_some, pairs_are}
use Rattle.script_meaning.proofs.CallerLemmas.{some_of}
use Rattle.script_in_order.proofs.ObjectSteps.{kind_is, small, has_some, are_low, form_done}
use Rattle.script_in_order.proofs.CommandKinds.{all_do}
use Rattle.script_in_order.proofs.object_appends.put_all.Goals as goal

-- the object's kind, where its facts are found
pub pair_shards-set-requires : goal.pair_shards-set-requires
pair_shards-set-requires c =
    let kind = (get_or c.args.objects.now c.args.object c.index-objects-object.result).kind in
    small c.args.world.now.shape.regions c.args.world.now.shape.colours c.is_whole.ensures.few_colours
    c.args.objects.now c.requires.kinds c.args.object is_map c.requires.uses.0 kind
    (kind_is c.args.objects.now c.args.object c.index-objects-object.result c.requires.uses.0)

pub append_form-requires-clause-form : goal.append_form-requires-clause-form
append_form-requires-clause-form c =
    subst IsForm (sym (ap forms.PutAll (c.in_ok-copied_pairs.ensures ∙ c.as_slice-2.ensures)))
    (pairs_are 4 c.args.pairs.now c.requires.uses.1)

pub append_form-requires-clause-many : goal.append_form-requires-clause-many
append_form-requires-clause-many c =
    let kind = (get_or c.args.objects.now c.args.object c.index-objects-object.result).kind in
    let key = some_of (keys_of_pairs c.args.pairs.now) (key_some 4 c.args.pairs.now c.requires.uses.1) in
    subst (HasColours 1) (sym (c.pair_shards-set.ensures
    ∙ ap (λ (ps : List Pair). shard_set (object_colours (Some kind)) (keys_of_pairs ps)) c.as_slice.ensures))
    (has_some c.args.world.now.shape.regions c.args.world.now.shape.colours c.is_whole.ensures.few_colours
    c.args.objects.now c.requires.kinds c.args.object is_map c.requires.uses.0 kind
    (kind_is c.args.objects.now c.args.object c.index-objects-object.result c.requires.uses.0)
    (keys_of_pairs c.args.pairs.now) key.0 key.1)

pub append_form-requires-clause-within : goal.append_form-requires-clause-within
append_form-requires-clause-within c =
    let kind = (get_or c.args.objects.now c.args.object c.index-objects-object.result).kind in
    subst (AreBelow c.args.world.now.shape.colours) (sym (c.pair_shards-set.ensures
    ∙ ap (λ (ps : List Pair). shard_set (object_colours (Some kind)) (keys_of_pairs ps)) c.as_slice.ensures))
    (are_low c.args.world.now.shape.regions c.args.world.now.shape.colours c.is_whole.ensures.few_colours
    c.args.objects.now c.requires.kinds c.args.object is_map c.requires.uses.0 kind
    (kind_is c.args.objects.now c.args.object c.index-objects-object.result c.requires.uses.0)
    (keys_of_pairs c.args.pairs.now))

pub returns-clause-ok : goal.returns-clause-ok
returns-clause-ok c =
    let kind = (get_or c.args.objects.now c.args.object c.index-objects-object.result).kind in
    let is = kind_is c.args.objects.now c.args.object c.index-objects-object.result c.requires.uses.0 in
    all_do c.args.objects.now c.args.command.now c.requires.asks c.append_form.result (world_of c.args.world.now) (world_of c.append_form.new.world) []
    (form_done c.args.command.now (world_of c.args.world.now) (world_of c.append_form.new.world) c.append_form.result
    c.pair_shards-set.result
    (shard_set (object_colours (kind_in c.args.objects.now c.args.object)) (keys_of_pairs c.args.pairs.now))
    (forms.PutAll c.in_ok-copied_pairs.field-0) (forms.PutAll c.args.pairs.now)
    (c.pair_shards-set.ensures
    ∙ (ap (λ (ps : List Pair). shard_set (object_colours (Some kind)) (keys_of_pairs ps)) c.as_slice.ensures
    ∙ ap (λ (k : Option Kind). shard_set (object_colours k) (keys_of_pairs c.args.pairs.now)) is))
    (ap forms.PutAll (c.in_ok-copied_pairs.ensures ∙ c.as_slice-2.ensures))
    c.append_form.ensures.ok)
