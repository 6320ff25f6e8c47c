use Rattle.std.proofs.Common.{◌∙◌, ℕ, [], ◌∷◌, List, Option, Some, get_or, inl, refl, ap, sym, subst}
use Rattle.script_text.specs.Fitting.{AreBelow, HasColours, is_map}
use Rattle.script_text.specs.declared.script.Kind.{Kind}
use Rattle.lawful_run.specs.Asks.{object_colours}
use Rattle.object_form.specs.Forms.{IsForm}
use Rattle.log_node.specs.declared.forms.Form.TheVariants as forms
use Rattle.world_code.specs.WorldView.{world_of}
use Rattle.script_meaning.specs.States.{kind_in}
use Rattle.script_meaning.specs.Objects.{shard_set}
use Rattle.lawful_run.proofs.CallerLemmas.{key_is_word}
use Rattle.script_in_order.proofs.ObjectSteps.{kind_is, small, has_some, are_low, form_done}
use Rattle.script_in_order.proofs.CommandKinds.{all_do}
use Rattle.script_in_order.proofs.object_appends.delete.Goals as goal

-- the object's kind, where its facts are found
pub key_shard-requires : goal.key_shard-requires
key_shard-requires c =
    let kind = (get_or c.args.objects.now c.args.object c.index-objects-object.result).kind in
    small c.args.world.now.shape.regions c.args.world.now.shape.colours c.is_whole.ensures.few_colours
    c.args.objects.now c.requires.kinds c.args.object is_map c.requires.uses.0 kind
    (kind_is c.args.objects.now c.args.object c.index-objects-object.result c.requires.uses.0)

pub append_form-requires-clause-form : goal.append_form-requires-clause-form
append_form-requires-clause-form c =
    subst IsForm (sym (ap forms.Delete (c.in_ok-copied.ensures ∙ c.as_bytes.ensures)))
    (key_is_word c.args.key.now c.requires.uses.1)

pub append_form-requires-clause-many : goal.append_form-requires-clause-many
append_form-requires-clause-many c =
    let kind = (get_or c.args.objects.now c.args.object c.index-objects-object.result).kind in
    subst (HasColours 1) (sym (c.key_shard.ensures
    ∙ ap (λ (k : List ℕ). shard_set (object_colours (Some kind)) (k ∷ [])) c.as_bytes-2.ensures))
    (has_some c.args.world.now.shape.regions c.args.world.now.shape.colours c.is_whole.ensures.few_colours
    c.args.objects.now c.requires.kinds c.args.object is_map c.requires.uses.0 kind
    (kind_is c.args.objects.now c.args.object c.index-objects-object.result c.requires.uses.0)
    (c.args.key.now ∷ []) c.args.key.now (inl refl))

pub append_form-requires-clause-within : goal.append_form-requires-clause-within
append_form-requires-clause-within c =
    let kind = (get_or c.args.objects.now c.args.object c.index-objects-object.result).kind in
    subst (AreBelow c.args.world.now.shape.colours) (sym (c.key_shard.ensures
    ∙ ap (λ (k : List ℕ). shard_set (object_colours (Some kind)) (k ∷ [])) c.as_bytes-2.ensures))
    (are_low c.args.world.now.shape.regions c.args.world.now.shape.colours c.is_whole.ensures.few_colours
    c.args.objects.now c.requires.kinds c.args.object is_map c.requires.uses.0 kind
    (kind_is c.args.objects.now c.args.object c.index-objects-object.result c.requires.uses.0)
    (c.args.key.now ∷ []))

pub returns-clause-ok : goal.returns-clause-ok
returns-clause-ok c =
    let kind = (get_or c.args.objects.now c.args.object c.index-objects-object.result).kind in
    let is = kind_is c.args.objects.now c.args.object c.index-objects-object.result c.requires.uses.0 in
    all_do c.args.objects.now c.args.command.now c.requires.asks c.append_form.result (world_of c.args.world.now) (world_of c.append_form.new.world) []
    (form_done c.args.command.now (world_of c.args.world.now) (world_of c.append_form.new.world) c.append_form.result
    c.key_shard.result (shard_set (object_colours (kind_in c.args.objects.now c.args.object)) (c.args.key.now ∷ []))
    (forms.Delete c.in_ok-copied.field-0) (forms.Delete c.args.key.now)
    (c.key_shard.ensures
    ∙ (ap (λ (k : List ℕ). shard_set (object_colours (Some kind)) (k ∷ [])) c.as_bytes-2.ensures
    ∙ ap (λ (k : Option Kind). shard_set (object_colours k) (c.args.key.now ∷ [])) is))
    (ap forms.Delete (c.in_ok-copied.ensures ∙ c.as_bytes.ensures))
    c.append_form.ensures.ok)
