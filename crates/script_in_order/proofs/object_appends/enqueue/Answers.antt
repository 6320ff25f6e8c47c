use Rattle.std.proofs.Common.{◌∙◌, [], Option, get_or, ap, sym, subst}
use Rattle.log_node.specs.Sets.{set_of}
use Rattle.script_text.specs.Fitting.{AreBelow, HasColours, is_queue}
use Rattle.script_text.specs.declared.script.Kind.{Kind}
use Rattle.lawful_run.specs.Asks.{object_colours}
use Rattle.object_form.specs.Forms.{IsForm}
use Rattle.log_node.specs.declared.forms.Form.TheVariants as forms
use Rattle.world_code.specs.WorldView.{world_of}
use Rattle.script_meaning.specs.States.{kind_in}
use Rattle.lawful_run.proofs.CallerLemmas.{key_is_word}
use Rattle.script_in_order.proofs.ObjectSteps.{kind_is, has_kind, small, queue_some, queue_low, form_done}
use Rattle.script_in_order.proofs.CommandKinds.{all_do}
use Rattle.script_in_order.proofs.object_appends.enqueue.Goals as goal

-- the object's kind, where its facts are found
pub append_form-requires-clause-form : goal.append_form-requires-clause-form
append_form-requires-clause-form c =
    subst IsForm (sym (ap forms.Enqueue (c.in_ok-copied.ensures ∙ c.as_bytes.ensures)))
    (key_is_word c.args.value.now c.requires.uses.1)

pub queue_colours-set-requires : goal.queue_colours-set-requires
queue_colours-set-requires c =
    let kind = (get_or c.args.objects.now c.args.object c.index-objects-object.result).kind in
    let is = kind_is c.args.objects.now c.args.object c.index-objects-object.result c.requires.uses.0 in
    record {
      queue = has_kind c.args.objects.now c.args.object c.index-objects-object.result c.requires.uses.0;
      colours = small c.args.world.now.shape.regions c.args.world.now.shape.colours c.is_whole.ensures.few_colours
          c.args.objects.now c.requires.kinds c.args.object is_queue c.requires.uses.0 kind is;
    }

pub append_form-requires-clause-many : goal.append_form-requires-clause-many
append_form-requires-clause-many c =
    subst (HasColours 1)
    (sym (c.queue_colours-set.ensures ∙ ap (λ (k : Option Kind). set_of (object_colours k))
    (kind_is c.args.objects.now c.args.object c.index-objects-object.result c.requires.uses.0)))
    (queue_some c.args.world.now.shape.regions c.args.world.now.shape.colours c.is_whole.ensures.few_colours
    c.args.objects.now c.requires.kinds c.args.object c.requires.uses.0)

pub append_form-requires-clause-within : goal.append_form-requires-clause-within
append_form-requires-clause-within c =
    subst (AreBelow c.args.world.now.shape.colours)
    (sym (c.queue_colours-set.ensures ∙ ap (λ (k : Option Kind). set_of (object_colours k))
    (kind_is c.args.objects.now c.args.object c.index-objects-object.result c.requires.uses.0)))
    (queue_low c.args.world.now.shape.regions c.args.world.now.shape.colours c.is_whole.ensures.few_colours
    c.args.objects.now c.requires.kinds c.args.object c.requires.uses.0)

pub returns-clause-ok : goal.returns-clause-ok
returns-clause-ok c =
    all_do c.args.objects.now c.args.command.now c.requires.asks c.append_form.result (world_of c.args.world.now) (world_of c.append_form.new.world) []
    (form_done c.args.command.now (world_of c.args.world.now) (world_of c.append_form.new.world) c.append_form.result
    c.queue_colours-set.result (set_of (object_colours (kind_in c.args.objects.now c.args.object)))
    (forms.Enqueue c.in_ok-copied.field-0) (forms.Enqueue c.args.value.now)
    (c.queue_colours-set.ensures ∙ ap (λ (k : Option Kind). set_of (object_colours k))
    (kind_is c.args.objects.now c.args.object c.index-objects-object.result c.requires.uses.0))
    (ap forms.Enqueue (c.in_ok-copied.ensures ∙ c.as_bytes.ensures))
    c.append_form.ensures.ok)
