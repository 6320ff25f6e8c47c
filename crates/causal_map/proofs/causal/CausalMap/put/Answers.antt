use Rattle.std.proofs.Common.{None, [], ◌∷◌, ap, ◌∙◌, List, ℕ}
use Rattle.log_node.specs.declared.forms.Form.TheVariants as forms
use Rattle.object_form.specs.Forms.{form_text}
use Rattle.log_client.proofs.CallerLemmas.{put_refused}
use Rattle.causal_map.proofs.GetAnswers.{causal_later}
use Rattle.causal_map.proofs.causal.CausalMap.put.Goals as goal

pub returns-clause-map : goal.returns-clause-map
returns-clause-map g c =
    causal_later c.args.store.now c.args.client.now c.append_form_to.new.self c.args.self.now c.requires.client
    c.append_form_to.ensures.client c.requires.map

pub returns-clause-err : goal.returns-clause-err
returns-clause-err g c =
    let text = form_text (forms.Causal c.args.key.now c.args.value.now) in
    put_refused None c.args.store.now c.args.client.now c.append_form_to.new.self (c.args.self.now.colour ∷ [])
    (form_text (forms.Causal c.in-Ok-Ok.key c.in-Ok-Ok.value)) text c.append_form_to.result
    (ap (λ (k : List ℕ). form_text (forms.Causal k c.in-Ok-Ok.value)) (c.in-Ok-Ok.ensures ∙ c.as_bytes.ensures)
    ∙ ap (λ (v : List ℕ). form_text (forms.Causal c.args.key.now v)) (c.in-Ok-Ok.ensures' ∙ c.as_bytes-2.ensures))
    c.append_form_to.ensures.err
