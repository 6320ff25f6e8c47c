use Rattle.std.proofs.Common.{Some, [], ◌∷◌, ap, subst, ◌∙◌, List, ℕ, IfErr}
use Rattle.log_node.specs.declared.forms.Form.TheVariants as forms
use Rattle.object_form.specs.Forms.{form_text}
use Rattle.object_fold.specs.Nodes.{shard_of}
use Rattle.log_client.specs.Objects.{PutRefused}
use Rattle.log_client.proofs.CallerLemmas.{put_refused}
use Rattle.log_map.proofs.MapAnswers.{map_later}
use Rattle.log_map.proofs.map.LogMap.del.Goals as goal

pub returns-clause-map : goal.returns-clause-map
returns-clause-map g c =
    map_later c.args.store.now c.args.client.now c.append_form_to.new.self c.args.self.now c.requires.client
    c.append_form_to.ensures.client c.requires.map

pub returns-clause-err : goal.returns-clause-err
returns-clause-err g c =
    let text = form_text (forms.Delete c.args.key.now) in
    subst (λ (k : ℕ). IfErr c.append_form_to.result (PutRefused (Some c.args.self.now.home) c.args.store.now c.args.client.now
    c.append_form_to.new.self (k ∷ []) text))
    (c.shard_of-colour.ensures ∙ (ap (λ (l : List ℕ). shard_of l c.as_bytes-2.result.now) c.as_slice.ensures
    ∙ ap (shard_of c.args.self.now.colours) c.as_bytes-2.ensures))
    (put_refused (Some c.args.self.now.home) c.args.store.now c.args.client.now c.append_form_to.new.self
    (c.shard_of-colour.result ∷ []) (form_text (forms.Delete c.in-Ok.copy)) text c.append_form_to.result
    (ap (λ (k : List ℕ). form_text (forms.Delete k)) (c.in-Ok.ensures ∙ c.as_bytes.ensures))
    c.append_form_to.ensures.err)
