use Rattle.std.proofs.Common.{Some, [], ◌∷◌, ap, ◌∙◌, List, ℕ}
use Rattle.log_node.specs.declared.forms.Form.TheVariants as forms
use Rattle.object_form.specs.Forms.{form_text}
use Rattle.log_client.proofs.CallerLemmas.{put_refused}
use Rattle.log_queue.proofs.QueueAnswers.{queue_later}
use Rattle.log_queue.proofs.queue.LogQueue.enq.Goals as goal

pub returns-clause-queue : goal.returns-clause-queue
returns-clause-queue g c =
    queue_later c.args.store.now c.args.client.now c.append_form_to.new.self c.args.self.now c.requires.client
    c.append_form_to.ensures.client c.requires.queue

pub returns-clause-err : goal.returns-clause-err
returns-clause-err g c =
    put_refused (Some c.args.self.now.home) c.args.store.now c.args.client.now c.append_form_to.new.self
    (c.args.self.now.colour ∷ []) (form_text (forms.Enqueue c.in-Ok.value)) (form_text (forms.Enqueue c.args.value.now))
    c.append_form_to.result (ap (λ (v : List ℕ). form_text (forms.Enqueue v)) (c.in-Ok.ensures ∙ c.as_bytes.ensures))
    c.append_form_to.ensures.err
