use Rattle.std.proofs.Common.{ℕ, Some, ap, refl, sym, subst, ◌∙◌, arith, ◌∷◌, []}
use Rattle.object_form.specs.Forms.{form_text}
use Rattle.log_node.specs.declared.forms.Form.TheVariants as forms
use Rattle.script_text.specs.declared.script.Kind.TheVariants as kinds
use Rattle.script_text.specs.declared.commands.What.TheVariants as whats
use Rattle.lawful_run.specs.Deeds.{Listed}
use Rattle.log_client.proofs.CallerLemmas.{rests_same}
use Rattle.log_queue.specs.declared.queue.LogQueue.{LogQueue}
use Rattle.run_script.specs.declared.serving.opened.Opened.TheVariants as opened
use Rattle.run_script.specs.Opened.{IsOpenedOf, kind_opened}
use Rattle.run_script.proofs.GivingObjects.{gives_unasked_of, told_home}
use Rattle.run_script.proofs.GivingPuts.{gives_said, points_fit}
use Rattle.run_script.proofs.ReadsFound.{queue_not_tx}
use Rattle.run_script.proofs.serving.puts.enq.Goals as goal

pub returns-in_default-clause-rests : goal.returns-in_default-clause-rests
returns-in_default-clause-rests g c = rests_same c.args.store.now c.args.client.now c.requires.client

pub returns-in_default-clause-gives : goal.returns-in_default-clause-gives
returns-in_default-clause-gives g c =
    gives_unasked_of c.args.store.now c.args.client.now c.args.opened.now (λ (object : ℕ). whats.Enq object c.args.value) c.requires.client
    (queue_not_tx (kind_opened c.args.opened.now) c.requires.kind) (λ object. refl)

pub enq-enq-requires-clause-queue : goal.enq-enq-requires-clause-queue
enq-enq-requires-clause-queue g c κs within = subst (IsOpenedOf c.args.client.now) c.in-Queue.is c.requires.kept

pub appended-requires-clause-room : goal.appended-requires-clause-room
appended-requires-clause-room g c =
    let room = c.in-Ok.ensures.capacity in
    points_fit c.args.store.now c.args.client.now c.enq-enq.new.client (c.in-Queue.queue.colour ∷ [])
    (form_text (forms.Enqueue c.args.value)) c.enq-enq.result _ c.enq-enq.ensures.ok (omega (arith, room))

pub returns-clause-stays : goal.returns-clause-stays
returns-clause-stays g c = (
  ap (λ (q : LogQueue). kinds.Queue q.home q.colour) c.enq-enq.ensures.same ∙ ap kind_opened (sym c.in-Queue.is),
  c.enq-enq.ensures.queue,
)

pub returns-clause-gives : goal.returns-clause-gives
returns-clause-gives g c =
    let e = c.enq-enq.ensures in
    gives_said c.args.store.now c.args.client.now c.enq-enq.new.client e.client c.args.opened.now
    (opened.Queue c.enq-enq.new.self) (returns-clause-stays g c).0 c.enq-enq.result c.appended.result
    c.appended.ensures (kinds.Queue c.in-Queue.queue.home c.in-Queue.queue.colour) (λ object. whats.Enq object c.args.value)
    Listed (form_text (forms.Enqueue c.args.value)) (c.in-Queue.queue.colour ∷ []) (Some c.in-Queue.queue.home)
    (record { uses = λ object. refl; appends = λ object. refl; said = λ object. refl }) (ap kind_opened c.in-Queue.is) refl refl
    (λ set one. one) (told_home c.args.client.now c.in-Queue.queue.home c.enq-enq.result e.away) e.ok e.err
