use Rattle.log_client.specs.Calls.{AnswersSync}
use Rattle.log_client.proofs.CallerLemmas.{answer_from, rests_then}
use Rattle.log_node.proofs.CallerLemmas.{ok_then}
use Rattle.log_queue.proofs.QueueAnswers.{queue_later}
use Rattle.log_queue.proofs.queue.LogQueue.deq.Goals as goal

pub read_own-requires-clause-queue : goal.read_own-requires-clause-queue
read_own-requires-clause-queue g c =
    queue_later c.args.store.now c.args.client.now c.append_form_to.new.self c.args.self.now c.requires.client
    c.append_form_to.ensures.client c.requires.queue

pub returns-in-Ok-clause-client : goal.returns-in-Ok-clause-client
returns-in-Ok-clause-client g c =
    rests_then c.args.store.now c.args.client.now c.append_form_to.new.self c.read_own.new.client
    c.append_form_to.ensures.client c.read_own.ensures.client

pub returns-in-Err-clause-queue : goal.returns-in-Err-clause-queue
returns-in-Err-clause-queue g c =
    queue_later c.args.store.now c.args.client.now c.append_form_to.new.self c.args.self.now c.requires.client
    c.append_form_to.ensures.client c.requires.queue

pub returns-in-Ok-clause-played : goal.returns-in-Ok-clause-played
returns-in-Ok-clause-played g c =
    let before = c.append_form_to.ensures in
    let x = c.args.client.now in
    let m = c.append_form_to.new.self in
    let d = c.read_own.new.client in
    let colour = c.args.self.now.colour in
    ok_then c.read_own.result (λ r. AnswersSync m d colour r.2) (λ r. AnswersSync x d colour r.2)
    (λ r a. answer_from x m d colour r.2 before.client.same.1 before.plays a) c.read_own.ensures.played
