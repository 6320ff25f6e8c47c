use Rattle.std.proofs.Common.{sym, subst, refl, List}
use Rattle.log_node.specs.declared.node.At.TheVariants.{Event}
use Rattle.log_node.specs.Seen.{PlacedNode}
use Rattle.object_fold.specs.States.{IsValueQueue}
use Rattle.object_fold.specs.Folds.{FoldsFirst}
use Rattle.log_client.specs.Clients.{own_line}
use Rattle.log_client.proofs.CallerLemmas.{rests_synced}
use Rattle.log_queue.proofs.QueueAnswers.{deq_answered, deq_unfolded, deq_unread, front_so, one_point, queue_later}
use Rattle.log_queue.proofs.queue.LogQueue.read_own.Goals as goal

pub front-requires : goal.front-requires
front-requires g c =
    subst (λ (l : List PlacedNode). FoldsFirst l c.args.self.now.kept.count (IsValueQueue c.args.self.now.kept.state))
    (sym c.line.ensures)
    (queue_later c.args.store.now c.args.client.now c.sync.new.self c.args.self.now c.requires.client
    (let e = c.sync.ensures in rests_synced c.args.store.now c.args.client.now c.sync.new.self e.client e.same e.goes e.grows
    e.finished) c.requires.queue).folds

pub returns-in-Ok-front-clause-answer : goal.returns-in-Ok-front-clause-answer
returns-in-Ok-front-clause-answer g c before is on of stands =
    let e = c.in-Ok.ensures in
    let p = one_point c.args.appended c.args.self.now.colour stands.points in
    deq_answered c.args.store.now before c.args.client.now c.sync.new.self c.args.self.now.colour c.args.appended is on
    (rests_synced c.args.store.now c.args.client.now c.sync.new.self e.client e.same e.goes e.grows e.finished) stands
    c.args.self.now.kept.count of.colour of.folds.0 c.in-Ok.synced e.answer e.ok c.in-Ok-front.value p.0 p.1 p.2
    (front_so c.args.self.now.kept.count c.as_slice.result.now c.args.appended.stood.points
    (record { colour = 0; at = Event 0; position = 0 }) p.0 c.line.result.now
    (own_line c.sync.new.self c.args.self.now.colour) c.in-Ok-front.value c.as_slice.ensures p.1 c.line.ensures
    c.in-Ok-front.ensures.value)

pub returns-in-Err-front-clause-answer : goal.returns-in-Err-front-clause-answer
returns-in-Err-front-clause-answer g c before is on of stands =
    let e = c.in-Ok.ensures in
    deq_unfolded c.args.store.now before c.args.client.now c.sync.new.self c.args.self.now.colour c.args.appended is on
    (rests_synced c.args.store.now c.args.client.now c.sync.new.self e.client e.same e.goes e.grows e.finished) stands
    c.args.self.now.home c.args.appended.stood.key.stamp c.in-Ok.synced refl e.ok

pub returns-in-Err-clause-queue : goal.returns-in-Err-clause-queue
returns-in-Err-clause-queue g c =
    queue_later c.args.store.now c.args.client.now c.sync.new.self c.args.self.now c.requires.client
    (let e = c.sync.ensures in rests_synced c.args.store.now c.args.client.now c.sync.new.self e.client e.same e.goes e.grows
    e.finished) c.requires.queue

pub returns-in-Err-clause-answer : goal.returns-in-Err-clause-answer
returns-in-Err-clause-answer g c before is on of stands =
    let e = c.in-Err.ensures in
    deq_unread c.args.store.now before c.args.client.now c.sync.new.self c.args.self.now.colour c.args.appended is on
    (rests_synced c.args.store.now c.args.client.now c.sync.new.self e.client e.same e.goes e.grows e.finished) stands
    c.args.self.now.home c.args.appended.stood.key.stamp c.in-Err.why refl e.err
