use Rattle.std.proofs.Common.{◌++◌, ◌+◌, ◌∷◌, [], sym, ap, ◌∙◌, arith}
use Rattle.skeen_core.specs.declared.waiting.Waiting.{Waiting}
use Rattle.log_node.specs.Standings.{line_of}
use Rattle.skeen_core.specs.Queues.{has_id, entered_queue}
use Rattle.skeen_core.specs.Inside.{ready_keys}
use Rattle.skeen_core.proofs.Delivering.{queued-delivered}
use Rattle.skeen_core.proofs.Stored.{line-queued}
use Rattle.skeen_core.proofs.Adding.{queue-added, view-added, line-still}
use Rattle.skeen_core.proofs.queue.Queue.add.Goals as goal

pub invariant_of-self : goal.invariant_of-self
invariant_of-self g c =
    let i = c.self.inside in
    let w : Waiting g.row.T.Denot = record {
      key = record { stamp = c.max-stamp.result + 1; id = c.args.id };
      settled
          = c.args.settled;
      thing = c.args.thing;
    } in
    let line = c.take_in.ensures.line in
    let kept = c.take_in.ensures.kept in
    let waiting = c.take_in.ensures.waiting in
    let fresh = ap (λ q. has_id c.args.id q.entries) c.self.view_is ∙ c.requires.fresh in
    let clock = ap (λ q. q.clock) c.self.view_is in
    let spare = ap (λ q. q.spare) c.self.view_is in
    rw (line, kept, waiting)
    (queue-added w _ _ _ c.self.invariant (omega (arith, spare)) (omega (arith, clock))
    (omega (arith, clock, c.requires.stamp)) fresh
    (omega arith) (omega arith) (omega arith))

pub returns-clause-queue : goal.returns-clause-queue
returns-clause-queue g c =
    let i = c.self.inside in
    let w : Waiting g.row.T.Denot = record {
      key = record { stamp = c.max-stamp.result + 1; id = c.args.id };
      settled
          = c.args.settled;
      thing = c.args.thing;
    } in
    let line = c.take_in.ensures.line in
    let kept = c.take_in.ensures.kept in
    let waiting = c.take_in.ensures.waiting in
    let clock = ap (λ q. q.clock) c.self.view_is in
    rw (line, kept, waiting) (view-added w c.self.invariant (omega (arith, clock))
    ∙ ap (entered_queue w) c.self.view_is)

pub returns-clause-line : goal.returns-clause-line
returns-clause-line g c =
    let i = c.self.inside in
    let w : Waiting g.row.T.Denot = record {
      key = record { stamp = c.max-stamp.result + 1; id = c.args.id };
      settled
          = c.args.settled;
      thing = c.args.thing;
    } in
    let more = ready_keys (i.waiting.items ++ w ∷ []) in
    let old = sym (line-queued c.self.invariant) ∙ ap (λ q. line_of q.entries) c.self.view_is in
    (more, line-queued (invariant_of-self g c) ∙ c.take_in.ensures.line ∙ ap (λ ks. ks ++ more) old)

pub returns-clause-still : goal.returns-clause-still
returns-clause-still g c first =
    let i = c.self.inside in
    let w : Waiting g.row.T.Denot = record {
      key = record { stamp = c.max-stamp.result + 1; id = c.args.id };
      settled
          = c.args.settled;
      thing = c.args.thing;
    } in
    let line = c.take_in.ensures.line in
    let waiting = c.take_in.ensures.waiting in
    let fresh = ap (λ q. has_id c.args.id q.entries) c.self.view_is ∙ c.requires.fresh in
    let clock = ap (λ q. q.clock) c.self.view_is in
    let more = queued-delivered w.key.stamp i.spare i.line.items i.kept.items (i.waiting.items ++ w ∷ [])
    c.self.invariant.fewer in
    rw (line, waiting)
    (ap (λ q. line_of q.entries) more ∙ line-still w c.self.invariant (omega (arith, clock)) fresh first
    ∙ ap (λ q. line_of q.entries) c.self.view_is)
