use Rattle.std.proofs.Common.{sym, ap, ◌∙◌}
use Rattle.std.specs.Prelude.{map}
use Rattle.log_node.specs.Standings.{queue_of}
use Rattle.skeen_core.specs.Queues.{waiting_entries, standing_of}
use Rattle.skeen_core.proofs.Stored.{waiting-queued}
use Rattle.skeen_core.proofs.Delivery.{queue-is}
use Rattle.skeen_core.proofs.queue.Queue.waiting.Goals as goal

pub returns-clause-value : goal.returns-clause-value
returns-clause-value g c = c.as_slice.ensures.value ∙ sym (waiting-queued c.self.invariant)
    ∙ ap waiting_entries c.self.view_is

pub returns-clause-entries : goal.returns-clause-entries
returns-clause-entries g c =
    let i = c.self.inside in
    ap (map standing_of) c.as_slice.ensures.value
    ∙ sym (queue-is i.line.items i.waiting.items c.self.invariant.entries.rising c.self.invariant.front)
    ∙ ap (λ q. queue_of q.entries) c.self.view_is
