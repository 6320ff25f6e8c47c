use Rattle.std.proofs.Common.{sym, ap, ◌∙◌}
use Rattle.log_node.specs.Standings.{line_of}
use Rattle.skeen_core.proofs.Stored.{line-queued}
use Rattle.skeen_core.proofs.queue.Queue.line.Goals as goal

pub returns : goal.returns
returns g c = c.as_slice.ensures.value ∙ sym (ap (λ q. line_of q.entries) (sym c.self.view_is)
    ∙ line-queued c.self.invariant)
