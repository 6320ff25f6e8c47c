use Rattle.std.proofs.Common.{◌≡◌, ◌-◌, length, arith, sym, ap, ◌∙◌}
use Rattle.log_node.specs.Standings.{line_of}
use Rattle.skeen_core.specs.Queues.{dropped_queue}
use Rattle.skeen_core.proofs.Stored.{line-queued, queued-dropped}
use Rattle.skeen_core.proofs.queue.Queue.drop_to.Goals as goal

pub drain-requires-clause-in_bounds : goal.drain-requires-clause-in_bounds
drain-requires-clause-in_bounds g c =
    let i = c.self.inside in
    let line : line_of c.args.self.now.entries ≡ i.line.items = ap (λ q. line_of q.entries) (sym c.self.view_is)
    ∙ line-queued c.self.invariant in
    omega (arith, ap length line, i.line.ok.0, i.kept.ok.0)

pub returns : goal.returns
returns g c =
    let i = c.self.inside in
    let line : line_of c.args.self.now.entries ≡ i.line.items = ap (λ q. line_of q.entries) (sym c.self.view_is)
    ∙ line-queued c.self.invariant in
    let kept = c.drop.ensures.items ∙ c.drain.ensures.kept in
    let below = c.saturating_sub-below.result in
    let is : below ≡ c.args.base - (length i.line.items - length i.kept.items) = omega
    (arith, i.line.ok.0, i.kept.ok.0) in
    rw kept
    (queued-dropped i.clock i.spare i.line.items i.kept.items i.waiting.items c.args.base below c.self.invariant.fewer
    (omega (arith, ap length line)) is
    ∙ ap (dropped_queue c.args.base) c.self.view_is)
