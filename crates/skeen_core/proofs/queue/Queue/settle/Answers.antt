use Rattle.std.proofs.Common.{◌++◌, max, length, sym, ap, subst, ◌∙◌, arith}
use Rattle.std.specs.Prelude.{◌&&◌, map}
use Rattle.std.specs.List.{list_any}
use Rattle.std.proofs.lemmas.Bool.{and_parts}
use Rattle.log_node.specs.declared.limits.TheConstants.{MAX_STAMP}
use Rattle.log_node.specs.Standings.{line_of}
use Rattle.skeen_core.specs.Queues.{MaySettle, standing_of, has_open, is_decided, settled_queue}
use Rattle.skeen_core.specs.Inside.{final_at, ready_keys, ready_things, left}
use Rattle.skeen_core.proofs.Entries.{rising-right, apart-right}
use Rattle.skeen_core.proofs.Settling.{opens, open-waits}
use Rattle.skeen_core.proofs.Settled.{queue-settled, view-settled}
use Rattle.skeen_core.proofs.Stored.{line-queued}
use Rattle.skeen_core.proofs.queue.Queue.settle.Goals as goal

pub settle_entry-requires-clause-rising : goal.settle_entry-requires-clause-rising
settle_entry-requires-clause-rising g c = let i = c.self.inside in
    rising-right (map final_at i.line.items) (map standing_of i.waiting.items) c.self.invariant.entries.rising

pub settle_entry-requires-clause-apart : goal.settle_entry-requires-clause-apart
settle_entry-requires-clause-apart g c = let i = c.self.inside in
    apart-right (map final_at i.line.items) (map standing_of i.waiting.items) c.self.invariant.entries.apart

pub returns-then-not-settle_entry-clause-answer : goal.returns-then-not-settle_entry-clause-answer
returns-then-not-settle_entry-clause-answer g c =
    let i = c.self.inside in
    let any = sym (open-waits c.args.id i.line.items i.waiting.items)
    ∙ ap (λ q. has_open c.args.id q.entries) c.self.view_is in
    c.if-not-settle_entry.ensures.answer ∙ ap (λ b. b && is_decided c.args.outcome) any

pub returns-clause-answer : goal.returns-clause-answer
returns-clause-answer g c =
    let i = c.self.inside in
    let any = sym (open-waits c.args.id i.line.items i.waiting.items)
    ∙ ap (λ q. has_open c.args.id q.entries) c.self.view_is in
    c.if-not-settle_entry.ensures.answer ∙ ap (λ b. b && is_decided c.args.outcome) any

pub invariant_of-self-2 : goal.invariant_of-self-2
invariant_of-self-2 g c =
    let i = c.self.inside in
    let id = c.args.id in
    let outcome = c.args.outcome in
    let items = c.if-not-settle_entry.ensures.items in
    let some = (and_parts (list_any (opens id) i.waiting.items) (is_decided outcome)
    (sym c.if-not-settle_entry.ensures.answer)).0 in
    let may = subst (λ es. MaySettle id outcome es MAX_STAMP) (sym (ap (λ q. q.entries) c.self.view_is)) c.requires in
    let clock = c.max-self-inside.ensures ∙ ap (max i.clock) c.final_number.ensures in
    let line = c.deliver.ensures.line ∙ ap (λ ws. i.line.items ++ ready_keys ws) items in
    let kept = c.deliver.ensures.kept ∙ ap (λ ws. i.kept.items ++ ready_things ws) items in
    let waiting = c.deliver.ensures.waiting ∙ ap left items in
    rw (clock, line, kept, waiting)
    (queue-settled id outcome _ _ _ c.self.invariant some may
    (omega (arith, ap length items, i.waiting.ok.0, c.settle_entry.new.waiting.ok.0)) (omega arith) (omega arith)
    (omega arith))

pub returns-clause-queue : goal.returns-clause-queue
returns-clause-queue g c =
    let i = c.self.inside in
    let id = c.args.id in
    let outcome = c.args.outcome in
    let items = c.if-not-settle_entry.ensures.items in
    let some = (and_parts (list_any (opens id) i.waiting.items) (is_decided outcome)
    (sym c.if-not-settle_entry.ensures.answer)).0 in
    let may = subst (λ es. MaySettle id outcome es MAX_STAMP) (sym (ap (λ q. q.entries) c.self.view_is)) c.requires in
    let clock = c.max-self-inside.ensures ∙ ap (max i.clock) c.final_number.ensures in
    let line = c.deliver.ensures.line ∙ ap (λ ws. i.line.items ++ ready_keys ws) items in
    let kept = c.deliver.ensures.kept ∙ ap (λ ws. i.kept.items ++ ready_things ws) items in
    let waiting = c.deliver.ensures.waiting ∙ ap left items in
    rw (clock, line, kept, waiting) (view-settled id outcome c.self.invariant some may
    ∙ ap (settled_queue id outcome) c.self.view_is)

pub returns-clause-line : goal.returns-clause-line
returns-clause-line g c =
    let more = ready_keys c.settle_entry.new.waiting.items in
    let old = sym (line-queued c.self.invariant) ∙ ap (λ q. line_of q.entries) c.self.view_is in
    (more, line-queued (invariant_of-self-2 g c) ∙ c.deliver.ensures.line ∙ ap (λ ks. ks ++ more) old)
