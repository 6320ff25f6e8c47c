use Rattle.std.proofs.Common.{◌-◌, drop, length, sym, ap, ◌∙◌}
use Rattle.std.specs.Prelude.{map}
use Rattle.log_node.specs.Standings.{line_of}
use Rattle.skeen_core.specs.Queues.{kept_entries}
use Rattle.skeen_core.proofs.Stored.{line-queued, kept-queued, left-of, things-with_things, keys-with_things}
use Rattle.skeen_core.proofs.queue.Queue.kept.Goals as goal

pub returns-clause-things : goal.returns-clause-things
returns-clause-things g c =
    let i = c.self.inside in
    let base = length i.line.items - length i.kept.items in
    c.as_slice.ensures.value
    ∙ sym (things-with_things (drop base i.line.items) i.kept.items
    (left-of i.line.items i.kept.items c.self.invariant.fewer))
    ∙ ap (map (λ w. w.thing)) (sym (kept-queued c.self.invariant) ∙ ap kept_entries c.self.view_is)

pub returns-clause-keys : goal.returns-clause-keys
returns-clause-keys g c =
    let i = c.self.inside in
    let base = length i.line.items - length i.kept.items in
    ap (map (λ w. w.key)) (ap kept_entries (sym c.self.view_is) ∙ kept-queued c.self.invariant)
    ∙ keys-with_things (drop base i.line.items) i.kept.items (left-of i.line.items i.kept.items c.self.invariant.fewer)
    ∙ ap (λ ks. drop base ks) (sym (line-queued c.self.invariant))
    ∙ ap (λ q. drop q.base (line_of q.entries)) c.self.view_is
