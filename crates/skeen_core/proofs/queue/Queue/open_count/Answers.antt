use Rattle.std.proofs.Common.{length, sym, ap, ◌∙◌}
use Rattle.std.specs.Prelude.{not}
use Rattle.std.specs.List.{filter}
use Rattle.skeen_core.proofs.Stored.{open-waits}
use Rattle.skeen_core.proofs.queue.Queue.open_count.Goals as goal

pub returns : goal.returns
returns g c =
    let i = c.self.inside in
    c.open_in.ensures
    ∙ ap (λ ws. length (filter (λ w. not w.settled) ws)) c.as_slice.ensures.value
    ∙ sym (open-waits i.line.items i.waiting.items)
    ∙ ap (λ q. length (filter (λ e. not e.settled) q.entries)) c.self.view_is
