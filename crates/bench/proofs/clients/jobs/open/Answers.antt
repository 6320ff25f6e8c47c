use Rattle.std.proofs.Common.{◌∙◌, ◌-◌, ap, refl, take}
use Rattle.bench.proofs.NewClients.{front_rests, last_rests}
use Rattle.bench.proofs.clients.jobs.open.Goals as goal

pub returns-clause-clients : goal.returns-clause-clients
returns-clause-clients c =
    let all = c.into_vec-clients.result in
    front_rests _ c.in_ok-store.store c.in_ok-store.clients c.in_ok-store.ensures.clients (all.len - 1) c.pop.new.self.items
    (c.in-Some.ensures.rest ∙ ap (take (all.len - 1)) c.into_vec-clients.ensures)

pub returns-clause-away : goal.returns-clause-away
returns-clause-away c =
    let all = c.into_vec-clients.result in
    last_rests _ c.in_ok-store.store c.in_ok-store.clients c.in_ok-store.ensures.clients all.len all.items c.in-Some.away
    c.into_vec-clients.ensures all.ok.0 (c.in-Some.ensures.variant.0 refl) (c.in-Some.ensures.value c.in-Some.away
    (c.in-Some.ensures.variant.0 refl))
