use Rattle.std.proofs.Common.{List, sym, subst}
use Rattle.std.specs.List.{All}
use Rattle.log_client.specs.declared.client.Client.{Client}
use Rattle.log_client.specs.Clients.{IsClient}
use Rattle.example_lock.proofs.Opening.{all_rest}
use Rattle.example_lock.proofs.open.Goals as goal

pub returns-clause-clients : goal.returns-clause-clients
returns-clause-clients c =
    subst (λ (clients : List Client). All (IsClient c.in_ok-store.store) clients) (sym c.into_vec.ensures)
    (all_rest _ c.in_ok-store.store c.in_ok-store.clients c.in_ok-store.ensures.clients)
