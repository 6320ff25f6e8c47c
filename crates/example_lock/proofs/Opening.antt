-- New clients of a store rest beside it.
use Rattle.std.proofs.Common.{List, sym, subst}
use Rattle.std.specs.List.{All}
use Rattle.std.proofs.lemmas.Option.{get_or_from_slice_get}
use Rattle.chain_store.proofs.CallerLemmas.{got}
use Rattle.log_node.specs.declared.node.Shape.{Shape}
use Rattle.log_client.specs.declared.client.Client.{Client}
use Rattle.log_client.specs.declared.store.Store.{Store}
use Rattle.log_client.specs.Clients.{IsClient}
use Rattle.log_client.specs.Opening.{AreNewClients}

pub all_rest : (shape : Shape) (s : Store) (clients : List Client) → AreNewClients shape s clients → All (IsClient s) clients
all_rest shape s clients new k d lt =
    let c = got clients k lt in
    subst (IsClient s) (sym (get_or_from_slice_get clients k c.0 d c.1)) (new.1 k c.0 c.1).rests
