-- New clients of a store, of whom the last was taken off.
use Rattle.std.proofs.Common.{◌≡◌, ℕ, ◌-◌, ◌<◌, List, length, take, Some, sym, subst, arith}
use Rattle.std.specs.Prelude.{slice_index_or}
use Rattle.std.specs.List.{All}
use Rattle.std.proofs.lemmas.List.Elements.{All-take}
use Rattle.std.proofs.lemmas.Option.{get_or_from_slice_get}
use Rattle.chain_store.proofs.CallerLemmas.{got}
use Rattle.log_node.specs.declared.node.Shape.{Shape}
use Rattle.log_client.specs.declared.client.Client.{Client}
use Rattle.log_client.specs.declared.store.Store.{Store}
use Rattle.log_client.specs.Clients.{IsClient}
use Rattle.log_client.specs.Opening.{AreNewClients}

module _ (shape : Shape) (s : Store) (clients : List Client) (new : AreNewClients shape s clients) where
  pub all_rest : All (IsClient s) clients
  all_rest k d lt =
      let c = got clients k lt in
      subst (IsClient s) (sym (get_or_from_slice_get clients k c.0 d c.1)) (new.1 k c.0 c.1).rests

  pub front_rests : (n : ℕ) (front : List Client) → front ≡ take n clients → All (IsClient s) front
  front_rests n front is = subst (All (IsClient s)) (sym is) (All-take (IsClient s) n clients all_rest)

  pub last_rests : (n : ℕ) (items : List Client) (c : Client) → items ≡ clients → n ≡ length items → 0 < n
      → Some c ≡ Some (slice_index_or items (n - 1) c) → IsClient s c
  last_rests n items c same many some is =
      let at : c ≡ slice_index_or items (n - 1) c = cc (is) in
      let all : All (IsClient s) items = subst (All (IsClient s)) (sym same) all_rest in
      subst (IsClient s) (sym at) (all (n - 1) c (omega (arith, some, many)))
