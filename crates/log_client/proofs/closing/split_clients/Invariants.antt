use Rattle.std.proofs.Common.{◌≡◌, map}
use Rattle.log_client.specs.declared.client.Client.{Client}
use Rattle.log_client.specs.Leaving.{left_of}
use Rattle.log_client.specs.Clients.{holds_of}
use Rattle.log_client.proofs.closing.split_clients.Given as goal

-- the holds and the nodes so far
abbrev pub invariant-loop-client : goal.invariant-loop-client
invariant-loop-client l = record {
  holds : map left_of l.holds.items ≡ map holds_of l.yielded;
  nodes : l.nodes.items ≡ map (λ (c : Client). c.rows.items) l.yielded;
}
