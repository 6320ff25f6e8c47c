use Rattle.std.proofs.Common.{◌≡◌, map}
use Rattle.run_script.specs.declared.serving.served.Served.{Served}
use Rattle.run_script.proofs.serving.running.parted.Given as goal

-- the clients and the replies so far
abbrev pub invariant-loop-one : goal.invariant-loop-one
invariant-loop-one l = record {
  clients_are : l.clients.items ≡ map (λ (x : Served). x.client) l.yielded;
  replies_are : l.replies.items ≡ map (λ (x : Served). x.replies.items) l.yielded;
}
