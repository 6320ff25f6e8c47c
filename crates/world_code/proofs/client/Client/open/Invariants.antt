use Rattle.std.proofs.Common.{◌≡◌, replicate}
use Rattle.log_node.specs.Vectors.{zeros}
use Rattle.world_code.proofs.client.Client.open.Given as goal

-- zeros so far
abbrev pub invariant-loop : goal.invariant-loop
invariant-loop l = l.played.items ≡ replicate l.counter zeros
