use Rattle.std.proofs.Common.{◌≡◌, ◌<◌, ◌++◌}
use Rattle.std.specs.List.{All}
use Rattle.log_node.specs.declared.limits.TheConstants.{MAX_COLOURS}
use Rattle.log_node.specs.Sets.{members}
use Rattle.world_code.specs.Clients.{played_of}
use Rattle.world_code.proofs.client.Client.played_of.Given as goal

-- what is there, and what is left
abbrev pub invariant-loop-colour : goal.invariant-loop-colour
invariant-loop-colour l = record {
  played : l.wants ++ played_of l.self l.colour-iterator ≡ played_of l.self (members l.fn.colours);
  low : All (λ c. c < MAX_COLOURS) l.colour-iterator;
}
