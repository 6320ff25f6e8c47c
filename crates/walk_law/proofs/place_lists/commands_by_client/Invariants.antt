use Rattle.std.proofs.Common.{take}
use Rattle.walk_law.specs.PlaceTables.{AreOfClients}
use Rattle.walk_law.proofs.place_lists.commands_by_client.Given as goal

-- the commands so far
abbrev pub invariant-loop-at : goal.invariant-loop-at
invariant-loop-at l = AreOfClients l.clients (take l.at l.commands) l.lists
