use Rattle.std.proofs.Common.{◌≡◌, map, take}
use Rattle.object_law.specs.Unnamed.{unnamed_to}
use Rattle.object_law.proofs.finds.Finds.unnamed.Given as goal

-- those of the clients so far
abbrev pub invariant-loop-client : goal.invariant-loop-client
invariant-loop-client l = l.clients.items ≡ map unnamed_to (take l.client-index l.shown)
