use Rattle.std.proofs.Common.{take}
use Rattle.std.specs.List.{All}
use Rattle.object_law.specs.Showing.{SaysShown}
use Rattle.object_law.proofs.showing.all_say_shown.Given as goal

-- all so far
abbrev pub invariant-loop-node : goal.invariant-loop-node
invariant-loop-node l = All (SaysShown l.decided l.texts) (take l.node-index l.nodes)
