use Rattle.std.proofs.Common.{List}
use Rattle.std.specs.List.{All}
use Rattle.log_node.specs.declared.node.Node.{Node}
use Rattle.object_law.specs.PartAnswers.{IfThere}
use Rattle.object_law.specs.TreePlays.{IsTreePlay}
use Rattle.walk_law.specs.Walking.{Walked}
use Rattle.object_law.proofs.thirteenth.TreePlays.new.Given as goal

-- nothing is played so far
abbrev pub invariant-loop : goal.invariant-loop
invariant-loop l = (walked : Walked) (table : List (List Node)) → All (IfThere (IsTreePlay walked table)) l.plays.items
