use Rattle.std.proofs.Common.{List}
use Rattle.std.specs.List.{All}
use Rattle.log_node.specs.declared.node.Node.{Node}
use Rattle.object_law.specs.PartAnswers.{IfThere, IsPartPlay, IsRuledPlay}
use Rattle.walk_law.specs.Walking.{Walked}
use Rattle.object_law.proofs.fourteenth.PartPlays.new.Given as goal

-- nothing is played so far
abbrev pub invariant-loop : goal.invariant-loop
invariant-loop l =
    (walked : Walked) (table : List (List Node)) → All (IfThere (IsPartPlay walked table)) l.parts.items
    × All (IfThere (IsRuledPlay walked table)) l.ruled.items
