use Rattle.std.proofs.Common.{List}
use Rattle.object_fold.specs.Maps.{value_among}
use Rattle.object_fold.specs.Nodes.{ObjectNode}
use Rattle.object_law.specs.AmongMaps.{IsAmongMap}
use Rattle.object_law.proofs.AnswerLemmas.{AnswerFirst}
use Rattle.object_law.proofs.several_plays.are_values.Given as goal

-- the answers so far are those to the keys
abbrev pub invariant-loop-at : goal.invariant-loop-at
invariant-loop-at l = (nodes : List ObjectNode) → IsAmongMap l.map nodes
    → AnswerFirst (value_among l.map.colours nodes) l.asked l.shown l.at
