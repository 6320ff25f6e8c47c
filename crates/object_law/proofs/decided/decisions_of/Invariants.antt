use Rattle.std.specs.List.{All}
use Rattle.object_law.specs.Decided.{AreDecidedTo, IsDecidedPlay}
use Rattle.object_law.specs.PartAnswers.{IfThere}
use Rattle.object_law.proofs.decided.decisions_of.Given as goal

-- the decisions so far say what they say, and the parts that were played stand so
abbrev pub invariant-loop-at : goal.invariant-loop-at
invariant-loop-at l =
    AreDecidedTo l.subject l.all.items l.at l.decisions × All (IfThere (IsDecidedPlay l.subject)) l.plays.parts.items
