use Rattle.std.specs.List.{All}
use Rattle.object_law.specs.Decided.{IsDecidedPlay}
use Rattle.object_law.specs.PartAnswers.{IfThere}
use Rattle.object_law.proofs.decided_plays.DecidedPlays.new.Given as goal

-- nothing is played so far
abbrev pub invariant-loop : goal.invariant-loop
invariant-loop l = All (IfThere (IsDecidedPlay l.subject)) l.parts.items
