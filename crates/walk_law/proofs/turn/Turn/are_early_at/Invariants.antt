use Rattle.std.proofs.Common.{take}
use Rattle.std.specs.List.{All}
use Rattle.walk_law.specs.Seventh.{IsEarlyAt}
use Rattle.walk_law.specs.Walking.{journal_walked}
use Rattle.walk_law.proofs.turn.Turn.are_early_at.Given as goal

-- at all places so far
abbrev pub invariant-loop-place : goal.invariant-loop-place
invariant-loop-place l =
    All (IsEarlyAt (journal_walked l.subject l.region l.colour) l.self.n l.self.k l.self.steps) (take l.place-index l.places)
