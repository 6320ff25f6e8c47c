use Rattle.std.proofs.Common.{◌≡◌, take, length}
use Rattle.walk_law.specs.Proposals.{StandFrom, carried_by, line_heads}
use Rattle.walk_law.proofs.copies.copied.Given as goal

-- what was carried so far is the beginning
abbrev pub invariant-loop-entry : goal.invariant-loop-entry
invariant-loop-entry l =
    (l.held ≡ length (carried_by l.origin (take l.entry-index l.copier)))
    × StandFrom (line_heads l.origin l.journal) 0 (carried_by l.origin (take l.entry-index l.copier))
