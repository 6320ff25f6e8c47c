use Rattle.std.proofs.Common.{take}
use Rattle.std.specs.List.{All}
use Rattle.walk_law.specs.Fourth.{MayHelp}
use Rattle.walk_law.proofs.helpers.are_helpers_in.Given as goal

-- all so far
abbrev pub invariant-loop-entry : goal.invariant-loop-entry
invariant-loop-entry l = All (MayHelp l.subject.script l.region) (take l.entry-index l.journal)
