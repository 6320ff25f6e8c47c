use Rattle.std.proofs.Common.{take}
use Rattle.std.specs.List.{All}
use Rattle.run_rules.specs.Naming.{Has}
use Rattle.walk_law.specs.Fourth.{IsOfKind}
use Rattle.walk_law.proofs.naming.have_all.Given as goal

-- all so far
abbrev pub invariant-loop-place : goal.invariant-loop-place
invariant-loop-place l = All (Has l.client l.journal (IsOfKind l.kind)) (take l.place-index l.places)
