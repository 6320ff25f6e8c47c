use Rattle.std.proofs.Common.{◌≡◌, drop}
use Rattle.col_core.specs.Keeping.{seen_past}
use Rattle.walk_law.proofs.made.seen_past.Given as goal

abbrev pub invariant-loop-place : goal.invariant-loop-place
invariant-loop-place l = seen_past l.behind (drop l.place-index l.places) ≡ seen_past l.seen l.places
