use Rattle.std.proofs.Common.{◌≡◌, ◌<◌, ℕ, None}
use Rattle.walk_law.specs.Playing.{free_head, lines_of}
use Rattle.object_law.proofs.causal_plays.next_fed.Given as goal

-- no node of the regions that were looked at may be fed
abbrev pub invariant-loop-region : goal.invariant-loop-region
invariant-loop-region l = (r : ℕ) → r < l.region → free_head (lines_of l.subject l.colour) l.counts l.to r ≡ None
