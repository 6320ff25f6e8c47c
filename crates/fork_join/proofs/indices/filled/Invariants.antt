use Rattle.std.proofs.Common.{ℕ, ◌<◌, ◌≡◌, length}
use lib.ListN.{get_or}
use Rattle.std.specs.Fn.{FnReturns}
use Rattle.fork_join.proofs.indices.filled.Given as goal

-- a value for each place so far, each of which a call with its number gave
abbrev pub invariant-loop-place : goal.invariant-loop-place
invariant-loop-place g l =
    (l.number ≡ length l.yielded) × (length l.values.items ≡ l.number)
    × ((i : ℕ) (d : g.row.X.Denot) → i < l.number → FnReturns g.F.Fn l.f (i, tt) (get_or l.values.items i d))
