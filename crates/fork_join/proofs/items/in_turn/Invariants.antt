use Rattle.std.proofs.Common.{ℕ, ◌+◌, ◌<◌, ◌≤◌, ◌≡◌, length}
use lib.ListN.{get_or}
use Rattle.std.specs.Fork.{ChangesAt}
use Rattle.fork_join.proofs.items.in_turn.Given as goal

-- The items from the place on are as at first, and each before it is what a call left.
abbrev pub invariant-loop-place : goal.invariant-loop-place
invariant-loop-place g l =
    (length l.items ≡ length l.initial.items)
    × ((k : ℕ) (d : g.row.T.Denot) → l.place ≤ k → get_or l.items k d ≡ get_or l.initial.items k d)
    × ((k : ℕ) (d : g.row.T.Denot) → k < l.place → ChangesAt g.F.Fn l.f (l.base + k) (get_or l.initial.items k d) (get_or l.items k d))
