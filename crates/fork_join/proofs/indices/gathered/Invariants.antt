use Rattle.std.proofs.Common.{◌≡◌, length}
use Rattle.fork_join.specs.Given.{AreGiven}
use Rattle.fork_join.proofs.indices.gathered.Given as goal

-- what stands in the places so far
abbrev pub invariant-loop-list : goal.invariant-loop-list
invariant-loop-list g l = (length l.places.items ≡ l.fn.count) × AreGiven g.F.Fn l.fn.f l.places.items

abbrev pub invariant-loop-given : goal.invariant-loop-given
invariant-loop-given g l = (length l.places.items ≡ l.fn.count) × AreGiven g.F.Fn l.fn.f l.places.items
