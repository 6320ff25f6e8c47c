use Rattle.std.proofs.Common.{◌<◌, ℕ}
use Rattle.walk_law.specs.Fifth.{EntersItsOwn}
use Rattle.walk_law.proofs.fifth.enter_their_own.Given as goal

-- the clients so far do
abbrev pub invariant-loop-client : goal.invariant-loop-client
invariant-loop-client l = (k : ℕ) → k < l.client → EntersItsOwn l.subject.script l.subject.report k
