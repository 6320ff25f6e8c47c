use Rattle.std.proofs.Common.{ℕ, ◌<◌}
use Rattle.walk_law.specs.Third.{AreRowsIn}
use Rattle.walk_law.proofs.ThirdLemmas.{IsFirst}
use Rattle.walk_law.proofs.third.are_rows.Given as goal

-- the regions so far have lawful rows, and the next one's begin here
abbrev pub invariant-loop-region : goal.invariant-loop-region
invariant-loop-region l =
    IsFirst l.report.rows l.region l.from × ((k : ℕ) → k < l.region → AreRowsIn l.script l.report k)
