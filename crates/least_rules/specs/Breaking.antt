-- Which rule of a lawful run is the least that a report breaks.
use Rattle.std.specs.Prelude.{ℕ}
use Rattle.run_rules.specs.Keeping.{IsLeastBroken}
use Rattle.wrong_reports.specs.Cases.{Case}

-- The report keeps the rules before this one, and breaks this one.
abbrev pub Breaks : Case → ℕ → Type 0
Breaks case rule = IsLeastBroken case.script case.report rule
