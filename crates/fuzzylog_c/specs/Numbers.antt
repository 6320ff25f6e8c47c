-- The numbers by which a program in another language is told what is said of a report.
use Rattle.std.specs.Prelude.{◌≡◌, ℕ}
use Rattle.run_check.specs.declared.verdict.Verdict.{Verdict}
use Rattle.run_check.specs.declared.verdict.Verdict.TheVariants.{NoScript, Missing, TooLong, BadForm, Hidden, Broken, Lawful}

-- memory was refused
abbrev pub NO_MEMORY : ℕ
NO_MEMORY = 6

-- the kind and the number of what is said (no report is missing where one is handed in)
abbrev pub told_as : Verdict → ℕ × ℕ
told_as Lawful = (0, 0)
told_as (Broken rule) = (1, rule)
told_as (NoScript line why) = (2, line)
told_as TooLong = (3, 0)
told_as BadForm = (4, 0)
told_as (Hidden line) = (5, line)
told_as Missing = (7, 0)

-- it is told by these
abbrev pub IsTold : Verdict → ℕ → ℕ → Type 0
IsTold verdict kind number = told_as verdict ≡ (kind, number)
