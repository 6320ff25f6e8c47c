-- There is one verdict on a text.
use Rattle.std.specs.Prelude.{◌≡◌, ℕ, List}
use Rattle.run_check.specs.declared.verdict.Verdict.{Verdict}
use Rattle.run_check.specs.declared.verdict.Verdict.TheVariants.{NoScript}
use Rattle.run_check.specs.Verdicts.{IsVerdict}

-- the same is said; that there is no script, whichever line is blamed
abbrev pub SaySame : Verdict → Verdict → Type 0
SaySame (NoScript line why) (NoScript other because) = Unit {0}
SaySame a b = a ≡ b

-- Of one text no two verdicts are right.
abbrev pub OneVerdict : Type 0
OneVerdict = (bytes : List ℕ) (a b : Verdict) → IsVerdict bytes a → IsVerdict bytes b → SaySame a b
