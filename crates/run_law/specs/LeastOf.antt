-- Which of the first rules of a lawful run a report is the first to break.
use Rattle.std.specs.Prelude.{ℕ, ◌≤◌, Option, Some, None}
use Rattle.script_text.specs.declared.script.Script.{Script}
use Rattle.report_text.specs.declared.report.Report.{Report}
use Rattle.run_rules.specs.Keeping.{Keeps, IsLeastBroken}
use Rattle.walk_law.specs.Walking.{MayWalk}
use Rattle.run_law.specs.declared.judging.Begun.{Begun}
use Rattle.run_law.specs.declared.judging.Begun.TheVariants as begun

-- the least that is broken of the rules up to this number; none where all of these are kept
abbrev pub IsLeastOf : ℕ → Script → Report → Option ℕ → Type 0
IsLeastOf n script report None = Keeps script report n
IsLeastOf n script report (Some rule) = (rule ≤ n) × IsLeastBroken script report rule

-- one of the first three is the least that is broken, or they are kept, and these are the tracks
abbrev pub BeginsSo : Script → Report → Begun → Type 0
BeginsSo script report (begun.Broken rule) = IsLeastOf 9 script report (Some rule)
BeginsSo script report (begun.Kept tracks) = MayWalk script report tracks
