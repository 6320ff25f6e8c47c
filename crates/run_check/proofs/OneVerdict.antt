-- Of one text no two verdicts are right.
use Rattle.std.proofs.Common.{◌≡◌, refl, sym, ap, subst, ◌∙◌, ℕ, ◌<◌, ◌≤◌, List, length, take, drop, Option, Some, None, arith}
use Rattle.script_text.specs.declared.script.Script.{Script}
use Rattle.report_text.specs.declared.report.ReplyLine.{ReplyLine}
use Rattle.report_text.specs.declared.report.Report.{Report}
use Rattle.report_text.specs.ReportText.{report_bytes}
use Rattle.report_reading.specs.Meant.{IsReportOf}
use Rattle.lawful_run.specs.Lawful.{LawfulRun}
use Rattle.run_rules.specs.Keeping.{HidesNothing, IsLeastBroken}
use Rattle.run_rules.specs.Laws.{LeastIsOne}
use Rattle.run_check.specs.declared.checking.TheConstants.{MAX_REPORT}
use Rattle.run_check.specs.declared.verdict.Verdict.{Verdict}
use Rattle.run_check.specs.declared.verdict.Verdict.TheVariants.{NoScript, Missing, TooLong, BadForm, Hidden, Broken, Lawful}
use Rattle.run_check.specs.Laws.{OneVerdict, SaySame}
use Rattle.run_check.specs.Verdicts.{HidesAt, IsTheReport, IsVerdictFrom, IsVerdictOf, OfReport, OfText, report_start}

none_some : (given : Option (List ℕ)) (text : List ℕ) → given ≡ None → given ≡ Some text → ⊥
none_some given text none some = let f : ⊥ = cc (none, some) in f

same_text : (given : Option (List ℕ)) (a b : List ℕ) → given ≡ Some a → given ≡ Some b → a ≡ b
same_text given a b is too = let e : Some a ≡ Some b = sym is ∙ too in cc (e)

-- what two verdicts say is of one script and one text
module _ (before : List ℕ) (given : Option (List ℕ)) (P Q : Script → List ℕ → Type 0) where
  of_both : OfText before given P → OfText before given Q → (script : Script) × (text : List ℕ) × P script text × Q script text
  of_both a b = (
    a.0,
    a.1,
    a.4,
    subst (λ (text : List ℕ). Q a.0 text) (same_text given b.1 a.1 b.3 a.3)
        (subst (λ (script : Script). Q script b.1) (b.2.only a.0 a.2.is) b.4),
  )

-- what is said of a text's report
abbrev InReport : (Script → Report → Type 0) → Script → List ℕ → Type 0
InReport P script text =
    (report : Report) × (length text ≤ MAX_REPORT) × IsTheReport script text report × P script report

-- and of one report
module _ (before : List ℕ) (given : Option (List ℕ)) (P Q : Script → Report → Type 0) where
  of_reports : OfReport before given P → OfReport before given Q → (script : Script) × (report : Report) × P script report × Q script report
  of_reports a b =
      let both = of_both before given (InReport P) (InReport Q) a b in (
        both.0,
        both.2.0,
        both.2.3,
        subst (λ (report : Report). Q both.0 report) (both.3.2.only both.2.0 both.2.2.is both.2.2.text) both.3.3,
      )

abbrev Long : Script → List ℕ → Type 0
Long script text = MAX_REPORT < length text

abbrev Bad : Script → List ℕ → Type 0
Bad script text =
    (length text ≤ MAX_REPORT) × ((report : Report) → IsReportOf script report → report_bytes report ≡ text → ⊥)

abbrev Hides : ℕ → Script → Report → Type 0
Hides line script report = HidesAt report line

abbrev Breaks : ℕ → Script → Report → Type 0
Breaks rule script report = HidesNothing report × IsLeastBroken script report rule × (LawfulRun script report → ⊥)

abbrev Keeps : Script → Report → Type 0
Keeps script report = HidesNothing report × LawfulRun script report

-- none of two that differ is right
module _ (before : List ℕ) (given : Option (List ℕ)) where
  long_bad : OfText before given Long → OfText before given Bad → ⊥
  long_bad a b = let both = of_both before given Long Bad a b in let f : ⊥ = omega (arith, both.2, both.3.0) in f

  long_read : (P : Script → Report → Type 0) → OfText before given Long → OfReport before given P → ⊥
  long_read P a b =
      let both = of_both before given Long (InReport P) a b in let f : ⊥ = omega (arith, both.2, both.3.1) in f

  bad_read : (P : Script → Report → Type 0) → OfText before given Bad → OfReport before given P → ⊥
  bad_read P a b =
      let both = of_both before given Bad (InReport P) a b in both.2.1 both.3.0 both.3.2.is both.3.2.text

  shown_hidden : (report : Report) (line : ℕ) → HidesNothing report → HidesAt report line → ⊥
  shown_hidden report line none some = let f : ⊥ = cc (none, some.1) in f

  hidden_broken : (line rule : ℕ) → OfReport before given (Hides line) → OfReport before given (Breaks rule) → ⊥
  hidden_broken line rule a b =
      let both = of_reports before given (Hides line) (Breaks rule) a b in shown_hidden both.1 line both.3.0 both.2

  hidden_lawful : (line : ℕ) → OfReport before given (Hides line) → OfReport before given Keeps → ⊥
  hidden_lawful line a b =
      let both = of_reports before given (Hides line) Keeps a b in shown_hidden both.1 line both.3.0 both.2

  broken_lawful : (rule : ℕ) → OfReport before given (Breaks rule) → OfReport before given Keeps → ⊥
  broken_lawful rule a b = let both = of_reports before given (Breaks rule) Keeps a b in both.2.2 both.3.1

  same_line : (a b : ℕ) → OfReport before given (Hides a) → OfReport before given (Hides b) → a ≡ b
  same_line a b p q =
      let both = of_reports before given (Hides a) (Hides b) p q in
      let e : Some both.2.0 ≡ Some both.3.0 = sym both.2.1 ∙ both.3.1 in
      let same : both.2.0 ≡ both.3.0 = cc (e) in
      both.2.2 ∙ ap (λ (r : ReplyLine). r.line) same ∙ sym both.3.2

  same_rule : LeastIsOne → (a b : ℕ) → OfReport before given (Breaks a) → OfReport before given (Breaks b) → a ≡ b
  same_rule least a b p q =
      let both = of_reports before given (Breaks a) (Breaks b) p q in
      let up = least both.0 both.1 a b both.2.1 both.3.1 in
      let down = least both.0 both.1 b a both.3.1 both.2.1 in
      omega (arith, up, down)

  one : LeastIsOne → (a b : Verdict) → IsVerdictOf before given a → IsVerdictOf before given b → SaySame a b
  one least (NoScript line why) (NoScript other because) p q = tt
  one least (NoScript line why) Missing p q = absurd (p.none q.0 q.1.is)
  one least (NoScript line why) b p q = absurd (p.none q.0 q.2.is)
  one least Missing (NoScript line why) p q = absurd (q.none p.0 p.1.is)
  one least a (NoScript line why) p q = absurd (q.none p.0 p.2.is)
  one least Missing Missing p q = refl
  one least Missing b p q = absurd (none_some given q.1 p.2 q.3)
  one least a Missing p q = absurd (none_some given p.1 q.2 p.3)
  one least TooLong TooLong p q = refl
  one least TooLong BadForm p q = absurd (long_bad p q)
  one least TooLong (Hidden line) p q = absurd (long_read (Hides line) p q)
  one least TooLong (Broken rule) p q = absurd (long_read (Breaks rule) p q)
  one least TooLong Lawful p q = absurd (long_read Keeps p q)
  one least BadForm TooLong p q = absurd (long_bad q p)
  one least BadForm BadForm p q = refl
  one least BadForm (Hidden line) p q = absurd (bad_read (Hides line) p q)
  one least BadForm (Broken rule) p q = absurd (bad_read (Breaks rule) p q)
  one least BadForm Lawful p q = absurd (bad_read Keeps p q)
  one least (Hidden line) TooLong p q = absurd (long_read (Hides line) q p)
  one least (Hidden line) BadForm p q = absurd (bad_read (Hides line) q p)
  one least (Hidden line) (Hidden other) p q = ap Hidden (same_line line other p q)
  one least (Hidden line) (Broken rule) p q = absurd (hidden_broken line rule p q)
  one least (Hidden line) Lawful p q = absurd (hidden_lawful line p q)
  one least (Broken rule) TooLong p q = absurd (long_read (Breaks rule) q p)
  one least (Broken rule) BadForm p q = absurd (bad_read (Breaks rule) q p)
  one least (Broken rule) (Hidden line) p q = absurd (hidden_broken line rule q p)
  one least (Broken rule) (Broken other) p q = ap Broken (same_rule least rule other p q)
  one least (Broken rule) Lawful p q = absurd (broken_lawful rule p q)
  one least Lawful TooLong p q = absurd (long_read Keeps q p)
  one least Lawful BadForm p q = absurd (bad_read Keeps q p)
  one least Lawful (Hidden line) p q = absurd (hidden_lawful line q p)
  one least Lawful (Broken rule) p q = absurd (broken_lawful rule q p)
  one least Lawful Lawful p q = refl

-- the same by where the report begins
one_from : LeastIsOne → (start : Option ℕ) (bytes : List ℕ) (a b : Verdict) → IsVerdictFrom start bytes a → IsVerdictFrom start bytes b
    → SaySame a b
one_from least None bytes = one bytes None least
one_from least (Some start) bytes = one (take start bytes) (Some (drop start bytes)) least

pub one_verdict : LeastIsOne → OneVerdict
one_verdict least bytes = one_from least (report_start bytes) bytes
