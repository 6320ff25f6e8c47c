-- What the passes from the tenth on tell becomes which rule is the least that is broken.
use Rattle.std.proofs.Common.{◌≡◌, refl, ℕ, suc, ◌<◌, ◌≤◌, Bool, true, false, Some, arith}
use Rattle.std.specs.Prelude.{◌↔◌}
use Rattle.script_text.specs.Fitting.{IsFitting}
use Rattle.script_text.specs.declared.script.Script.{Script}
use Rattle.report_text.specs.declared.report.Report.{Report}
use Rattle.column_track.specs.Tracks.{Tells}
use Rattle.run_rules.specs.Keeping.{Keeps, RulesTo}
use Rattle.run_rules.specs.Deciding.{ColoursDiffer, account_showing}
use Rattle.run_rules.specs.Shown.{Rule10, Rule11, Rule12, Rule13}
use Rattle.walk_law.proofs.CallerLemmas.{told_not, told_so}
use Rattle.run_law.specs.declared.judged.Judged.TheVariants.{Broken}
use Rattle.run_law.specs.Judging.{AsksRules, IsJudged, RulesAllStand, RulesAreAsked}
use Rattle.run_law.specs.LeastOf.{IsLeastOf}
use Rattle.run_law.proofs.JudgingLaws.{next_broken, next_kept}

-- what the next rule asks, of the rules before the last
least_told : (script : Script) (report : Report) (n : ℕ) → n < 13 → Keeps script report n → (A : Type 0)
    → A ↔ Keeps script report (suc n) → (b : Bool) → Tells b A → b ≡ false → IsLeastOf 13 script report (Some (suc n))
least_told script report n few kept A asked b told is =
    (omega (arith, few), next_broken script report n (omega (arith, few)) kept A asked b told is)

module _ (asked : RulesAreAsked) (script : Script) (report : Report) (fits : IsFitting script) (differ : ColoursDiffer script) where
  asks : AsksRules script report
  asks = asked script report fits differ

  -- of the tenth it asks first that those before it hold at the account that shows what reads found
  module _ (nine : Keeps script report 9) where
    pub showing_broken : (b : Bool) → Tells b (RulesTo script report (account_showing script report) 9) → b ≡ false
        → IsLeastOf 13 script report (Some 10)
    showing_broken b told is =
        least_told script report 9 (omega arith) nine (Keeps script report 10) (λ k. k, λ k. k) false
        (λ k. told_not b told is ((asks.tenth nine).1 k).0) refl

    pub tenth_broken : (b : Bool) → Tells b (Rule10 script report (account_showing script report)) → b ≡ false
        → IsLeastOf 13 script report (Some 10)
    tenth_broken b told is =
        least_told script report 9 (omega arith) nine (Keeps script report 10) (λ k. k, λ k. k) false
        (λ k. told_not b told is ((asks.tenth nine).1 k).1) refl

    pub tenth_kept : RulesTo script report (account_showing script report) 9
        → (b : Bool) → Tells b (Rule10 script report (account_showing script report)) → b ≡ true → Keeps script report 10
    tenth_kept shown b told is = (asks.tenth nine).0 (shown, told_so b told is)

  module _ (ten : Keeps script report 10) (b : Bool) (told : Tells b (Rule11 script report (account_showing script report))) where
    pub eleventh_broken : b ≡ false → IsLeastOf 13 script report (Some 11)
    eleventh_broken = least_told script report 10 (omega arith) ten _ (asks.eleventh ten) b told

    pub eleventh_kept : b ≡ true → Keeps script report 11
    eleventh_kept = next_kept script report 10 _ (asks.eleventh ten) b told

  module _ (eleven : Keeps script report 11) (b : Bool) (told : Tells b (Rule12 script report (account_showing script report))) where
    pub twelfth_broken : b ≡ false → IsLeastOf 13 script report (Some 12)
    twelfth_broken = least_told script report 11 (omega arith) eleven _ (asks.twelfth eleven) b told

    pub twelfth_kept : b ≡ true → Keeps script report 12
    twelfth_kept = next_kept script report 11 _ (asks.twelfth eleven) b told

  module _ (twelve : Keeps script report 12) (b : Bool) (told : Tells b (Rule13 script report (account_showing script report))) where
    pub thirteenth_broken : b ≡ false → IsLeastOf 13 script report (Some 13)
    thirteenth_broken = least_told script report 12 (omega arith) twelve _ (asks.thirteenth twelve) b told

    pub thirteenth_kept : b ≡ true → Keeps script report 13
    thirteenth_kept = next_kept script report 12 _ (asks.thirteenth twelve) b told

-- the rules to these hold at that account
pub shown_to : RulesAllStand → (script : Script) (report : Report) → IsFitting script → (n : ℕ) → 10 ≤ n → n ≤ 13
    → Keeps script report n → RulesTo script report (account_showing script report) n
shown_to stand script report fits = (stand script report fits).shown

-- the last is told to be kept, or not
pub last_broken : (script : Script) (report : Report) → Keeps script report 13 → (b : Bool)
    → Tells b (Keeps script report 14) → b ≡ false → IsJudged script report (Broken 14)
last_broken script report kept = next_broken script report 13 (omega arith) kept (Keeps script report 14) (λ k. k, λ k. k)
