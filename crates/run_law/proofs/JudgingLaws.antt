-- A report that keeps the rules up to a number keeps the next one too where what that asks is so; and what is judged of it.
use Rattle.std.proofs.Common.{◌≡◌, refl, Bool, true, false, ℕ, suc, ◌<◌, ◌≤◌, arith}
use Rattle.std.specs.Prelude.{◌↔◌}
use Rattle.script_text.specs.declared.script.Script.{Script}
use Rattle.script_text.specs.Fitting.{IsFitting}
use Rattle.report_text.specs.declared.report.Report.{Report}
use Rattle.column_track.specs.Tracks.{Tells}
use Rattle.run_rules.specs.Told.{Account}
use Rattle.run_rules.specs.Telling.{IsWellFormed, account_of, no_nodes}
use Rattle.run_rules.specs.Nodes.{nodes_told}
use Rattle.run_rules.specs.Rules.{Rule2, Rule3, Rule4, Rule6, Rule7, Rule8}
use Rattle.run_rules.specs.Shown.{Rule11, Rule12, Rule13}
use Rattle.run_rules.specs.Deciding.{ColoursDiffer, account_showing}
use Rattle.run_rules.specs.Keeping.{IsLeastBroken, Keeps, Rule, RulesTo, rule_count, two, three, four, six, seven, eight, ten, eleven, twelve, thirteen}
use Rattle.run_rules.specs.Laws.{BrokenIsUnlawful, FirstRulesDecided, LaterRulesDecided, LawfulRunsKeepRules, NinthRuleDecided, RulesMakeLawful, ShownFindsDecide}
use Rattle.run_rules.proofs.CallerLemmas.{keeps_fewer, rule2, rule3, rule4, rule6, rule7, rule8, rule10, rule11, rule12, rule13}
use Rattle.run_law.specs.declared.judged.Judged.TheVariants.{Lawful, Broken}
use Rattle.run_law.specs.Judging.{AsksRules, JudgedIsLawful, RulesStand}
use Rattle.object_law.specs.Showing.{FourteenthIsDecided}
use Rattle.walk_law.proofs.CallerLemmas.{told_not, told_so}

pub judged_is_lawful : LawfulRunsKeepRules → RulesMakeLawful → BrokenIsUnlawful → JudgedIsLawful
judged_is_lawful keep make unlawful script report Lawful fits hides is = (
  λ e. make script report hides is,
  λ run. refl,
)
judged_is_lawful keep make unlawful script report (Broken rule) fits hides is = (
  λ e. absurd (let f : ⊥ = cc (e) in f),
  λ run. absurd (unlawful script report fits hides rule is run),
)

module _ (script : Script) (report : Report) where
  -- the rules to a number are decided at an account
  abbrev DecidedAt : Account → ℕ → Type 0
  DecidedAt account n = Keeps script report n ↔ (IsWellFormed script report × RulesTo script report account n)

  -- where those before a rule are, and the rule with them, it is asked there
  asked_at : (account : Account) (n : ℕ) (Asked : Type 0) → (Asked → Rule script report account (suc n))
      → (Rule script report account (suc n) → Asked) → DecidedAt account n → DecidedAt account (suc n)
      → Keeps script report n → Asked ↔ Keeps script report (suc n)
  asked_at account n Asked to from before with_it k = (
    λ x. let w = before.0 k in with_it.1 (w.0, (w.1, to x)),
    λ m. from (with_it.0 m).1.1,
  )

module _ (first : FirstRulesDecided) (later : LaterRulesDecided) (shown : ShownFindsDecide) (script : Script) (report : Report)
    (fits : IsFitting script) where
  abbrev bare : Account
  bare = account_of script report no_nodes

  abbrev told : Account
  told = account_of script report (nodes_told script report)

  abbrev full : Account
  full = account_showing script report

  at_bare : (n : ℕ) → 1 ≤ n → n ≤ 4 → DecidedAt script report bare n
  at_bare = first script report fits

  at_told : (n : ℕ) → 5 ≤ n → n ≤ 8 → DecidedAt script report told n
  at_told = later script report fits

  at_full : (n : ℕ) → 10 ≤ n → n ≤ 13 → DecidedAt script report full n
  at_full = shown script report fits

  pub are_asked : NinthRuleDecided → FourteenthIsDecided → ColoursDiffer script → AsksRules script report
  are_asked ninth last differ = record {
    second = asked_at script report bare 1 (Rule2 script report) two rule2 (at_bare 1 (omega arith) (omega arith))
        (at_bare 2 (omega arith) (omega arith));
    third = asked_at script report bare 2 (Rule3 script bare) three rule3 (at_bare 2 (omega arith) (omega arith))
        (at_bare 3 (omega arith) (omega arith));
    fourth = asked_at script report bare 3 (Rule4 script report bare) four rule4 (at_bare 3 (omega arith) (omega arith))
        (at_bare 4 (omega arith) (omega arith));
    fifth = λ k. let w = at_told 5 (omega arith) (omega arith) in
        (λ x. w.1 (((at_bare 4 (omega arith) (omega arith)).0 k).0, x), λ m. (w.0 m).1);
    sixth = asked_at script report told 5 (Rule6 script report told) six rule6 (at_told 5 (omega arith) (omega arith))
        (at_told 6 (omega arith) (omega arith));
    seventh = asked_at script report told 6 (Rule7 script report told) seven rule7 (at_told 6 (omega arith) (omega arith))
        (at_told 7 (omega arith) (omega arith));
    eighth = asked_at script report told 7 (Rule8 script report told) eight rule8 (at_told 7 (omega arith) (omega arith))
        (at_told 8 (omega arith) (omega arith));
    ninth = λ k. let w = (at_told 8 (omega arith) (omega arith)).0 k in (
      λ x. (ninth script report fits).1 (w.0, w.1, x.0, x.1),
      λ m. let v = (ninth script report fits).0 m in (v.2, v.3),
    );
    tenth = λ k. let w = at_full 10 (omega arith) (omega arith) in (
      λ x. w.1 (((at_told 8 (omega arith) (omega arith)).0 (keeps_fewer script report 8 9 (omega arith) k)).0, (x.0, ten x.1)),
      λ m. let v = (w.0 m).1 in (v.0, rule10 v.1),
    );
    eleventh = asked_at script report full 10 (Rule11 script report full) eleven rule11 (at_full 10 (omega arith) (omega arith))
        (at_full 11 (omega arith) (omega arith));
    twelfth = asked_at script report full 11 (Rule12 script report full) twelve rule12 (at_full 11 (omega arith) (omega arith))
        (at_full 12 (omega arith) (omega arith));
    thirteenth = asked_at script report full 12 (Rule13 script report full) thirteen rule13
        (at_full 12 (omega arith) (omega arith)) (at_full 13 (omega arith) (omega arith));
    fourteenth = last script report fits differ;
  }

  pub all_stand : RulesStand script report
  all_stand = record {
    formed = λ n least k. ((at_bare 1 (omega arith) (omega arith)).0 (keeps_fewer script report 1 n least k)).0;
    first = λ n least most k. ((at_bare n least most).0 k).1;
    later = λ n least most k. ((at_told n least most).0 k).1;
    shown = λ n least most k. ((at_full n least most).0 k).1;
  }

-- WHAT PASSES TELL

-- where the first rule is told not to be kept, it is the least that is broken
pub first_broken : (script : Script) (report : Report) (b : Bool) → Tells b (Keeps script report 1) → b ≡ false
    → IsLeastBroken script report 1
first_broken script report b tells is = record {
  number = (omega arith, omega arith);
  before = λ m least less. absurd (let f : ⊥ = omega (arith, least, less) in f);
  broken = told_not b tells is;
}

-- where what the next rule asks is told to be so, it is kept
pub next_kept : (script : Script) (report : Report) (n : ℕ) (A : Type 0) → A ↔ Keeps script report (suc n) → (b : Bool)
    → Tells b A → b ≡ true → Keeps script report (suc n)
next_kept script report n A asked b tells is = asked.0 (told_so b tells is)

-- and where it is told not to be so, that rule is the least that is broken
pub next_broken : (script : Script) (report : Report) (n : ℕ) → n < rule_count → Keeps script report n → (A : Type 0)
    → A ↔ Keeps script report (suc n) → (b : Bool) → Tells b A → b ≡ false → IsLeastBroken script report (suc n)
next_broken script report n lt k A asked b tells is = record {
  number = (omega arith, omega (arith, lt));
  before = λ m least less. keeps_fewer script report m n (omega (arith, less)) k;
  broken = λ next. told_not b tells is (asked.1 next);
}
