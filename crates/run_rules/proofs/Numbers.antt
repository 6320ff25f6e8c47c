-- The rules by their numbers.
use Rattle.std.proofs.Common.{◌≡◌, ◌⊎◌, ℕ, zero, suc, ◌<◌, ◌≤◌, inl, inr, arith, subst}
use Rattle.std.proofs.lemmas.Bool.{cases_lt}
use Rattle.script_text.specs.declared.script.Script.{Script}
use Rattle.report_text.specs.declared.report.Report.{Report}
use Rattle.run_rules.specs.Told.{Account}
use Rattle.run_rules.specs.Rules.{Rule1, Rule2, Rule3, Rule4, Rule5, Rule6, Rule7, Rule8}
use Rattle.run_rules.specs.Shown.{Rule9, Rule10, Rule11, Rule12, Rule13, Rule14}
use Rattle.run_rules.specs.Keeping.{Keeps, RulesTo, Rule, one, two, three, four, five, six, seven, eight, nine, ten, eleven, twelve, thirteen, fourteen}
use Rattle.run_rules.specs.Laws.{LeastIsOne}

-- all rules, at an account
pub record AllRules (script : Script) (report : Report) (account : Account) : Type 0 where
  pub r1 : Rule1 script report account
  pub r2 : Rule2 script report
  pub r3 : Rule3 script account
  pub r4 : Rule4 script report account
  pub r5 : Rule5 script report account
  pub r6 : Rule6 script report account
  pub r7 : Rule7 script report account
  pub r8 : Rule8 script report account
  pub r9 : Rule9 script report account
  pub r10 : Rule10 script report account
  pub r11 : Rule11 script report account
  pub r12 : Rule12 script report account
  pub r13 : Rule13 script report account
  pub r14 : Rule14 script report account

module _ {script : Script} {report : Report} {account : Account} where
  pub rule1 : Rule script report account 1 → Rule1 script report account
  rule1 (one r) = r

  pub rule2 : Rule script report account 2 → Rule2 script report
  rule2 (two r) = r

  pub rule3 : Rule script report account 3 → Rule3 script account
  rule3 (three r) = r

  pub rule4 : Rule script report account 4 → Rule4 script report account
  rule4 (four r) = r

  pub rule5 : Rule script report account 5 → Rule5 script report account
  rule5 (five r) = r

  pub rule6 : Rule script report account 6 → Rule6 script report account
  rule6 (six r) = r

  pub rule7 : Rule script report account 7 → Rule7 script report account
  rule7 (seven r) = r

  pub rule8 : Rule script report account 8 → Rule8 script report account
  rule8 (eight r) = r

  pub rule9 : Rule script report account 9 → Rule9 script report account
  rule9 (nine r) = r

  pub rule10 : Rule script report account 10 → Rule10 script report account
  rule10 (ten r) = r

  pub rule11 : Rule script report account 11 → Rule11 script report account
  rule11 (eleven r) = r

  pub rule12 : Rule script report account 12 → Rule12 script report account
  rule12 (twelve r) = r

  pub rule13 : Rule script report account 13 → Rule13 script report account
  rule13 (thirteen r) = r

  pub rule14 : Rule script report account 14 → Rule14 script report account
  rule14 (fourteen r) = r

  pub all_of : RulesTo script report account 14 → AllRules script report account
  all_of ((((((((((((((none, a), b), c), d), e), f), g), h), i), j), k), l), m), o) = record {
    r1 = rule1 a;
    r2 = rule2 b;
    r3 = rule3 c;
    r4 = rule4 d;
    r5 = rule5 e;
    r6 = rule6 f;
    r7 = rule7 g;
    r8 = rule8 h;
    r9 = rule9 i;
    r10 = rule10 j;
    r11 = rule11 k;
    r12 = rule12 l;
    r13 = rule13 m;
    r14 = rule14 o;
  }

  pub rules_of : AllRules script report account → RulesTo script report account 14
  rules_of all =
      let eight_of : RulesTo script report account 8 =
      ((((((((tt, one all.r1), two all.r2), three all.r3), four all.r4), five all.r5), six all.r6), seven all.r7), eight all.r8) in
      ((((((eight_of, nine all.r9), ten all.r10), eleven all.r11), twelve all.r12), thirteen all.r13), fourteen all.r14)

-- who keeps rules up to a number keeps those up to a lesser one
pub rules_fewer : (script : Script) (report : Report) (account : Account) (n m : ℕ) → m ≤ n → RulesTo script report account n
    → RulesTo script report account m
rules_fewer script report account zero m le r =
    let e : 0 ≡ m = omega (arith, le) in subst (RulesTo script report account) e r
rules_fewer script report account (suc n) m le r =
    turn (cases_lt n m) (λ l. rules_fewer script report account n m l r.0) where
      turn : (n < m) ⊎ (m ≤ n) → (m ≤ n → RulesTo script report account m) → RulesTo script report account m
      turn (inl lt) fewer = let e : suc n ≡ m = omega (arith, le, lt) in subst (RulesTo script report account) e r
      turn (inr l) fewer = fewer l

pub keeps_fewer : (script : Script) (report : Report) (m n : ℕ) → m ≤ n → Keeps script report n → Keeps script report m
keeps_fewer script report m n le k = (k.0, k.1, rules_fewer script report k.0 n m le k.2)

pub least_is_one : LeastIsOne
least_is_one script report a b x y = turn (cases_lt b a) where
  turn : (b < a) ⊎ (a ≤ b) → a ≤ b
  turn (inr le) = le
  turn (inl lt) = absurd (y.broken (x.before b y.number.0 lt))
