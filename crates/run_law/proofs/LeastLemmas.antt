-- What each pass tells becomes which of the first nine rules is the least that is broken.
use Rattle.std.proofs.Common.{◌≡◌, refl, ℕ, suc, ◌<◌, ◌≤◌, Bool, true, false, List, map, Some, arith, subst}
use Rattle.script_text.specs.Fitting.{IsFitting}
use Rattle.script_text.specs.declared.script.Script.{Script}
use Rattle.report_text.specs.declared.report.Report.{Report}
use Rattle.column_track.specs.Tracks.{Tells, Tracked}
use Rattle.run_rules.specs.Keeping.{Keeps, Rule, RulesTo, one, two, three, four, six, seven, eight}
use Rattle.run_rules.specs.Laws.{FirstRulesDecided, LaterRulesDecided, NinthRuleDecided}
use Rattle.run_rules.specs.Nodes.{nodes_told}
use Rattle.run_rules.specs.Rules.{Rule1, Rule2, Rule3, Rule4, Rule6, Rule7, Rule8}
use Rattle.run_rules.specs.Told.{Account}
use Rattle.run_rules.specs.Said.{ShownCouldBeSaid, nodes_shown}
use Rattle.run_rules.specs.Shown.{Rule9}
use Rattle.run_rules.specs.Telling.{IsWellFormed, account_of, no_nodes}
use Rattle.run_rules.proofs.CallerLemmas.{rule1, rule2, rule3, rule4, rule6, rule7, rule8}
use Rattle.walk_law.specs.Journals.{track_shown}
use Rattle.run_law.specs.LeastOf.{IsLeastOf}
use Rattle.walk_law.specs.Walking.{MayWalk}
use Rattle.run_law.proofs.JudgingLaws.{next_broken}
use Rattle.walk_law.proofs.CallerLemmas.{told_not, told_so}

-- those up to a number are kept, and not the next with them
pub least_next : (script : Script) (report : Report) (n : ℕ) → n < 9 → Keeps script report n
    → (Keeps script report (suc n) → ⊥) → IsLeastOf 9 script report (Some (suc n))
least_next script report n few kept broken = (
  omega (arith, few),
  next_broken script report n (omega (arith, few)) kept (Keeps script report (suc n)) (λ k. k, λ k. k) false broken refl,
)

-- up to the fourth, at the account with no nodes
module _ (law : FirstRulesDecided) (script : Script) (report : Report) (fits : IsFitting script) where
  pub first_kept : Keeps script report 1 → IsWellFormed script report × Rule1 script report (account_of script report no_nodes)
  first_kept kept =
      let are = (law script report fits 1 (omega arith) (omega arith)).0 kept in (are.0, rule1 are.1.1)

  pub second_broken : Keeps script report 1 → (Rule2 script report → ⊥) → IsLeastOf 9 script report (Some 2)
  second_broken kept broken = least_next script report 1 (omega arith) kept (λ more.
      broken (rule2 ((law script report fits 2 (omega arith) (omega arith)).0 more).1.1))

  pub third_broken : Keeps script report 1 → Rule2 script report → (Rule3 script (account_of script report no_nodes) → ⊥)
      → IsLeastOf 9 script report (Some 3)
  third_broken kept second broken =
      let first = first_kept kept in
      least_next script report 2 (omega arith)
      ((law script report fits 2 (omega arith) (omega arith)).1 (first.0, ((tt, one first.1), two second)))
      (λ more. broken (rule3 ((law script report fits 3 (omega arith) (omega arith)).0 more).1.1))

  pub may_walk : (tracks : List Tracked) → tracks ≡ map (track_shown script.shape.regions) report.columns
      → Keeps script report 1 → Rule2 script report → Rule3 script (account_of script report no_nodes)
      → MayWalk script report tracks
  may_walk tracks are kept second third =
      let first = first_kept kept in
      record { fitting = fits; formed = first.0; first = first.1; second = second; third = third; tracks_are = are }

module _ (law : FirstRulesDecided) (script : Script) (report : Report) (tracks : List Tracked) (may : MayWalk script report tracks) where
  bare_rules : RulesTo script report (account_of script report no_nodes) 3
  bare_rules = (((tt, one may.first), two may.second), three may.third)

  pub fourth_broken : (Rule4 script report (account_of script report no_nodes) → ⊥) → IsLeastOf 9 script report (Some 4)
  fourth_broken broken =
      least_next script report 3 (omega arith) ((law script report may.fitting 3 (omega arith) (omega arith)).1 (may.formed, bare_rules))
      (λ more. broken (rule4 ((law script report may.fitting 4 (omega arith) (omega arith)).0 more).1.1))

  pub fifth_broken : LaterRulesDecided → Rule4 script report (account_of script report no_nodes)
      → (RulesTo script report (account_of script report (nodes_told script report)) 5 → ⊥) → IsLeastOf 9 script report (Some 5)
  fifth_broken later fourth broken =
      least_next script report 4 (omega arith)
      ((law script report may.fitting 4 (omega arith) (omega arith)).1 (may.formed, (bare_rules, four fourth)))
      (λ more. broken ((later script report may.fitting 5 (omega arith) (omega arith)).0 more).1)

-- from the sixth to the eighth, at the account with the nodes of commands
module _ (law : LaterRulesDecided) (script : Script) (report : Report) (fits : IsFitting script) (well : IsWellFormed script report) where
  pub later_kept : (n : ℕ) → 5 ≤ n → n ≤ 8 → RulesTo script report (account_of script report (nodes_told script report)) n
      → Keeps script report n
  later_kept n most few rules = (law script report fits n most few).1 (well, rules)

  pub later_broken : (n : ℕ) → 5 ≤ n → n < 8 → RulesTo script report (account_of script report (nodes_told script report)) n
      → (Rule script report (account_of script report (nodes_told script report)) (suc n) → ⊥)
      → IsLeastOf 9 script report (Some (suc n))
  later_broken n most few rules broken =
      least_next script report n (omega (arith, few)) (later_kept n most (omega (arith, few)) rules)
      (λ more. broken ((law script report fits (suc n) (omega (arith, most)) (omega (arith, few))).0 more).1.1)

  pub sixth_broken : RulesTo script report (account_of script report (nodes_told script report)) 5
      → (b : Bool) → b ≡ false → Tells b (Rule6 script report (account_of script report (nodes_told script report)))
      → IsLeastOf 9 script report (Some 6)
  sixth_broken rules b is told =
      later_broken 5 (omega arith) (omega arith) rules (λ more. told_not b told is (rule6 more))

  pub seventh_broken : RulesTo script report (account_of script report (nodes_told script report)) 6
      → (b : Bool) → b ≡ false → Tells b (Rule7 script report (account_of script report (nodes_told script report)))
      → IsLeastOf 9 script report (Some 7)
  seventh_broken rules b is told =
      later_broken 6 (omega arith) (omega arith) rules (λ more. told_not b told is (rule7 more))

  pub eighth_broken : RulesTo script report (account_of script report (nodes_told script report)) 7
      → (b : Bool) → b ≡ false → Tells b (Rule8 script report (account_of script report (nodes_told script report)))
      → IsLeastOf 9 script report (Some 8)
  eighth_broken rules b is told =
      later_broken 7 (omega arith) (omega arith) rules (λ more. told_not b told is (rule8 more))

  -- the ninth, at the one with the texts that are shown
  pub ninth_broken : NinthRuleDecided → RulesTo script report (account_of script report (nodes_told script report)) 8
      → (b : Bool) → b ≡ false
      → Tells b (Rule9 script report (account_of script report (nodes_shown script report)) × ShownCouldBeSaid script report)
      → IsLeastOf 9 script report (Some 9)
  ninth_broken ninth rules b is told =
      least_next script report 8 (omega arith) (later_kept 8 (omega arith) (omega arith) rules)
      (λ more. let are = (ninth script report fits).0 more in told_not b told is (are.2, are.3))

  pub nine_kept : NinthRuleDecided → RulesTo script report (account_of script report (nodes_told script report)) 8
      → (b : Bool) → b ≡ true
      → Tells b (Rule9 script report (account_of script report (nodes_shown script report)) × ShownCouldBeSaid script report)
      → Keeps script report 9
  nine_kept ninth rules b is told =
      let both = told_so b told is in (ninth script report fits).1 (well, rules, both.0, both.1)

-- the eighth rule of the script and the report that a subject hands out
pub eighth_of : (script s : Script) (report r : Report) → s ≡ script → r ≡ report → (b : Bool)
    → Tells b (Rule8 s r (account_of s r (nodes_told s r)))
    → Tells b (Rule8 script report (account_of script report (nodes_told script report)))
eighth_of script s report r same alike b told =
    subst (λ (x : Report). Tells b (Rule8 script x (account_of script x (nodes_told script x)))) alike
    (subst (λ (x : Script). Tells b (Rule8 x r (account_of x r (nodes_told x r)))) same told)

-- further rules are kept
module _ (script : Script) (report : Report) (account : Account) (rules : RulesTo script report account 5)
    (a : Bool) (sixth : a ≡ true) (six_told : Tells a (Rule6 script report account)) where
  pub to_sixth : RulesTo script report account 6
  to_sixth = (rules, six (told_so a six_told sixth))

  pub to_seventh : (b : Bool) → b ≡ true → Tells b (Rule7 script report account) → RulesTo script report account 7
  to_seventh b is told = (to_sixth, seven (told_so b told is))

  pub to_eighth : (b : Bool) → b ≡ true → Tells b (Rule7 script report account) → (d : Bool) → d ≡ true
      → Tells d (Rule8 script report account) → RulesTo script report account 8
  to_eighth b is told d also too = (to_seventh b is told, eight (told_so d too also))
