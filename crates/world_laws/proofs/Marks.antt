-- Marks and outcomes.
use Rattle.std.proofs.Common.{◌≡◌, ℕ, ◌≤◌, max, List, [], ◌∷◌, Bool, true, false, cond, refl, subst, ap, sym, ◌∙◌, inl, inr, ◌⊎◌, arith}
use Rattle.std.specs.Prelude.{◌==◌, ◌||◌, ◌≢◌, map}
use Rattle.std.specs.List.{list_any}
use Rattle.std.proofs.lemmas.Bool.{eqb-true, eq-eqb, true≢false, or_cases, or_left, or_right}
use Rattle.log_node.specs.declared.marks.Why.TheVariants.{Memory, StampEnd}
use Rattle.log_node.specs.declared.marks.Mark.{Mark}
use Rattle.log_node.specs.declared.marks.Mark.TheVariants as marks
use Rattle.log_node.specs.declared.marks.Outcome.{Outcome}
use Rattle.log_node.specs.declared.marks.Outcome.TheVariants.{Open, Gone, Final}
use Rattle.log_node.specs.Outcomes.{outcome_of, is_missing, is_stamp_end_fence, is_memory_fence, number_of, greatest}
use Rattle.skeen_core.specs.Queues.{is_decided}
use Rattle.col_core.proofs.CallerLemmas.{by_test, if_true, apart, In, Status, Absent, Alone, Waits, Settled}
use Rattle.world_laws.proofs.Held.{Agrees}

-- a list has the colour
abbrev pub has_colour : List ℕ → ℕ → Bool
has_colour colours colour = list_any (λ c. c == colour) colours

pub colour_in : (cs : List ℕ) (c : ℕ) → has_colour cs c ≡ true → In c cs
colour_in [] c h = absurd (true≢false (sym h))
colour_in (d ∷ cs) c h =
    by_test _ (d == c) (λ t. inl (eqb-true d c t))
    (λ f. inr (colour_in cs c (sym (if_or (d == c) (has_colour cs c) f) ∙ h))) where
      if_or : (x y : Bool) → x ≡ false → (x || y) ≡ y
      if_or x y e = ap (λ z. z || y) e

pub in_colours : (cs : List ℕ) (c : ℕ) → In c cs → has_colour cs c ≡ true
in_colours [] c h = absurd h
in_colours (d ∷ cs) c (inl e) = or_left (d == c) _ (eq-eqb d c e)
in_colours (d ∷ cs) c (inr i) = or_right (d == c) _ (in_colours cs c i)

abbrev pub is_waiting : Status → Bool
is_waiting Absent = false
is_waiting (Alone stamp) = false
is_waiting (Waits stamp) = true
is_waiting (Settled outcome) = false

pub waiting_is : (st : Status) → is_waiting st ≡ true → (s : ℕ) × (st ≡ Waits s)
waiting_is Absent e = absurd (true≢false (sym e))
waiting_is (Alone s) e = absurd (true≢false (sym e))
waiting_is (Waits s) e = (s, refl)
waiting_is (Settled o) e = absurd (true≢false (sym e))

pub missing_none : (m : Mark) → is_missing m ≡ true → m ≡ marks.None
missing_none marks.None e = refl
missing_none (marks.Number s) e = absurd (true≢false (sym e))
missing_none (marks.Fenced why) e = absurd (true≢false (sym e))

pub open_is : (o : Outcome) → is_decided o ≡ false → o ≡ Open
open_is Open e = refl
open_is (Gone why) e = absurd (true≢false e)
open_is (Final f) e = absurd (true≢false e)

pub decided_not_open : (o : Outcome) → is_decided o ≡ true → o ≢ Open
decided_not_open o e h = apart (is_decided o) e (ap is_decided h)

pub not_open_decided : (o : Outcome) → o ≢ Open → is_decided o ≡ true
not_open_decided Open ne = absurd (ne refl)
not_open_decided (Gone why) ne = refl
not_open_decided (Final n) ne = refl

-- what a final outcome says of the marks
final_tests : (a b c : Bool) (g f : ℕ) → cond a Open (cond b (Gone StampEnd) (cond c (Gone Memory) (Final g))) ≡ Final f
    → (a ≡ false) × (b ≡ false) × (c ≡ false) × (g ≡ f)
final_tests true b c g f e = absurd (let x : ⊥ = cc in x)
final_tests false true c g f e = absurd (let x : ⊥ = cc in x)
final_tests false false true g f e = absurd (let x : ⊥ = cc in x)
final_tests false false false g f e = (refl, refl, refl, cc)

pub final_is : (all : List Mark) (f : ℕ) → outcome_of all ≡ Final f
    → (list_any is_missing all ≡ false) × (list_any is_stamp_end_fence all ≡ false)
    × (list_any is_memory_fence all ≡ false) × (greatest (map number_of all) ≡ f)
final_is all f e =
    final_tests (list_any is_missing all) (list_any is_stamp_end_fence all) (list_any is_memory_fence all)
    (greatest (map number_of all)) f e

pub open_where_missing : (all : List Mark) → list_any is_missing all ≡ true → outcome_of all ≡ Open
open_where_missing all e = if_true (list_any is_missing all) _ _ e

open_tests : (a b c : Bool) (g : ℕ) → cond a Open (cond b (Gone StampEnd) (cond c (Gone Memory) (Final g))) ≡ Open
    → a ≡ true
open_tests true b c g e = refl
open_tests false true c g e = absurd (let x : ⊥ = cc in x)
open_tests false false true g e = absurd (let x : ⊥ = cc in x)
open_tests false false false g e = absurd (let x : ⊥ = cc in x)

pub missing_where_open : (all : List Mark) → outcome_of all ≡ Open → list_any is_missing all ≡ true
missing_where_open all e =
    open_tests (list_any is_missing all) (list_any is_stamp_end_fence all) (list_any is_memory_fence all)
    (greatest (map number_of all)) e

-- a colour of the list whose mark passes a test: one of the marks does
pub any_mark : (test : Mark → Bool) (f : ℕ → Mark) (cs : List ℕ) (c : ℕ) → has_colour cs c ≡ true → test (f c) ≡ true
    → list_any test (map f cs) ≡ true
any_mark test f [] c h t = absurd (true≢false (sym h))
any_mark test f (d ∷ cs) c h t = pick (or_cases (d == c) (has_colour cs c) h) (λ e. any_mark test f cs c e t) where
  pick : ((d == c) ≡ true) ⊎ (has_colour cs c ≡ true) → (has_colour cs c ≡ true → list_any test (map f cs) ≡ true)
      → (test (f d) || list_any test (map f cs)) ≡ true
  pick (inl e) rest = ap (λ b. b || list_any test (map f cs)) (subst (λ x. test (f x) ≡ true) (sym (eqb-true d c e)) t)
  pick (inr e) rest = or_right (test (f d)) (list_any test (map f cs)) (rest e)

pub number_within : (f : ℕ → Mark) (cs : List ℕ) (c s : ℕ) → has_colour cs c ≡ true → f c ≡ marks.Number s
    → s ≤ greatest (map number_of (map f cs))
number_within f [] c s h e = absurd (true≢false (sym h))
number_within f (d ∷ cs) c s h e = pick (or_cases (d == c) (has_colour cs c) h) (λ t. number_within f cs c s t e) where
  pick : ((d == c) ≡ true) ⊎ (has_colour cs c ≡ true)
      → (has_colour cs c ≡ true → s ≤ greatest (map number_of (map f cs)))
      → s ≤ max (number_of (f d)) (greatest (map number_of (map f cs)))
  pick (inl t) rest =
      let n : number_of (f d) ≡ s = ap number_of (subst (λ x. f x ≡ marks.Number s) (sym (eqb-true d c t)) e) in omega
      (arith, n)
  pick (inr t) rest = let n = rest t in omega (arith, n)

number_at_most : (m : Mark) (bound : ℕ) → ((s : ℕ) → m ≡ marks.Number s → s ≤ bound) → number_of m ≤ bound
number_at_most marks.None bound h = omega arith
number_at_most (marks.Number s) bound h = h s refl
number_at_most (marks.Fenced why) bound h = omega arith

pub greatest_within : (f : ℕ → Mark) (cs : List ℕ) (bound : ℕ) → ((c s : ℕ) → f c ≡ marks.Number s → s ≤ bound)
    → greatest (map number_of (map f cs)) ≤ bound
greatest_within f [] bound h = omega arith
greatest_within f (c ∷ cs) bound h =
    let a = number_at_most (f c) bound (h c) in
    let b = greatest_within f cs bound h in
    omega (arith, a, b)

-- a row is decided, and a column settles it
pub agrees-decided : (m : Mark) (last : Outcome) (st : Status) → Agrees m Open st → Agrees m last st
agrees-decided marks.None last st h = h
agrees-decided (marks.Fenced why) last st h = h
agrees-decided (marks.Number s) last st (inl e) = inl e
agrees-decided (marks.Number s) last st (inr p) = absurd (p.0 refl)

pub agrees-settled : (m : Mark) (last : Outcome) (st : Status) (s : ℕ) → st ≡ Waits s → last ≢ Open → Agrees m last st
    → (m ≡ marks.Number s) × Agrees m last (Settled last)
agrees-settled marks.None last st s e ne h = absurd (let x : ⊥ = cc in x)
agrees-settled (marks.Fenced why) last st s e ne h = absurd (let x : ⊥ = cc in x)
agrees-settled (marks.Number t) last st s e ne (inl h) = (cc, inr (ne, refl))
agrees-settled (marks.Number t) last st s e ne (inr p) = absurd (let q = p.1 in let x : ⊥ = cc in x)
