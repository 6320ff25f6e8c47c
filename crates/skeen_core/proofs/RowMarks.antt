-- The marks of a row, one colour after another.
use Rattle.std.proofs.Common.{◌≡◌, ℕ, Bool, true, false, ◌||◌, List, ◌∷◌, max, map, refl, ap, ◌∙◌, arith}
use Rattle.std.specs.Prelude.{if◌then◌else◌}
use Rattle.std.specs.List.{list_any}
use Rattle.log_node.specs.declared.marks.Mark.{Mark}
use Rattle.log_node.specs.declared.marks.Why.TheVariants.{Memory, StampEnd}
use Rattle.log_node.specs.declared.marks.Outcome.TheVariants.{Open, Gone, Final}
use Rattle.log_node.specs.Outcomes.{outcome_of, is_missing, is_stamp_end_fence, is_memory_fence, number_of, greatest}
use Rattle.skeen_core.specs.declared.outcomes.Tally.{Tally}
use Rattle.log_node.proofs.CallerLemmas.{or_false as or_none}

-- the tally with the marks of the colours that are left is that of the marks of all
pub record IsTallied (mark_of : ℕ → Mark) (all left : List ℕ) (t : Tally) : Type 0 where
  pub missing : (list_any is_missing (map mark_of left) || t.missing) ≡ list_any is_missing (map mark_of all)
  pub stamp_end : (list_any is_stamp_end_fence (map mark_of left) || t.stamp_end)
      ≡ list_any is_stamp_end_fence (map mark_of all)
  pub memory : (list_any is_memory_fence (map mark_of left) || t.memory) ≡ list_any is_memory_fence (map mark_of all)
  pub greatest_is : max (greatest (map number_of (map mark_of left))) t.greatest
      ≡ greatest (map number_of (map mark_of all))

-- the first of some to the front of the others
or_moved : (a b c : Bool) → (b || (a || c)) ≡ ((a || b) || c)
or_moved true true c = refl
or_moved true false c = refl
or_moved false b c = refl

-- no mark yet
pub starts : (mark_of : ℕ → Mark) (all : List ℕ) (t : Tally) → t.missing ≡ false → t.stamp_end ≡ false → t.memory ≡ false
    → t.greatest ≡ 0 → IsTallied mark_of all all t
starts mark_of all t m s f g =
    let marks = map mark_of all in record {
      missing = ap (λ (b : Bool). list_any is_missing marks || b) m ∙ or_none (list_any is_missing marks);
      stamp_end = ap (λ (b : Bool). list_any is_stamp_end_fence marks || b) s
          ∙ or_none (list_any is_stamp_end_fence marks);
      memory = ap (λ (b : Bool). list_any is_memory_fence marks || b) f ∙ or_none (list_any is_memory_fence marks);
      greatest_is = omega (arith, g);
    }

-- one colour more
pub goes_on : (mark_of : ℕ → Mark) (all : List ℕ) (c : ℕ) (left : List ℕ) (old new : Tally)
    → new.missing ≡ (is_missing (mark_of c) || old.missing)
    → new.stamp_end ≡ (is_stamp_end_fence (mark_of c) || old.stamp_end)
    → new.memory ≡ (is_memory_fence (mark_of c) || old.memory)
    → new.greatest ≡ max (number_of (mark_of c)) old.greatest
    → IsTallied mark_of all (c ∷ left) old → IsTallied mark_of all left new
goes_on mark_of all c left old new m s f g t =
    let mark = mark_of c in
    let rest = map mark_of left in record {
      missing = ap (λ (b : Bool). list_any is_missing rest || b) m
          ∙ or_moved (is_missing mark) (list_any is_missing rest) old.missing ∙ t.missing;
      stamp_end = ap (λ (b : Bool). list_any is_stamp_end_fence rest || b) s
          ∙ or_moved (is_stamp_end_fence mark) (list_any is_stamp_end_fence rest) old.stamp_end ∙ t.stamp_end;
      memory = ap (λ (b : Bool). list_any is_memory_fence rest || b) f
          ∙ or_moved (is_memory_fence mark) (list_any is_memory_fence rest) old.memory ∙ t.memory;
      greatest_is = let all = t.greatest_is in omega (arith, all, g);
    }

-- an outcome, from what is among the marks
pub outcome-from : (marks : List Mark) (missing stamp_end memory : Bool) (top : ℕ) →
    missing ≡ list_any is_missing marks → stamp_end ≡ list_any is_stamp_end_fence marks →
    memory ≡ list_any is_memory_fence marks → top ≡ greatest (map number_of marks) →
    (if missing then Open else (if stamp_end then Gone StampEnd else (if memory then Gone Memory else Final top))) ≡
    outcome_of marks
outcome-from marks missing stamp_end memory top a b c d = rw (a, b, c, d) refl
