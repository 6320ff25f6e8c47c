-- What fits a view, and what the outcome of good marks is.
use Rattle.std.proofs.Common.{◌≡◌, ◌≢◌, ℕ, ◌+◌, ◌^◌, ◌<◌, map, Bool, true, false, ◌||◌, List, [], ◌∷◌, ◌++◌}
use Rattle.std.proofs.Common.{length, get_or, sym, refl, ap, ◌∙◌, subst, arith, inl, inr, ⊎_elim}
use Rattle.std.specs.Prelude.{if◌then◌else◌}
use mathlib.Core.Logic.{dite}
use native.Mathlib.Decide.{ℕ_discrete}
use Rattle.log_node.specs.declared.marks.Mark.{Mark}
use Rattle.log_node.specs.declared.marks.Mark.TheVariants as marks
use Rattle.log_node.specs.declared.marks.Why.TheVariants.{Memory, StampEnd}
use Rattle.log_node.specs.declared.marks.Outcome.TheVariants.{Open, Gone, Final}
use Rattle.std.specs.List.{list_any}
use Rattle.log_node.specs.Outcomes.{is_missing, is_stamp_end_fence, is_memory_fence, number_of, greatest, outcome_of}
use Rattle.stamp_board.specs.declared.view.Size.{Size}
use Rattle.stamp_board.specs.declared.view.View.{View}
use Rattle.stamp_board.specs.Words.{mark_from}
use Rattle.stamp_board.specs.Views.{Has}
use Rattle.stamp_board.specs.Law.{Fits, heard, IsSet, AreSet, IsDecided}
use Rattle.stamp_board.proofs.Knowing.{if_yes, if_no, heard_cases, heard_some}

pub fits_heard : (k : Size) (ws : List ℕ) (v : View) (i n : ℕ) → Fits k ws v → get_or ws i 0 ≡ n
    → Fits k ws (heard v i n)
fits_heard k ws v i n f is = heard_cases (λ (z : View). Fits k ws z) v i n (λ _. f) (λ ne. record {
  known = λ j m h. ⊎_elim (λ (t : (i ≡ j) × (n ≡ m)). let pos : 0 < m = subst (λ (z : ℕ). 0 < z) t.1 (omega arith) in
      (pos, subst (λ (z : ℕ). get_or ws z 0 ≡ m) t.0 (is ∙ t.1))) (λ (t : Has v.known j m). f.known j m t) h;
  begun = f.begun;
  same = f.same;
  owned = f.owned;
  ids = f.ids;
  mine = f.mine;
  own = f.own;
})

pub fits_before : (k : Size) (ws : List ℕ) (v : View) (i n : ℕ) → Fits k ws (heard v i n) → Fits k ws v
fits_before k ws v i n = heard_cases (λ (z : View). Fits k ws z → Fits k ws v) v i n (λ _ f. f) (λ ne f. record {
  known = λ j m h. f.known j m (inr h);
  begun = f.begun;
  same = f.same;
  owned = f.owned;
  ids = f.ids;
  mine = f.mine;
  own = f.own;
})

pub fits_there : (k : Size) (ws : List ℕ) (v : View) (i n : ℕ) → n ≢ 0 → Fits k ws (heard v i n) → get_or ws i 0 ≡ n
fits_there k ws v i n ne f = (f.known i n
    (subst (λ (z : View). Has z.known i n) (sym (heard_some v i n ne)) (inl (refl, refl)))).1

pub mark_from-good : (n : ℕ) → 0 < n → n < 2 ^ 62 + 2 → IsSet (mark_from n)
mark_from-good n pos small = dite (ℕ_discrete n 0) (λ z. absurd (omega arith))
    (λ a. subst IsSet (sym (if_no n 0 marks.None _ a))
    (dite (ℕ_discrete n 1) (λ z. subst IsSet (sym (if_yes n 1 _ _ z)) tt) (λ b. subst IsSet (sym (if_no n 1 _ _ b))
    (dite (ℕ_discrete n 2) (λ z. subst IsSet (sym (if_yes n 2 _ _ z)) tt)
    (λ c. subst IsSet (sym (if_no n 2 _ _ c)) (omega arith, omega arith))))))

pub good_append : (xs ys : List Mark) → AreSet xs → AreSet ys → AreSet (xs ++ ys)
good_append [] ys a b = b
good_append (x ∷ xs) ys a b = (a.0, good_append xs ys a.1 b)

good_present : (m : Mark) → IsSet m → is_missing m ≡ false
good_present marks.None h = absurd h
good_present (marks.Number s) h = refl
good_present (marks.Fenced w) h = refl

all_present : (xs : List Mark) → AreSet xs → list_any is_missing xs ≡ false
all_present [] h = refl
all_present (x ∷ xs) h = ap (λ (b : Bool). b || list_any is_missing xs) (good_present x h.0) ∙ all_present xs h.1

good_number : (m : Mark) → IsSet m → number_of m < 2 ^ 62
good_number marks.None h = absurd h
good_number (marks.Number s) h = h.1
good_number (marks.Fenced w) h = omega arith

greatest_below : (xs : List Mark) → AreSet xs → greatest (map number_of xs) < 2 ^ 62
greatest_below [] h = omega arith
greatest_below (x ∷ xs) h = let a : number_of x < 2 ^ 62 = good_number x h.0 in
    let b : greatest (map number_of xs) < 2 ^ 62 = greatest_below xs h.1 in omega arith

some_number : (m : Mark) → IsSet m → is_stamp_end_fence m ≡ false → is_memory_fence m ≡ false → 0 < number_of m
some_number marks.None h e f = absurd h
some_number (marks.Number s) h e f = h.0
some_number (marks.Fenced Memory) h e f = absurd (cc)
some_number (marks.Fenced StampEnd) h e f = absurd (cc)

or_no : (a b : Bool) → (a || b) ≡ false → a ≡ false
or_no true b e = e
or_no false b e = refl

decided_final : (xs : List Mark) → AreSet xs → 0 < length xs → list_any is_stamp_end_fence xs ≡ false
    → list_any is_memory_fence xs ≡ false → IsDecided (Final (greatest (map number_of xs)))
decided_final [] h more e f = absurd (omega arith)
decided_final (x ∷ xs) h more e f =
    let a = some_number x h.0 (or_no (is_stamp_end_fence x) (list_any is_stamp_end_fence xs) e)
    (or_no (is_memory_fence x) (list_any is_memory_fence xs) f) in
    let b = greatest_below (x ∷ xs) h in (omega arith, b)

-- the outcome of marks none of which is missing is never open, and its number keeps the bounds
pub outcome_decided : (xs : List Mark) → AreSet xs → 0 < length xs → IsDecided (outcome_of xs)
outcome_decided xs h more =
    let here : list_any is_missing xs ≡ false = all_present xs h in
    let gone : (b c : Bool) → list_any is_stamp_end_fence xs ≡ b → list_any is_memory_fence xs ≡ c
    → IsDecided (if b then Gone StampEnd else (if c then Gone Memory else Final (greatest (map number_of xs))))
    = λ b c. elim b as (λ (z : Bool). list_any is_stamp_end_fence xs ≡ z → list_any is_memory_fence xs ≡ c
    → IsDecided (if z then Gone StampEnd else (if c then Gone Memory else Final (greatest (map number_of xs))))) [
      | true ↦ λ _ _. tt
      | false ↦ λ e. elim c as (λ (z : Bool). list_any is_memory_fence xs ≡ z
          → IsDecided (if z then Gone Memory else Final (greatest (map number_of xs))))
          [ true ↦ λ _. tt | false ↦ λ f. decided_final xs h more e f ]
    ] in
    subst IsDecided (ap (λ (b : Bool). if b then Open else
    (if list_any is_stamp_end_fence xs then Gone StampEnd else
    (if list_any is_memory_fence xs then Gone Memory else Final (greatest (map number_of xs))))) (sym here))
    (gone (list_any is_stamp_end_fence xs) (list_any is_memory_fence xs) refl refl)
