-- What a board may be for one who knows a view.
use Rattle.std.proofs.Common.{◌≡◌, ℕ, ◌+◌, ◌^◌, ◌<◌, List, get_or, sym, ap, ◌∙◌, subst, arith}
use mathlib.Core.Logic.{dite}
use native.Mathlib.Decide.{ℕ_discrete}
use Rattle.log_node.specs.declared.ids.Row.{Row}
use Rattle.log_node.specs.declared.ids.Colours.{Colours}
use Rattle.log_node.specs.declared.marks.Mark.{Mark}
use Rattle.log_node.specs.declared.marks.Mark.TheVariants as marks
use Rattle.log_node.specs.declared.marks.Outcome.{Outcome}
use Rattle.log_node.specs.declared.marks.Outcome.TheVariants.{Open, Gone, Final}
use Rattle.log_node.specs.Marks.{IsMark, IsOutcome}
use Rattle.stamp_board.specs.declared.view.Size.{Size}
use Rattle.stamp_board.specs.declared.view.View.{View}
use Rattle.stamp_board.specs.Words.{row_at, word_at, mark_word, final_word, mark_from, outcome_from}
use Rattle.stamp_board.specs.Views.{MayBe}
use Rattle.stamp_board.specs.Law.{Fits, Lawful, Told, heard, IsSet, IsDecided}
use Rattle.stamp_board.proofs.Knowing.{if_yes, if_no, heard_size}
use Rattle.stamp_board.proofs.Fitting.{mark_from-good}
use Rattle.stamp_board.proofs.Places.{client_of_row, one_row}
use Rattle.stamp_board.proofs.Deciding.{told_law, told_fits, told_small}

set_is_mark : (m : Mark) → IsSet m → IsMark m
set_is_mark marks.None h = tt
set_is_mark (marks.Number s) h = h
set_is_mark (marks.Fenced why) h = tt

pub decided_is_outcome : (o : Outcome) → IsDecided o → IsOutcome o
decided_is_outcome Open h = tt
decided_is_outcome (Gone why) h = tt
decided_is_outcome (Final f) h = h

pub mark_from-stamp : (n : ℕ) → n < 2 ^ 62 + 2 → IsMark (mark_from n)
mark_from-stamp n small = dite (ℕ_discrete n 0) (λ z. subst (λ (y : ℕ). IsMark (mark_from y)) (sym z) tt)
    (λ ne. set_is_mark (mark_from n) (mark_from-good n (omega arith) small))

pub outcome_from-stamp : (n : ℕ) → n < 2 ^ 62 + 2 → IsOutcome (outcome_from n)
outcome_from-stamp n small = dite (ℕ_discrete n 0) (λ z. subst IsOutcome (sym (if_yes n 0 Open _ z)) tt)
    (λ a. subst IsOutcome (sym (if_no n 0 Open _ a))
    (dite (ℕ_discrete n 1) (λ z. subst IsOutcome (sym (if_yes n 1 _ _ z)) tt)
    (λ b. subst IsOutcome (sym (if_no n 1 _ _ b))
    (dite (ℕ_discrete n 2) (λ z. subst IsOutcome (sym (if_yes n 2 _ _ z)) tt)
    (λ c. subst IsOutcome (sym (if_no n 2 _ _ c)) (omega arith, omega arith))))))

own : (ws : List ℕ) (v : View) → Lawful v.size ws → Fits v.size ws v → MayBe v.size ws v
own ws v law f = let k : Size = v.size in record {
  begun = λ row x h. let b = f.begun (row_at k row) x h in let pos : 0 < x.colours.0 = b.0 in
      let word : get_or ws (word_at k (row_at k row) 0) 0 ≡ x.colours.0 = b.1 in
      ((λ z. omega arith), (λ i. let c : Colours = record { 0 = word i } in c));
  one_node = λ row x y h h'. f.same (row_at k row) x y h h';
  clients = λ row x in_ h. f.owned (row_at k row) x h ∙ client_of_row k row in_.1;
  ids = λ row other x y a b h h' e. one_row k row other a.1 b.1 (f.ids (row_at k row) (row_at k other) x y h h' e);
  marks = λ row c m h. ap mark_from (f.known (word_at k (row_at k row) (1 + c)) h.0 h.1).1 ∙ h.2;
  outcomes = λ row o h. ap outcome_from (f.known (word_at k (row_at k row) (k.colours + 1)) h.0 h.1).1 ∙ h.2;
  colours = λ row ne. law.colours (row_at k row) ne;
  stamps = λ row c lt. mark_from-stamp (get_or ws (word_at k (row_at k row) (1 + c)) 0)
      (law.small (row_at k row) (1 + c) (omega arith) (omega (arith, lt)));
  decided = λ row ne. law.finals (row_at k row) (λ z. ne (ap outcome_from z));
}

pub may_be : (k : Size) (ws : List ℕ) (v : View) → v.size ≡ k → Lawful k ws → Fits k ws v → MayBe k ws v
may_be k ws v is law f = subst (λ (z : Size). MayBe z ws v) is
    (own ws v (subst (λ (z : Size). Lawful z ws) (sym is) law) (subst (λ (z : Size). Fits z ws v) (sym is) f))

-- what was found is a mark, or an outcome, whose number is a stamp
module _ (k : Size) (v : View) (i n : ℕ) (is : v.size ≡ k) (told : Told v i n) where
  pub found_mark : (row : Row) (c : ℕ) (m : Mark) → i ≡ mark_word k row c → c < k.colours → m ≡ mark_from n → IsMark m
  found_mark row c m here lt e =
      subst IsMark (sym e) (mark_from-stamp n
      (told_small k v i n is told (row_at k row) (1 + c) here (omega arith) (omega (arith, lt))))

  pub found_outcome : (row : Row) (o : Outcome) → i ≡ final_word k row → o ≡ outcome_from n → IsOutcome o
  found_outcome row o here e =
      subst IsOutcome (sym e) (outcome_from-stamp n
      (told_small k v i n is told (row_at k row) (k.colours + 1) here (omega arith) (omega arith)))

-- the board may have the word that was found
pub found_word : (k : Size) (v w : View) (row : Row) (i n p : ℕ) → v.size ≡ k → i ≡ word_at k (row_at k row) p
    → w ≡ heard v i n → Told v i n
    → (ws : List ℕ) × MayBe k ws w × (get_or ws (word_at k (row_at k row) p) 0 ≡ n)
found_word k v w row i n p is here turns told = (
  told.0,
  subst (MayBe k told.0) (sym turns) (may_be k told.0 (heard v i n) (heard_size v i n
      ∙ is) (told_law k v i n is told) (told_fits k v i n is told)),
  ap (λ (z : ℕ). get_or told.0 z 0) (sym here) ∙ told.3,
)
