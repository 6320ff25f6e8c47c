-- Marks and outcomes of rows.
use Rattle.std.proofs.Common.{◌≡◌, ℕ, suc, zero, ◌+◌, ◌-◌, ◌≢◌, ◌<◌, ◌≤◌, map, Bool, true, false, ◌||◌, List}
use Rattle.std.proofs.Common.{[], ◌∷◌, get_or, sym, refl, ap, ◌∙◌, subst, arith}
use Rattle.std.specs.Prelude.{if◌then◌else◌, ◌==◌}
use mathlib.Core.Logic.{dite}
use native.Mathlib.Decide.{ℕ_discrete}
use Rattle.log_node.specs.declared.limits.TheConstants.{MAX_COLOURS}
use Rattle.log_node.specs.declared.marks.Mark.{Mark}
use Rattle.log_node.specs.declared.marks.Why.TheVariants.{Memory, StampEnd}
use Rattle.log_node.specs.declared.marks.Outcome.TheVariants.{Open, Gone, Final}
use Rattle.std.specs.List.{list_any, range_with_len}
use Rattle.std.proofs.lemmas.List.Folds.{list_any-append}
use Rattle.log_node.specs.Outcomes.{is_missing, is_stamp_end_fence, is_memory_fence, number_of, greatest, outcome_of}
use Rattle.stamp_board.specs.declared.view.Size.{Size}
use Rattle.stamp_board.specs.Words.{word_at, mark_from, outcome_from}
use Rattle.stamp_board.specs.Rows.{marks_at, outcome_at}
use Rattle.stamp_board.proofs.Colours.{has_bit, Within, marks_below, marks_are_below, same_members}
use Rattle.stamp_board.proofs.Knowing.{if_yes, if_no}

pub outcome_from-open : (n : ℕ) → outcome_from n ≡ Open → n ≡ 0
outcome_from-open n e = dite (ℕ_discrete n 0) (λ z. z) (λ a.
    dite (ℕ_discrete n 1) (λ z. absurd (let q : Gone Memory ≡ Open = sym (if_yes n 1 _ _ z)
    ∙ sym (if_no n 0 Open _ a) ∙ e in cc)) (λ b.
    dite (ℕ_discrete n 2) (λ z. absurd (let q : Gone StampEnd ≡ Open = sym (if_yes n 2 _ _ z) ∙ sym (if_no n 1 _ _ b)
    ∙ sym (if_no n 0 Open _ a) ∙ e in cc))
    (λ c. absurd (let q : Final (n - 2) ≡ Open = sym (if_no n 2 _ _ c) ∙ sym (if_no n 1 _ _ b)
    ∙ sym (if_no n 0 Open _ a) ∙ e in cc))))

-- words that agree on a row agree on its outcome
pub outcome_same : (k : Size) (ws ws' : List ℕ) (r : ℕ)
    → (get_or ws (word_at k r 0) 0 ≢ 0 → Within record { 0 = get_or ws (word_at k r 0) 0 } k.colours)
    → ((p : ℕ) → p ≤ k.colours → get_or ws (word_at k r p) 0 ≡ get_or ws' (word_at k r p) 0)
    → outcome_at k ws r ≡ outcome_at k ws' r
outcome_same k ws ws' r within same =
    let bits : ℕ = get_or ws (word_at k r 0) 0 in
    let first : bits ≡ get_or ws' (word_at k r 0) 0 = same 0 (omega arith) in
    let at_bits : bits ≢ 0 → marks_at k ws r record { 0 = bits } ≡ marks_at k ws' r record { 0 = bits }
    = λ ne. same_members (λ c. mark_from (get_or ws (word_at k r (1 + c)) 0))
    (λ c. mark_from (get_or ws' (word_at k r (1 + c)) 0)) (has_bit bits) (range_with_len 0 MAX_COLOURS)
    (λ c h. let lt : c < k.colours = within ne c h in ap mark_from (same (1 + c) (omega arith))) in
    let moved : outcome_at k ws r ≡ (if bits == 0 then Open else outcome_of (marks_at k ws' r record { 0 = bits }))
    = dite (ℕ_discrete bits 0) (λ z. if_yes bits 0 Open _ z
    ∙ sym (if_yes bits 0 Open _ z)) (λ ne. ap (λ (ms : List Mark). if bits == 0 then Open else outcome_of ms)
    (at_bits ne)) in
    moved ∙ ap (λ (z : ℕ). if z == 0 then Open else outcome_of (marks_at k ws' r record { 0 = z })) first

or_right : (a b : Bool) → b ≡ true → (a || b) ≡ true
or_right true b e = refl
or_right false b e = e

or_left : (a b : Bool) → a ≡ true → (a || b) ≡ true
or_left a b e = ap (λ (z : Bool). z || b) e

missing_one : (k : Size) (ws : List ℕ) (r bits c n : ℕ) → c < n → has_bit bits c ≡ true
    → get_or ws (word_at k r (1 + c)) 0 ≡ 0 → list_any is_missing (marks_below k ws r bits n) ≡ true
missing_one k ws r bits c zero h bit none = absurd (omega arith)
missing_one k ws r bits c (suc n) h bit none =
    let xs : List Mark = marks_below k ws r bits n in
    let ys : List Mark = if has_bit bits n then mark_from (get_or ws (word_at k r (1 + n)) 0) ∷ [] else [] in
    list_any-append is_missing xs ys ∙ dite (ℕ_discrete c n)
    (λ e. or_right (list_any is_missing xs) (list_any is_missing ys)
    (let b : has_bit bits n ≡ true = subst (λ (z : ℕ). has_bit bits z ≡ true) e bit in
    let z : get_or ws (word_at k r (1 + n)) 0 ≡ 0 = subst (λ (z : ℕ). get_or ws (word_at k r (1 + z)) 0 ≡ 0) e none in
    λ i. list_any is_missing (if b i then mark_from (z i) ∷ [] else [])))
    (λ ne. or_left (list_any is_missing xs) (list_any is_missing ys)
    (missing_one k ws r bits c n (omega arith) bit none))

-- a row of which a mark is missing is open
pub open_if_missing : (k : Size) (ws : List ℕ) (r c : ℕ) → k.colours ≤ MAX_COLOURS
    → Within record { 0 = get_or ws (word_at k r 0) 0 } k.colours
    → has_bit (get_or ws (word_at k r 0) 0) c ≡ true → get_or ws (word_at k r (1 + c)) 0 ≡ 0 → outcome_at k ws r ≡ Open
open_if_missing k ws r c few within bit none =
    let bits : ℕ = get_or ws (word_at k r 0) 0 in
    let all : List Mark = marks_at k ws r record { 0 = bits } in
    let m : list_any is_missing all ≡ true = ap (list_any is_missing)
    (marks_are_below k ws r record { 0 = bits } few within)
    ∙ missing_one k ws r bits c k.colours (within c bit) bit none in
    let a : outcome_of all ≡ Open = ap (λ (b : Bool). if b then Open else
    (if list_any is_stamp_end_fence all then Gone StampEnd else
    (if list_any is_memory_fence all then Gone Memory else Final (greatest (map number_of all))))) m in
    dite (ℕ_discrete bits 0) (λ e. if_yes bits 0 _ _ e) (λ ne. if_no bits 0 Open _ ne ∙ a)

pub open_if_unbegun : (k : Size) (ws : List ℕ) (r : ℕ) → get_or ws (word_at k r 0) 0 ≡ 0 → outcome_at k ws r ≡ Open
open_if_unbegun k ws r e = if_yes (get_or ws (word_at k r 0) 0) 0 _ _ e
