-- The tables of the columns, one column more.
use Rattle.std.proofs.Common.{◌≡◌, ℕ, ◌+◌, ◌<◌, ◌==◌, Bool, List, [], ◌∷◌, length, get_or, set, drop, replicate, Some, None, slice_get, slice_index, refl, ap, sym, ◌∙◌, arith, inl, inr, length-set, get_or-set_same, get_or-set_other, ◌≢◌, if◌then◌else◌}
use Rattle.std.proofs.lemmas.List.{drop_more, drop_all, get_or-replicate, length-replicate}
use Rattle.std.proofs.lemmas.List.Sums.{sum_by-cons}
use Rattle.std.proofs.lemmas.Option.{slice_get_read}
use Rattle.std.proofs.lemmas.Bool.Decides.{eqb_tells}
use Rattle.std.specs.List.{count_by}
use Rattle.report_text.specs.declared.report.ColumnReport.{ColumnReport}
use Rattle.report_text.specs.Names.{name_among}
use Rattle.report_text.specs.Index.{name_at, IsIndex}

past_end : {X : Type 0} (xs : List X) → slice_get xs (length xs) ≡ None
past_end [] = refl
past_end (x ∷ xs) = past_end xs

-- no column was read yet
pub index_none : (number_of : ColumnReport → ℕ) (name_of : ColumnReport → List ℕ) (all : List ColumnReport) (n : ℕ) → n ≡ length all → IsIndex number_of name_of (drop n all) all (replicate 256 n)
index_none number_of name_of all n e = record {
  long = length-replicate 256 n;
  leads = λ k h. ap (λ (i : ℕ). name_at name_of (slice_get all i)) (get_or-replicate 256 k n 0 h ∙ e) ∙ ap (name_at name_of) (past_end all) ∙ sym (ap (λ (cs : List ColumnReport). name_among number_of name_of cs k) (drop_all n all (omega arith)));
}

leads_more : (number_of : ColumnReport → ℕ) (name_of : ColumnReport → List ℕ) (all : List ColumnReport) (at i r n : ℕ) (c : ColumnReport) (table : List ℕ) →
    drop i all ≡ c ∷ drop at all → slice_get all i ≡ Some c → number_of c ≡ r → r < length table →
    name_at name_of (slice_get all (slice_index table n)) ≡ name_among number_of name_of (drop at all) n →
    name_at name_of (slice_get all (slice_index (set table r i) n)) ≡ name_among number_of name_of (drop i all) n
leads_more number_of name_of all at i r n c table split here number small old =
    let rest = name_among number_of name_of (drop at all) n in
    let named : name_among number_of name_of (drop i all) n ≡ (if number_of c == n then name_of c else rest) =
    ap (λ (cs : List ColumnReport). name_among number_of name_of cs n) split in
    elim (eqb_tells (number_of c) n) [
      | inl same ↦
          let stands : get_or (set table r i) n 0 ≡ i = ap (λ (m : ℕ). get_or (set table r i) m 0) (sym same.1 ∙ number) ∙ get_or-set_same table r i 0 small in
          ap (λ (m : ℕ). name_at name_of (slice_get all m)) stands ∙ ap (name_at name_of) here
          ∙ sym (named ∙ ap (λ (b : Bool). if b then name_of c else rest) same.0)
      | inr differ ↦
          let other : n ≢ r = λ e. differ.1 (number ∙ sym e) in
          ap (λ (m : ℕ). name_at name_of (slice_get all m)) (get_or-set_other table r n i 0 other) ∙ old
          ∙ sym (named ∙ ap (λ (b : Bool). if b then name_of c else rest) differ.0)
    ]

-- one column more, before those that were read
pub index_more : (number_of : ColumnReport → ℕ) (name_of : ColumnReport → List ℕ) (all : List ColumnReport) (at i r : ℕ) (c : ColumnReport) (table : List ℕ) →
    at ≡ i + 1 → i < length all → c ≡ get_or all i c → number_of c ≡ r → r < 256 → IsIndex number_of name_of (drop at all) all table → IsIndex number_of name_of (drop i all) all (set table r i)
index_more number_of name_of all at i r c table next less read number small old =
    let split : drop i all ≡ c ∷ drop at all =
    drop_more all i c less ∙ ap (λ (x : ColumnReport). x ∷ drop (i + 1) all) (sym read) ∙ ap (λ (n : ℕ). c ∷ drop n all) (sym next) in
    let here : slice_get all i ≡ Some c = slice_get_read all (length all) i c refl less read in
    let long = old.long in
    record {
      long = length-set table r i ∙ old.long;
      leads = λ n h. leads_more number_of name_of all at i r n c table split here number (omega (arith, long, small)) (old.leads n h);
    }

-- one column more of colour 0, or of another
pub count_more : (all : List ColumnReport) (at i regions : ℕ) (c : ColumnReport) → at ≡ i + 1 → i < length all → c ≡ get_or all i c → regions ≡ count_by (λ x. x.colour == 0) (drop at all) →
    (if c.colour == 0 then 1 else 0) + regions ≡ count_by (λ x. x.colour == 0) (drop i all)
count_more all at i regions c next less read e =
    let split : drop i all ≡ c ∷ drop at all =
    drop_more all i c less ∙ ap (λ (x : ColumnReport). x ∷ drop (i + 1) all) (sym read) ∙ ap (λ (n : ℕ). c ∷ drop n all) (sym next) in
    ap (λ (n : ℕ). (if c.colour == 0 then 1 else 0) + n) e
    ∙ sym (ap (count_by (λ (x : ColumnReport). x.colour == 0)) split ∙ sum_by-cons (λ (x : ColumnReport). if x.colour == 0 then 1 else 0) c (drop at all))

pub count_yes : (all : List ColumnReport) (at i regions : ℕ) (c : ColumnReport) → at ≡ i + 1 → i < length all → c ≡ get_or all i c → c.colour ≡ 0 → regions ≡ count_by (λ x. x.colour == 0) (drop at all) →
    regions + 1 ≡ count_by (λ x. x.colour == 0) (drop i all)
count_yes all at i regions c next less read zero e =
    elim (eqb_tells c.colour 0) [
      | inl same ↦ let more : (if c.colour == 0 then 1 else 0) + regions ≡ count_by (λ (x : ColumnReport). x.colour == 0) (drop i all) = count_more all at i regions c next less read e in
          omega (arith, rw same.0 at more)
      | inr differ ↦ absurd (differ.1 zero)
    ]

pub count_no : (all : List ColumnReport) (at i regions : ℕ) (c : ColumnReport) → at ≡ i + 1 → i < length all → c ≡ get_or all i c → c.colour ≢ 0 → regions ≡ count_by (λ x. x.colour == 0) (drop at all) →
    regions ≡ count_by (λ x. x.colour == 0) (drop i all)
count_no all at i regions c next less read other e =
    elim (eqb_tells c.colour 0) [
      | inl same ↦ absurd (other same.1)
      | inr differ ↦ let more : (if c.colour == 0 then 1 else 0) + regions ≡ count_by (λ (x : ColumnReport). x.colour == 0) (drop i all) = count_more all at i regions c next less read e in
          omega (arith, rw differ.0 at more)
    ]

pub count_none : (all : List ColumnReport) → 0 ≡ count_by (λ (x : ColumnReport). x.colour == 0) (drop (length all) all)
count_none all = sym (ap (count_by (λ (x : ColumnReport). x.colour == 0)) (drop_all (length all) all (omega arith)))
