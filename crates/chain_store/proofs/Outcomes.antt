-- The number of a final outcome: it is that of the greatest mark.
use Rattle.std.proofs.Common.{◌≡◌, ◌≢◌, ℕ, zero, suc, ◌+◌, ◌<◌, ◌≤◌, Bool, true, false, List, [], ◌∷◌, map, refl, ap, sym, subst, ◌∙◌, arith, inl, inr}
use Rattle.std.specs.Prelude.{◌==◌, ◌||◌, if◌then◌else◌, slice_index}
use Rattle.std.specs.List.{list_any, range_with_len}
use Rattle.std.proofs.lemmas.Bool.{eqb-true, cases_eq}
use Rattle.log_node.specs.declared.limits.TheConstants.{MAX_COLOURS}
use Rattle.log_node.specs.declared.ids.Colours.{Colours}
use Rattle.log_node.specs.declared.ids.Row.{Row}
use Rattle.log_node.specs.declared.node.Node.{Node}
use Rattle.log_node.specs.declared.marks.Why.TheVariants.{Memory, StampEnd}
use Rattle.log_node.specs.declared.marks.Mark.{Mark}
use Rattle.log_node.specs.declared.marks.Mark.TheVariants as marks
use Rattle.log_node.specs.declared.marks.Outcome.{Outcome}
use Rattle.log_node.specs.declared.marks.Outcome.TheVariants.{Open, Gone, Final}
use Rattle.log_node.specs.Marks.{IsMark}
use Rattle.log_node.specs.Outcomes.{outcome_of, is_missing, is_stamp_end_fence, is_memory_fence, number_of, greatest}
use Rattle.log_node.specs.Sets.{has, members}
use Rattle.col_core.specs.History.{last_stamp}
use Rattle.col_core.proofs.CallerLemmas.{by_test, if_false, In, in_filter, in_filter-back}
use Rattle.stamp_board.specs.declared.view.Size.{Size}
use Rattle.stamp_board.specs.declared.view.View.{View}
use Rattle.stamp_board.specs.Words.{row_at, row_word}
use Rattle.stamp_board.specs.Rows.{mark_in, marks_at, decided_in, outcome_in}
use Rattle.stamp_board.specs.Views.{KnowsBegun, KnowsOutcome, MayBe}

-- a mark with a number that is at most f, which is at most the last stamp
pub record IsUnder (m : Mark) (f : ℕ) : Type 0 where
  pub number : ℕ
  pub is : m ≡ marks.Number number
  pub under : number ≤ f
  pub last : f ≤ last_stamp

or_off : (a b : Bool) → (a || b) ≡ false → (a ≡ false) × (b ≡ false)
or_off false b e = (refl, e)
or_off true b e = absurd (let f : ⊥ = cc in f)

number_in : (all : List Mark) (m : Mark) → In m all → list_any is_missing all ≡ false
    → list_any is_stamp_end_fence all ≡ false → list_any is_memory_fence all ≡ false
    → (n : ℕ) × (m ≡ marks.Number n) × (n ≤ greatest (map number_of all))
number_in [] m there a b c = absurd there
number_in (x ∷ xs) m (inr i) a b c =
    let r = number_in xs m i (or_off (is_missing x) _ a).1 (or_off (is_stamp_end_fence x) _ b).1
    (or_off (is_memory_fence x) _ c).1 in
    let le = r.2 in
    (r.0, r.1, omega (arith, le))
number_in (marks.Number n ∷ xs) m (inl e) a b c = (n, sym e, omega arith)
number_in (marks.None ∷ xs) m (inl e) a b c = absurd (let f : ⊥ = cc in f)
number_in (marks.Fenced Memory ∷ xs) m (inl e) a b c = absurd (let f : ⊥ = cc in f)
number_in (marks.Fenced StampEnd ∷ xs) m (inl e) a b c = absurd (let f : ⊥ = cc in f)

-- of marks with a final outcome, each has a number, and its number is the greatest of them
final_parts : (all : List Mark) (f : ℕ) → outcome_of all ≡ Final f
    → (list_any is_missing all ≡ false) × (list_any is_stamp_end_fence all ≡ false)
    × (list_any is_memory_fence all ≡ false) × (greatest (map number_of all) ≡ f)
final_parts all f e = first (list_any is_missing all) (list_any is_stamp_end_fence all) (list_any is_memory_fence all) e where
  first : (a b c : Bool) → (if a then Open else (if b then Gone StampEnd else (if c then Gone Memory
      else Final (greatest (map number_of all))))) ≡ Final f
      → (a ≡ false) × (b ≡ false) × (c ≡ false) × (greatest (map number_of all) ≡ f)
  first true b c e = absurd (let g : ⊥ = cc in g)
  first false true c e = absurd (let g : ⊥ = cc in g)
  first false false true e = absurd (let g : ⊥ = cc in g)
  first false false false e = (refl, refl, refl, (let g : greatest (map number_of all) ≡ f = cc in g))

number_small : (m : Mark) → IsMark m → number_of m ≤ last_stamp
number_small marks.None h = omega arith
number_small (marks.Number n) h = let s = h.1 in omega (arith, s)
number_small (marks.Fenced why) h = omega arith

greatest_small : (cs : List ℕ) (g : ℕ → Mark) → ((c : ℕ) → In c cs → IsMark (g c))
    → greatest (map number_of (map g cs)) ≤ last_stamp
greatest_small [] g h = omega arith
greatest_small (c ∷ cs) g h =
    let r = greatest_small cs g (λ d i. h d (inr i)) in
    let s = number_small (g c) (h c (inl refl)) in
    omega (arith, r, s)

in_map : (g : ℕ → Mark) (cs : List ℕ) (c : ℕ) → In c cs → In (g c) (map g cs)
in_map g [] c i = absurd i
in_map g (d ∷ cs) c (inl e) = inl (ap g e)
in_map g (d ∷ cs) c (inr i) = inr (in_map g cs c i)

in_range : (n a c : ℕ) → a ≤ c → c < a + n → In c (range_with_len a n)
in_range zero a c le lt = absurd (let f : ⊥ = omega (arith, le, lt) in f)
in_range (suc n) a c le lt = elim (cases_eq a c) [
  | inl same ↦ inl same
  | inr other ↦ inr (in_range n (a + 1) c (omega (arith, le, other)) (omega (arith, lt)))
]

in_members : (set : Colours) (c : ℕ) → has set c ≡ true → c < MAX_COLOURS → In c (members set)
in_members set c h lt =
    in_filter-back (has set) c (range_with_len 0 MAX_COLOURS) (in_range MAX_COLOURS 0 c (omega arith) (omega (arith, lt))) h

has_member : (set : Colours) (c : ℕ) → In c (members set) → has set c ≡ true
has_member set c i = (in_filter (has set) c (range_with_len 0 MAX_COLOURS) i).1

-- where the outcome of a set's marks is final, each of them is a number
pub final_number : (mark : ℕ → Mark) (set : Colours) (c f : ℕ) → has set c ≡ true → c < MAX_COLOURS
    → outcome_of (map mark (members set)) ≡ Final f → (n : ℕ) × (mark c ≡ marks.Number n)
final_number mark set c f h lt e =
    let all = map mark (members set) in
    let p = final_parts all f e in
    let r = number_in all (mark c) (in_map mark (members set) c (in_members set c h lt)) p.0 p.1 p.2 in (r.0, r.1)

end_fence : (all : List Mark) → outcome_of all ≡ Gone StampEnd → list_any is_stamp_end_fence all ≡ true
end_fence all e = first (list_any is_missing all) (list_any is_stamp_end_fence all) (list_any is_memory_fence all) e where
  first : (a b c : Bool) → (if a then Open else (if b then Gone StampEnd else (if c then Gone Memory
      else Final (greatest (map number_of all))))) ≡ Gone StampEnd → b ≡ true
  first true b c e = absurd (let g : ⊥ = cc (e) in g)
  first false true c e = refl
  first false false true e = absurd (let g : ⊥ = cc (e) in g)
  first false false false e = absurd (let g : ⊥ = cc (e) in g)

fence_of : (m : Mark) → is_stamp_end_fence m ≡ true → m ≡ marks.Fenced StampEnd
fence_of marks.None e = absurd (let g : ⊥ = cc (e) in g)
fence_of (marks.Number n) e = absurd (let g : ⊥ = cc (e) in g)
fence_of (marks.Fenced Memory) e = absurd (let g : ⊥ = cc (e) in g)
fence_of (marks.Fenced StampEnd) e = refl

fence_in : (mark : ℕ → Mark) (cs : List ℕ) → list_any is_stamp_end_fence (map mark cs) ≡ true
    → (c : ℕ) × In c cs × (mark c ≡ marks.Fenced StampEnd)
fence_in mark [] e = absurd (let g : ⊥ = cc (e) in g)
fence_in mark (c ∷ cs) e = by (is_stamp_end_fence (mark c)) refl e (fence_in mark cs) where
  by : (b : Bool) → is_stamp_end_fence (mark c) ≡ b → (b || list_any is_stamp_end_fence (map mark cs)) ≡ true
      → (list_any is_stamp_end_fence (map mark cs) ≡ true → (d : ℕ) × In d cs × (mark d ≡ marks.Fenced StampEnd))
      → (d : ℕ) × In d (c ∷ cs) × (mark d ≡ marks.Fenced StampEnd)
  by true is f rest = (c, inl refl, fence_of (mark c) is)
  by false is f rest = let r = rest f in (r.0, inr r.1, r.2)

-- it is gone for the stamps' end only where one of them is that fence
pub no_end : (mark : ℕ → Mark) (set : Colours) → ((c : ℕ) → has set c ≡ true → mark c ≢ marks.Fenced StampEnd)
    → outcome_of (map mark (members set)) ≡ Gone StampEnd → ⊥
no_end mark set none e =
    let r = fence_in mark (members set) (end_fence (map mark (members set)) e) in
    none r.0 (has_member set r.0 r.1) r.2

not_zero : (n : ℕ) → n ≢ 0 → (n == 0) ≡ false
not_zero n ne = by_test ((n == 0) ≡ false) (n == 0) (λ t. absurd (ne (eqb-true n 0 t))) (λ z. z)

module _ (k : Size) (ws : List ℕ) (v : View) (may : MayBe k ws v) (row : Row) (x : Node) (begun : KnowsBegun v row x) where
  -- an outcome with which a row is decided is that of its marks
  pub decided_of_marks : (o : Outcome) → o ≢ Open → decided_in k ws row ≡ o
      → outcome_of (marks_at k ws (row_at k row) x.colours) ≡ o
  decided_of_marks o shut decided =
      let shown = may.decided row (λ e. shut (sym decided ∙ e)) in
      let is : outcome_in k ws row ≡ o = sym shown ∙ decided in
      let b = may.begun row x begun in
      subst (λ (s : Colours). outcome_of (marks_at k ws (row_at k row) s) ≡ o) b.1
      (sym (if_false (slice_index ws (row_word k row) == 0) Open
      (outcome_of (marks_at k ws (row_at k row) record { 0 = slice_index ws (row_word k row) }))
      (not_zero (slice_index ws (row_word k row)) b.0)) ∙ is)

module _ (k : Size) (ws : List ℕ) (v : View) (may : MayBe k ws v) (row : Row) (x : Node) (begun : KnowsBegun v row x)
    (f : ℕ) (known : KnowsOutcome v row (Final f)) where
  of_marks : outcome_of (marks_at k ws (row_at k row) x.colours) ≡ Final f
  of_marks =
      decided_of_marks k ws v may row x begun (Final f) (λ e. let h : ⊥ = cc (e) in h)
      (may.outcomes row (Final f) known)

  -- where a row keeps a final outcome, the mark of each of its colours has a number at most the final one
  pub under_final : (c : ℕ) → has x.colours c ≡ true → c < MAX_COLOURS → IsUnder (mark_in k ws row c) f
  under_final c h lt =
      let p = final_parts (marks_at k ws (row_at k row) x.colours) f of_marks in
      let g : ℕ → Mark = λ c. mark_in k ws row c in
      let r = number_in (marks_at k ws (row_at k row) x.colours) (g c)
      (in_map g (members x.colours) c (in_members x.colours c h lt)) p.0 p.1 p.2 in
      let b = may.begun row x begun in
      let within : (d : ℕ) → In d (members x.colours) → d < k.colours =
      λ d i. (may.colours row b.0).within d (subst (λ (s : Colours). has s d ≡ true) (sym b.1) (has_member x.colours d i)) in
      let small = greatest_small (members x.colours) g (λ d i. may.stamps row d (within d i)) in
      let is = p.3 in
      let le = r.2 in
      record {
        number = r.0;
        is = r.1;
        under = subst (λ (n : ℕ). r.0 ≤ n) is le;
        last = subst (λ (n : ℕ). n ≤ last_stamp) is small;
      }
