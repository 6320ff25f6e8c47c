-- What backs a history, once the column's seat has set a mark or an entry was added.
use Rattle.std.proofs.Common.{◌≡◌, ◌≢◌, ◌≤◌, max, ℕ, true, false, List, [], ◌∷◌, ◌++◌, refl, ap, sym, subst, ◌∙◌, arith, inl, inr, ◌⊎◌, append_assoc, append-nil, eq-eqb}
use Rattle.std.specs.Prelude.{◌==◌, if◌then◌else◌}
use Rattle.std.proofs.lemmas.Bool.{eqb-true}
use Rattle.log_node.specs.declared.ids.Row.{Row}
use Rattle.log_node.specs.declared.node.Node.{Node}
use Rattle.log_node.specs.declared.marks.Mark.{Mark}
use Rattle.log_node.specs.declared.marks.Mark.TheVariants as marks
use Rattle.log_node.specs.declared.marks.Why.TheVariants.{StampEnd}
use Rattle.col_core.specs.declared.Event.{Event}
use Rattle.col_core.specs.declared.Event.TheVariants.{Single, Propose, Settle, Raise, Give, Carry, Trim}
use Rattle.col_core.specs.History.{clock, event_number, last_stamp, IsAtEnd}
use Rattle.col_core.proofs.CallerLemmas.{clock-append, by_test, if_true, if_false, both, apart}
use Rattle.stamp_board.specs.declared.view.Size.{Size}
use Rattle.stamp_board.specs.declared.view.View.{View}
use Rattle.stamp_board.specs.declared.seats.ColumnSeat.{ColumnSeat}
use Rattle.stamp_board.specs.Rows.{IsRow, AreColours}
use Rattle.stamp_board.specs.Views.{Grows, Learns}
use Rattle.stamp_board.specs.Seats.{column_seen, set_mark, IsLaterColumn, SetsNone, SetsMark}
use Rattle.stamp_board.proofs.CallerLemmas.{Learns-from, begun_learnt, outcome_learnt}
use Rattle.chain_store.specs.declared.told.Told.{Told}
use Rattle.chain_store.specs.Histories.{entries_in}
use Rattle.chain_store.specs.Marks.{same_row, proposes, stamps_of, numbers, Backs, IsBacked, IsRowOf, IsEnded}
use Rattle.chain_store.proofs.Entering.{get_cases, map_with}

pub same_row-is : (a b : Row) → same_row a b ≡ true → a ≡ b
same_row-is a b e =
    let p = both (a.client == b.client) (a.number == b.number) e in
    let c = eqb-true a.client b.client p.0 in
    let n = eqb-true a.number b.number p.1 in
    ap (λ (x : ℕ). row x a.number) c ∙ ap (λ (x : ℕ). row b.client x) n where
      row : ℕ → ℕ → Row
      row x y = record { client = x; number = y }

pub same_row-refl : (a : Row) → same_row a a ≡ true
same_row-refl a = rw (eq-eqb a.client a.client refl, eq-eqb a.number a.number refl) refl

-- the stamps of a row in a history with one entry more
pub stamps_with : (row : Row) (log : List Told) (t : Told)
    → stamps_of row (log ++ t ∷ [])
    ≡ stamps_of row log ++ (if proposes row t.entry.event t.nodes then t.entry.stamp ∷ [] else [])
stamps_with row [] t = append-nil (if proposes row t.entry.event t.nodes then t.entry.stamp ∷ [] else [])
stamps_with row (u ∷ log) t =
    ap (λ l. (if proposes row u.entry.event u.nodes then u.entry.stamp ∷ [] else []) ++ l) (stamps_with row log t)
    ∙ sym (append_assoc (if proposes row u.entry.event u.nodes then u.entry.stamp ∷ [] else []) (stamps_of row log)
    (if proposes row t.entry.event t.nodes then t.entry.stamp ∷ [] else []))

-- what is known of a row is known to whom it was told
pub row_learnt : (v w : View) → Learns v w → w.size ≡ v.size → (row : Row) (x : Node) → IsRowOf v row x → IsRowOf w row x
row_learnt v w learns size row x h = record {
  of_row = h.of_row;
  mine = h.mine;
  inside = subst (λ (k : Size). IsRow k row) (sym size) h.inside;
  knows = begun_learnt v w row size learns x h.knows;
  several = subst (λ (k : Size). AreColours k x.colours) (sym size) h.several;
}

-- what backs an entry backs it with whom it was told to
pub backs_learnt : (v w : View) → Learns v w → w.size ≡ v.size → (e : Event) (nodes : List Node) → Backs v e nodes → Backs w e nodes
backs_learnt v w learns size (Single id floor wants) nodes b = tt
backs_learnt v w learns size (Propose id floor wants) nodes b = (b.0, b.1, b.2, row_learnt v w learns size b.1 b.0 b.3)
backs_learnt v w learns size (Settle id outcome) nodes b = (
  b.0,
  b.1,
  b.2,
  row_learnt v w learns size b.1 b.0 b.3,
  outcome_learnt v w b.1 size learns outcome b.4,
)
backs_learnt v w learns size (Raise to) nodes b = tt
backs_learnt v w learns size (Give region from) nodes b = tt
backs_learnt v w learns size (Carry region start heads) nodes b = tt
backs_learnt v w learns size (Trim counts) nodes b = tt

-- the same where more is known
pub row_later : (v w : View) → Grows v w → (row : Row) (x : Node) → IsRowOf v row x → IsRowOf w row x
row_later v w g row x h = row_learnt v w (Learns-from v w g) g.size row x h

pub backs_later : (v w : View) → Grows v w → (e : Event) (nodes : List Node) → Backs v e nodes → Backs w e nodes
backs_later v w g e nodes b = backs_learnt v w (Learns-from v w g) g.size e nodes b

-- a row that was fenced for the stamps' end is so where more is known
pub ended_later : (v w : View) → Grows v w → (row : Row) (log : List Told) → IsEnded v row log → IsEnded w row log
ended_later v w g row log h = record {
  node = h.node;
  knows = begun_learnt v w row g.size (Learns-from v w g) h.node h.knows;
  ends = h.ends;
}

-- where no stamp is left for a floor, none is left after one more event
pub ends_more : (log : List Told) (t : Told) (floor : ℕ) → event_number t.entry.event t.entry.stamp ≤ last_stamp
    → IsAtEnd (entries_in log) floor → IsAtEnd (entries_in (log ++ t ∷ [])) floor
ends_more log t floor small ends =
    let c : clock (entries_in (log ++ t ∷ [])) ≡ max (clock (entries_in log)) (event_number t.entry.event t.entry.stamp) =
    ap clock (map_with (λ (u : Told). u.entry) log t) ∙ clock-append (entries_in log) t.entry in
    omega (arith, c, small, ends)

pub ended_more : (v : View) (row : Row) (log : List Told) (t : Told) → event_number t.entry.event t.entry.stamp ≤ last_stamp
    → IsEnded v row log → IsEnded v row (log ++ t ∷ [])
ended_more v row log t small h = record {
  node = h.node;
  knows = h.knows;
  ends = ends_more log t h.node.floor small h.ends;
}

-- no mark was set and no entry added
pub backed_same : (s t : ColumnSeat) (log : List Told) → IsLaterColumn s t → SetsNone s t → IsBacked s log
    → IsBacked t log
backed_same s t log later none h = record {
  numbered = λ row inside. h.numbered row (subst (λ (k : Size). IsRow k row) later.grows.size inside)
      ∙ ap numbers (sym (none row));
  backs = λ n u at. backs_later (column_seen s) (column_seen t) later.grows u.entry.event u.nodes (h.backs n u at);
  ended = λ row inside fenced. ended_later (column_seen s) (column_seen t) later.grows row log
      (h.ended row (subst (λ (k : Size). IsRow k row) later.grows.size inside) (sym (none row) ∙ fenced));
}

-- an entry was added that proposes nothing, and is backed
pub backed_more : (s : ColumnSeat) (log : List Told) (t : Told) → ((row : Row) → proposes row t.entry.event t.nodes ≡ false)
    → event_number t.entry.event t.entry.stamp ≤ last_stamp
    → Backs (column_seen s) t.entry.event t.nodes → IsBacked s log → IsBacked s (log ++ t ∷ [])
backed_more s log t none small back h = record {
  numbered = λ row inside. stamps_with row log t
      ∙ ap (λ l. stamps_of row log ++ l)
      (if_false (proposes row t.entry.event t.nodes) (t.entry.stamp ∷ []) [] (none row))
      ∙ append-nil (stamps_of row log) ∙ h.numbered row inside;
  backs = λ n u at. elim (get_cases log t n u at) [
    | inl old ↦ h.backs n u old
    | inr same ↦ subst (λ (v : Told). Backs (column_seen s) v.entry.event v.nodes) same back
  ];
  ended = λ row inside fenced. ended_more (column_seen s) row log t small (h.ended row inside fenced);
}

module _ (s t : ColumnSeat) (row : Row) (m : Mark) (later : IsLaterColumn s t) (sets : SetsMark s t row m)
    (inside : IsRow (column_seen s).size row) where
  old_row : (other : Row) → IsRow (column_seen t).size other → IsRow (column_seen s).size other
  old_row other i = subst (λ (k : Size). IsRow k other) later.grows.size i

  differ : (other : Row) → same_row other row ≡ false → other ≢ row
  differ other unlike is =
      apart (same_row other row) (subst (λ (r : Row). same_row r row ≡ true) (sym is) (same_row-refl row)) unlike

  -- a fence of another row was there before
  old_fence : (other : Row) → IsRow (column_seen t).size other → set_mark t other ≡ marks.Fenced StampEnd
      → (m ≡ marks.Fenced StampEnd) ⊎ (set_mark s other ≡ marks.Fenced StampEnd)
  old_fence other i fenced = by_test ((m ≡ marks.Fenced StampEnd) ⊎ (set_mark s other ≡ marks.Fenced StampEnd))
      (same_row other row)
      (λ yes. inl (sym sets.set ∙ ap (set_mark t) (sym (same_row-is other row yes)) ∙ fenced))
      (λ no. inr (sym (sets.others other inside (old_row other i) (differ other no)) ∙ fenced))

  -- the row was fenced, and no entry added
  pub backed_fenced : (log : List Told) → numbers m ≡ []
      → (m ≡ marks.Fenced StampEnd → IsEnded (column_seen s) row log) → IsBacked s log → IsBacked t log
  backed_fenced log fence ends h = record {
    numbered = λ other i. by_test (stamps_of other log ≡ numbers (set_mark t other)) (same_row other row)
        (λ yes.
        let is = same_row-is other row yes in
        subst (λ (r : Row). stamps_of r log ≡ numbers (set_mark t r)) (sym is)
        (h.numbered row inside ∙ ap numbers sets.unset ∙ sym fence ∙ ap numbers (sym sets.set)))
        (λ no. h.numbered other (old_row other i)
        ∙ ap numbers (sym (sets.others other inside (old_row other i) (differ other no))));
    backs = λ n u at. backs_later (column_seen s) (column_seen t) later.grows u.entry.event u.nodes (h.backs n u at);
    ended = λ other i fenced. ended_later (column_seen s) (column_seen t) later.grows other log
        (by_test (IsEnded (column_seen s) other log) (same_row other row)
        (λ yes.
        let is = same_row-is other row yes in
        subst (λ (r : Row). IsEnded (column_seen s) r log) (sym is)
        (ends (sym sets.set ∙ ap (set_mark t) (sym is) ∙ fenced)))
        (λ no. h.ended other (old_row other i)
        (sym (sets.others other inside (old_row other i) (differ other no)) ∙ fenced)));
  }

  -- the row was marked with a number, and its node proposed under it
  pub backed_proposed : (log : List Told) (u : Told) → m ≡ marks.Number u.entry.stamp
      → event_number u.entry.event u.entry.stamp ≤ last_stamp
      → proposes row u.entry.event u.nodes ≡ true
      → ((other : Row) → proposes other u.entry.event u.nodes ≡ true → row ≡ other)
      → Backs (column_seen s) u.entry.event u.nodes → IsBacked s log → IsBacked t (log ++ u ∷ [])
  backed_proposed log u is small shown only back h = record {
    numbered = λ other i. by_test (stamps_of other (log ++ u ∷ []) ≡ numbers (set_mark t other))
        (proposes other u.entry.event u.nodes)
        (λ it.
        let same = only other it in
        subst (λ (r : Row). stamps_of r (log ++ u ∷ []) ≡ numbers (set_mark t r)) same
        (stamps_with row log u
        ∙ ap (λ l. l ++ (if proposes row u.entry.event u.nodes then u.entry.stamp ∷ [] else []))
        (h.numbered row inside ∙ ap numbers sets.unset)
        ∙ if_true (proposes row u.entry.event u.nodes) (u.entry.stamp ∷ []) [] shown
        ∙ sym (ap numbers (sets.set ∙ is))))
        (λ no.
        stamps_with other log u
        ∙ ap (λ l. stamps_of other log ++ l)
        (if_false (proposes other u.entry.event u.nodes) (u.entry.stamp ∷ []) [] no)
        ∙ append-nil (stamps_of other log) ∙ h.numbered other (old_row other i)
        ∙ ap numbers (sym (sets.others other inside (old_row other i)
        (λ same. apart (proposes other u.entry.event u.nodes)
        (subst (λ (r : Row). proposes r u.entry.event u.nodes ≡ true) (sym same) shown) no))));
    backs = λ n v at. elim (get_cases log u n v at) [
      | inl old ↦ backs_later (column_seen s) (column_seen t) later.grows v.entry.event v.nodes (h.backs n v old)
      | inr same ↦
          subst (λ (w : Told). Backs (column_seen t) w.entry.event w.nodes) same
          (backs_later (column_seen s) (column_seen t) later.grows u.entry.event u.nodes back)
    ];
    ended = λ other i fenced. elim (old_fence other i fenced) [
      | inl end ↦
          absurd (let f : marks.Number u.entry.stamp ≡ marks.Fenced StampEnd = sym is ∙ end in let g : ⊥ = cc in g)
      | inr was ↦
          ended_more (column_seen t) other log u small
          (ended_later (column_seen s) (column_seen t) later.grows other log (h.ended other (old_row other i) was))
    ];
  }
