-- The rows with which a region closes are lawful beside its columns' histories.
use Rattle.std.proofs.Common.{◌≡◌, ◌≢◌, ℕ, zero, suc, ◌<◌, ◌≤◌, Bool, true, false, cond, List, [], ◌∷◌, ◌++◌, length}
use Rattle.std.proofs.Common.{map, get_or, Some, slice_get, slice_index, refl, ap, sym, subst, ◌∙◌, arith, ne_eqb}
use Rattle.std.specs.Prelude.{◌==◌, if◌then◌else◌}
use Rattle.std.specs.List.{All, AllPairs, filter, range_with_len}
use Rattle.std.proofs.lemmas.List.{length-map}
use Rattle.std.proofs.lemmas.Option.{slice_get-get_or}
use Rattle.std.proofs.lemmas.Bool.{false≢true}
use Rattle.std.proofs.lemmas.Simd.{map-map}
use Rattle.std.proofs.lemmas.List.FromFn.{length-range_with_len}
use Rattle.log_node.specs.declared.limits.TheConstants.{MAX_COLOURS}
use Rattle.log_node.specs.declared.ids.Id.{Id}
use Rattle.log_node.specs.declared.ids.Row.{Row}
use Rattle.log_node.specs.declared.ids.Counts.{Counts}
use Rattle.log_node.specs.declared.ids.Colours.{Colours}
use Rattle.log_node.specs.declared.node.Node.{Node}
use Rattle.log_node.specs.Sets.{has, members}
use Rattle.log_node.specs.declared.marks.Why.TheVariants.{Memory, StampEnd}
use Rattle.log_node.specs.declared.marks.Mark.{Mark}
use Rattle.log_node.specs.declared.marks.Mark.TheVariants as marks
use Rattle.log_node.specs.declared.marks.ColourMark.{ColourMark}
use Rattle.log_node.specs.declared.marks.Outcome.{Outcome}
use Rattle.log_node.specs.declared.marks.Outcome.TheVariants.{Open, Gone, Final}
use Rattle.log_node.specs.Outcomes.{outcome_of}
use Rattle.col_core.specs.declared.Event.{Event}
use Rattle.col_core.specs.declared.Event.TheVariants.{Single, Propose, Settle, Raise, Give, Carry, Trim}
use Rattle.col_core.specs.declared.Entry.{Entry}
use Rattle.col_core.specs.History.{IsAtEnd}
use Rattle.col_core.specs.Rows.{BegunRow, FitsRow, FitsRows, FitsMarks, IsMarkOf, Proposes, AreLawfulRows, is_of}
use Rattle.col_core.specs.Rows.{node_wants}
use Rattle.col_core.proofs.CallerLemmas.{by_test, if_true, if_false}
use Rattle.column.specs.Columns.{propose_event}
use Rattle.stamp_board.specs.declared.view.Size.{Size}
use Rattle.stamp_board.specs.declared.view.View.{View}
use Rattle.stamp_board.specs.Words.{row_at, word_at}
use Rattle.stamp_board.specs.Rows.{IsBegun, IsRow, colours_in, decided_in, mark_in, marks_in, outcome_in}
use Rattle.stamp_board.specs.Views.{KnowsBegun, MayBe}
use Rattle.chain_store.specs.declared.told.Told.{Told}
use Rattle.chain_store.specs.Histories.{entries_in, Brings}
use Rattle.chain_store.specs.Marks.{same_row, is_row, is_first_of, proposes, stamps_of, numbers, Backs, IsRowOf}
use Rattle.chain_store.specs.Marks.{IsEnded}
use Rattle.chain_store.proofs.Backing.{same_row-is, same_row-refl}
use Rattle.chain_store.proofs.Places.{all_by, image_at, at_image, member_has, member_at}

abbrev pub colour_mark : ℕ → Mark → ColourMark
colour_mark c m = record { colour = c; mark = m }

-- the begun rows, each once, and each client's in the order 0, 1, 2
pub record Lists (k : Size) (ws : List ℕ) (rows : List Row) : Type 0 where
  pub inside : (i : ℕ) (row : Row) → slice_get rows i ≡ Some row → IsRow k row × IsBegun k ws row
  pub listed : (row : Row) → IsRow k row → IsBegun k ws row → (i : ℕ) × (slice_get rows i ≡ Some row)
  pub once : (i j : ℕ) (a b : Row) → i < j → slice_get rows i ≡ Some a → slice_get rows j ≡ Some b → a ≢ b
  pub order : (client : ℕ)
      → (n : ℕ) × (map (λ (r : Row). r.number) (filter (λ (r : Row). r.client == client) rows) ≡ range_with_len 0 n)

-- each begun row is known as begun for its node, which names it and is of the region
pub record Owned (region : ℕ) (k : Size) (ws : List ℕ) (v : View) (node : Row → Node) : Type 0 where
  pub knows : (row : Row) → IsRow k row → IsBegun k ws row → KnowsBegun v row (node row)
  pub of_row : (row : Row) → IsRow k row → IsBegun k ws row → (node row).row ≡ Some row
  pub in_region : (row : Row) → IsRow k row → IsBegun k ws row → (node row).region ≡ region

-- the column's history agrees with the board and the nodes
pub record Agrees (region : ℕ) (k : Size) (ws : List ℕ) (v : View) (node : Row → Node) (c : ℕ)
    (log : List Told) : Type 0 where
  pub numbered : (row : Row) → IsRow k row → stamps_of row log ≡ numbers (mark_in k ws row c)
  pub ended : (row : Row) → IsRow k row → mark_in k ws row c ≡ marks.Fenced StampEnd
      → IsEnded v row log
  pub brings : (n : ℕ) (t : Told) → slice_get log n ≡ Some t → Brings region c t.entry.event t.nodes
  pub backs : (n : ℕ) (t : Told) → slice_get log n ≡ Some t → Backs v t.entry.event t.nodes
  pub singles : (n : ℕ) (t : Told) (id : Id) (floor : ℕ) (wants : Counts) → slice_get log n ≡ Some t
      → t.entry.event ≡ Single id floor wants → (row : Row) → IsRow k row → IsBegun k ws row → (node row).id ≢ id

-- the entry proposes the node of this row
record IsProposal (v : View) (c : ℕ) (t : Told) (id : Id) (floor : ℕ) (wants : Counts) : Type 0 where
  x : Node
  row : Row
  brought : t.nodes ≡ x ∷ []
  of : IsRowOf v row x
  id_is : x.id ≡ id
  floor_is : x.floor ≡ floor
  wants_are : node_wants x c ≡ wants
  coloured : has x.colours c ≡ true

proposal : (v : View) (region c : ℕ) (t : Told) (id : Id) (floor : ℕ) (wants : Counts)
    → Brings region c (Propose id floor wants) t.nodes → Backs v (Propose id floor wants) t.nodes
    → IsProposal v c t id floor wants
proposal v region c t id floor wants brings backs =
    let x = backs.0 in
    let both : brings.0 ∷ [] ≡ x ∷ [] = sym brings.1 ∙ backs.2 in
    let one : brings.0 ≡ x = cc both in
    let e : Propose id floor wants ≡ propose_event c x = brings.3 ∙ ap (propose_event c) one in
    record {
      x = x;
      row = backs.1;
      brought = backs.2;
      of = backs.3;
      id_is = cc e;
      floor_is = cc e;
      wants_are = cc e;
      coloured = subst (λ (y : Node). has y.colours c ≡ true) one brings.4.coloured;
    }

-- a row that is proposed is proposed by the entry at some place
stamps_place : (row : Row) (log : List Told) (s : ℕ) (rest : List ℕ) → stamps_of row log ≡ s ∷ rest
    → (n : ℕ) × (t : Told) × (slice_get log n ≡ Some t) × (proposes row t.entry.event t.nodes ≡ true) ×
    (t.entry.stamp ≡ s)
stamps_place row [] s rest e = absurd cc
stamps_place row (t ∷ log) s rest e =
    by_test ((n : ℕ) × (u : Told) × (slice_get (t ∷ log) n ≡ Some u) × (proposes row u.entry.event u.nodes ≡ true) ×
    (u.entry.stamp ≡ s))
    (proposes row t.entry.event t.nodes)
    (λ yes. let now : t.entry.stamp ∷ stamps_of row log ≡ s ∷ rest =
    sym (ap (λ l. l ++ stamps_of row log) (if_true (proposes row t.entry.event t.nodes)
    (t.entry.stamp ∷ []) [] yes)) ∙ e in
    (0, t, refl, yes, cc now))
    (λ no. let r = stamps_place row log s rest
    (sym (ap (λ l. l ++ stamps_of row log) (if_false (proposes row t.entry.event t.nodes)
    (t.entry.stamp ∷ []) [] no)) ∙ e) in
    (suc r.0, r.1, r.2, r.3, r.4))

-- where an entry proposes the row, its stamp is among them
stamps_some : (row : Row) (log : List Told) (n : ℕ) (t : Told) → slice_get log n ≡ Some t
    → proposes row t.entry.event t.nodes ≡ true → stamps_of row log ≡ [] → ⊥
stamps_some row [] n t at said none = absurd cc
stamps_some row (u ∷ log) zero t at said none =
    let same : u ≡ t = cc at in
    let now : t.entry.stamp ∷ stamps_of row log ≡ [] =
    sym (ap (λ l. l ++ stamps_of row log) (if_true (proposes row t.entry.event t.nodes) (t.entry.stamp ∷ []) [] said))
    ∙ ap (λ (z : Told). (if proposes row z.entry.event z.nodes then z.entry.stamp ∷ [] else []) ++ stamps_of row log)
    (sym same) ∙ none in
    let f : ⊥ = cc now in f
stamps_some row (u ∷ log) (suc n) t at said none =
    by_test ⊥ (proposes row u.entry.event u.nodes)
    (λ here. let now : u.entry.stamp ∷ stamps_of row log ≡ [] =
    sym (ap (λ l. l ++ stamps_of row log) (if_true (proposes row u.entry.event u.nodes)
    (u.entry.stamp ∷ []) [] here)) ∙ none in
    let f : ⊥ = cc now in f)
    (λ no. stamps_some row log n t at said
    (sym (ap (λ l. l ++ stamps_of row log) (if_false (proposes row u.entry.event u.nodes)
    (u.entry.stamp ∷ []) [] no)) ∙ none))

-- an entry of the histories' entries is a told one's
entry_at : (log : List Told) (n : ℕ) (e : Entry) → slice_get (entries_in log) n ≡ Some e
    → (t : Told) × (slice_get log n ≡ Some t) × (t.entry ≡ e)
entry_at log n e at = image_at (λ (t : Told). t.entry) log n e at

at_entry : (log : List Told) (n : ℕ) (t : Told) → slice_get log n ≡ Some t → slice_get (entries_in log) n ≡ Some t.entry
at_entry log n t at = at_image (λ (t : Told). t.entry) log n t at

-- the event that proposes a row is a proposal
proposing : (row : Row) (event : Event) (nodes : List Node) → proposes row event nodes ≡ true
    → (id : Id) × (floor : ℕ) × (wants : Counts) × (event ≡ Propose id floor wants)
proposing row (Single id floor wants) nodes e = absurd (false≢true e)
proposing row (Propose id floor wants) nodes e = (id, floor, wants, refl)
proposing row (Settle id outcome) nodes e = absurd (false≢true e)
proposing row (Raise to) nodes e = absurd (false≢true e)
proposing row (Give region from) nodes e = absurd (false≢true e)
proposing row (Carry region start heads) nodes e = absurd (false≢true e)
proposing row (Trim counts) nodes e = absurd (false≢true e)

module _ (region : ℕ) (k : Size) (ws : List ℕ) (v : View) (size : v.size ≡ k) (few : k.colours ≤ MAX_COLOURS)
    (board : MayBe k ws v)
    (node : Row → Node) (owned : Owned region k ws v node) where
  -- the row of a node that is known as begun
  pub begun_of : (row : Row) (x : Node) → KnowsBegun v row x → IsBegun k ws row
  begun_of row x knows = (board.begun row x knows).0

  pub node_is : (row : Row) (x : Node) → IsRow k row → KnowsBegun v row x → x ≡ node row
  node_is row x inside knows = board.one_node row x (node row) knows (owned.knows row inside (begun_of row x knows))

  in_size : (row : Row) → IsRow v.size row → IsRow k row
  in_size row inside = subst (λ (s : Size). IsRow s row) size inside

  module _ (c : ℕ) (log : List Told) (a : Agrees region k ws v node c log) where
    -- the proposal at a place
    proposed : (n : ℕ) (t : Told) (id : Id) (floor : ℕ) (wants : Counts) → slice_get log n ≡ Some t
        → t.entry.event ≡ Propose id floor wants → IsProposal v c t id floor wants
    proposed n t id floor wants at is = proposal v region c t id floor wants
        (subst (λ (e : Event). Brings region c e t.nodes) is (a.brings n t at))
        (subst (λ (e : Event). Backs v e t.nodes) is (a.backs n t at))

    -- a mark that is a number was proposed under it
    is_proposed : (row : Row) (s : ℕ) → IsRow k row → IsBegun k ws row → mark_in k ws row c ≡ marks.Number s
        → Proposes (entries_in log) (node row).id s
    is_proposed row s inside begun is =
        let p = stamps_place row log s [] (a.numbered row inside ∙ ap numbers is) in
        let e = proposing row p.1.entry.event p.1.nodes p.3 in
        let q = proposed p.0 p.1 e.0 e.1 e.2 p.2 e.3 in
        let here : is_row row q.x.row ≡ true =
        sym (ap (λ ev. proposes row ev p.1.nodes) e.3 ∙ ap (is_first_of row) q.brought) ∙ p.3 in
        let same : q.row ≡ row = same_row-is q.row row (sym (ap (is_row row) q.of.of_row) ∙ here) in
        let known : KnowsBegun v row q.x = subst (λ (r : Row). KnowsBegun v r q.x) same q.of.knows in
        let own : q.x ≡ node row = node_is row q.x inside known in
        let id_is : e.0 ≡ (node row).id = sym q.id_is ∙ ap (λ (y : Node). y.id) own in (
          p.0,
          p.1.entry,
          e.1,
          e.2,
          at_entry log p.0 p.1 p.2,
          e.3 ∙ ap (λ (i : Id). Propose i e.1 e.2) id_is,
          p.4,
        )

    -- where the mark is no number, the row was not proposed
    not_proposed : (row : Row) → IsRow k row → IsBegun k ws row → numbers (mark_in k ws row c) ≡ []
        → (s : ℕ) → Proposes (entries_in log) (node row).id s → ⊥
    not_proposed row inside begun none s p =
        let t = entry_at log p.0 p.1 p.4 in
        let q = proposed p.0 t.0 (node row).id p.2 p.3 t.1 (ap (λ (e : Entry). e.event) t.2 ∙ p.5) in
        let other = in_size q.row q.of.inside in
        let same : q.row ≡ row =
        board.ids q.row row q.x (node row) other inside q.of.knows (owned.knows row inside begun) q.id_is in
        let here : proposes row t.0.entry.event t.0.nodes ≡ true =
        ap (λ (e : Event). proposes row e t.0.nodes) (ap (λ (e : Entry). e.event) t.2 ∙ p.5)
        ∙ ap (is_first_of row) q.brought ∙ ap (is_row row) q.of.of_row ∙ ap (λ (r : Row). same_row r row) same
        ∙ same_row-refl row in
        stamps_some row log p.0 t.0 t.1 here (a.numbered row inside ∙ none)

    is_mark : (row : Row) → IsRow k row → IsBegun k ws row → (m : Mark) → mark_in k ws row c ≡ m
        → IsMarkOf (entries_in log) (node row) m
    is_mark row inside begun marks.None is = not_proposed row inside begun (ap numbers is)
    is_mark row inside begun (marks.Number s) is = is_proposed row s inside begun is
    is_mark row inside begun (marks.Fenced Memory) is = not_proposed row inside begun (ap numbers is)
    is_mark row inside begun (marks.Fenced StampEnd) is =
        let e = a.ended row inside is in (
          not_proposed row inside begun (ap numbers is),
          subst (λ (y : Node). IsAtEnd (entries_in log) y.floor) (node_is row e.node inside e.knows) e.ends,
        )

  -- the row as the region closes with it
  abbrev pub begun_row : Row → BegunRow
  begun_row row = record { row = row; node = node row; marks = marks_in k ws row; last = decided_in k ws row }

  colours_are : (row : Row) → IsRow k row → IsBegun k ws row → colours_in k ws row ≡ (node row).colours
  colours_are row inside begun = (board.begun row (node row) (owned.knows row inside begun)).1

  pub marks_are : (row : Row)
      → map (λ (m : ColourMark). m.mark) (marks_in k ws row) ≡ map (mark_in k ws row) (members (colours_in k ws row))
  marks_are row = map-map (λ (m : ColourMark). m.mark)
      (λ (c : ℕ). record { colour = c; mark = mark_in k ws row c }) (members (colours_in k ws row))

  same_list : (cs : List ℕ) → map (λ (c : ℕ). c) cs ≡ cs
  same_list [] = refl
  same_list (c ∷ cs) = ap (λ l. c ∷ l) (same_list cs)

  fits_row : (row : Row) → IsRow k row → IsBegun k ws row → FitsRow region (begun_row row)
  fits_row row inside begun = record {
    client = board.clients row (node row) inside (owned.knows row inside begun);
    row = owned.of_row row inside begun;
    in_region = owned.in_region row inside begun;
    several = subst (λ (s : Colours). 2 ≤ length (members s)) (colours_are row inside begun)
        (board.colours row begun).many;
    a_mark_each = map-map (λ (m : ColourMark). m.colour)
        (λ (c : ℕ). record { colour = c; mark = mark_in k ws row c }) (members (colours_in k ws row))
        ∙ same_list (members (colours_in k ws row)) ∙ ap members (colours_are row inside begun);
  }

  outcome_is : (row : Row) → IsBegun k ws row
      → outcome_in k ws row ≡ outcome_of (map (λ (m : ColourMark). m.mark) (marks_in k ws row))
  outcome_is row begun = if_false (slice_index ws (word_at k (row_at k row) 0) == 0) Open
      (outcome_of (map (mark_in k ws row) (members (colours_in k ws row)))) (ne_eqb _ 0 begun)
      ∙ ap outcome_of (sym (marks_are row))

  fits_marks : (row : Row) → IsBegun k ws row → (o : Outcome) → decided_in k ws row ≡ o
      → FitsMarks (map (λ (m : ColourMark). m.mark) (marks_in k ws row)) o
  fits_marks row begun Open is = tt
  fits_marks row begun (Gone why) is =
      sym (outcome_is row begun) ∙ sym (board.decided row (λ none. let f : ⊥ = cc (none, is) in f)) ∙ is
  fits_marks row begun (Final f) is =
      sym (outcome_is row begun) ∙ sym (board.decided row (λ none. let f : ⊥ = cc (none, is) in f)) ∙ is

  module _ (rows : List Row) (lists : Lists k ws rows) where
    abbrev pub begun_rows : List BegunRow
    begun_rows = map begun_row rows

    -- a begun row among them
    pub row_at_place : (i : ℕ) (r : BegunRow) → slice_get begun_rows i ≡ Some r
        → (row : Row) × (slice_get rows i ≡ Some row) × (begun_row row ≡ r) × IsRow k row × IsBegun k ws row
    row_at_place i r at = let t = image_at begun_row rows i r at in let h = lists.inside i t.0 t.1 in
        (t.0, t.1, t.2, h.0, h.1)

    each_row : (P : BegunRow → Type 0) → ((row : Row) → IsRow k row → IsBegun k ws row → P (begun_row row))
        → All P begun_rows
    each_row P h = all_by P begun_rows (λ i r at. let t = row_at_place i r at in subst P t.2 (h t.0 t.3 t.4))

    pub begun_place : (row : Row) → IsRow k row → IsBegun k ws row
        → (n : ℕ) × (slice_get begun_rows n ≡ Some (begun_row row))
    begun_place row inside begun = let t = lists.listed row inside begun in (t.0, at_image begun_row rows t.0 row t.1)

    ids_apart : AllPairs (λ (r s : BegunRow). r.node.id ≢ s.node.id) begun_rows
    ids_apart = λ i j d lt near same.
        let a = row_at_place i (get_or begun_rows i d) (slice_get-get_or begun_rows i d (omega arith)) in
        let b = row_at_place j (get_or begun_rows j d) (slice_get-get_or begun_rows j d near) in
        lists.once i j a.0 b.0 lt a.1 b.1 (board.ids a.0 b.0 (node a.0) (node b.0) a.3 b.3
        (owned.knows a.0 a.3 a.4) (owned.knows b.0 b.3 b.4)
        (ap (λ (r : BegunRow). r.node.id) a.2 ∙ same ∙ sym (ap (λ (r : BegunRow). r.node.id) b.2)))

    -- the rows of a client
    of_client : (client : ℕ) (rs : List Row)
        → map (λ (r : BegunRow). r.row.number) (filter (is_of client) (map begun_row rs))
        ≡ map (λ (r : Row). r.number) (filter (λ (r : Row). r.client == client) rs)
    of_client client [] = refl
    of_client client (r ∷ rs) = by_case (r.client == client) (of_client client rs) where
      by_case : (b : Bool)
          → map (λ (r : BegunRow). r.row.number) (filter (is_of client) (map begun_row rs))
          ≡ map (λ (r : Row). r.number) (filter (λ (r : Row). r.client == client) rs)
          → map (λ (r : BegunRow). r.row.number) (cond b (begun_row r ∷ filter (is_of client) (map begun_row rs))
          (filter (is_of client) (map begun_row rs)))
          ≡ map (λ (r : Row). r.number)
          (cond b (r ∷ filter (λ (r : Row). r.client == client) rs) (filter (λ (r : Row). r.client == client) rs))
      by_case true e = ap (λ l. r.number ∷ l) e
      by_case false e = e

    ordered : (client : ℕ) → map (λ (r : BegunRow). r.row.number) (filter (is_of client) begun_rows)
        ≡ range_with_len 0 (length (filter (is_of client) begun_rows))
    ordered client =
        let t = lists.order client in
        let e = of_client client rows ∙ t.1 in
        let long = sym (length-map (filter (is_of client) begun_rows) (λ (r : BegunRow). r.row.number)) ∙ ap length e
        ∙ length-range_with_len 0 t.0 in
        e ∙ ap (range_with_len 0) (sym long)

    module _ (c : ℕ) (inside_c : c < k.colours) (log : List Told) (a : Agrees region k ws v node c log) where
      fits_proposal : (n : ℕ) (t : Told) (id : Id) (floor : ℕ) (wants : Counts) → slice_get log n ≡ Some t
          → t.entry.event ≡ Propose id floor wants → FitsRows begun_rows c (Propose id floor wants)
      fits_proposal n t id floor wants at is =
          let q = proposed c log a n t id floor wants at is in
          let inside = in_size q.row q.of.inside in
          let begun = begun_of q.row q.x q.of.knows in
          let own : q.x ≡ node q.row = node_is q.row q.x inside q.of.knows in
          let p = begun_place q.row inside begun in
          let m = member_at (node q.row).colours c (omega (arith, inside_c, few))
          (subst (λ (y : Node). has y.colours c ≡ true) own q.coloured) in (
            p.0,
            begun_row q.row,
            p.1,
            sym (ap (λ (y : Node). y.id) own) ∙ q.id_is,
            sym (ap (λ (y : Node). node_wants y c) own) ∙ q.wants_are,
            sym (ap (λ (y : Node). y.floor) own) ∙ q.floor_is,
            m.0,
            m.1,
          )

      fits_settling : (n : ℕ) (t : Told) (id : Id) (outcome : Outcome) → slice_get log n ≡ Some t
          → t.entry.event ≡ Settle id outcome → FitsRows begun_rows c (Settle id outcome)
      fits_settling n t id outcome at is =
          let q = subst (λ (e : Event). Backs v e t.nodes) is (a.backs n t at) in
          let x = q.0 in
          let row = q.1 in
          let inside = in_size row q.3.inside in
          let own : x ≡ node row = node_is row x inside q.3.knows in
          let p = begun_place row inside (begun_of row x q.3.knows) in
          (p.0, begun_row row, p.1, sym (ap (λ (y : Node). y.id) own) ∙ q.2, board.outcomes row outcome q.4)

      fits_rows : (n : ℕ) (t : Told) → slice_get log n ≡ Some t → (e : Event) → t.entry.event ≡ e
          → FitsRows begun_rows c e
      fits_rows n t at (Single id floor wants) is = each_row (λ (r : BegunRow). r.node.id ≢ id)
          (λ row inside begun. a.singles n t id floor wants at is row inside begun)
      fits_rows n t at (Propose id floor wants) is = fits_proposal n t id floor wants at is
      fits_rows n t at (Settle id outcome) is = fits_settling n t id outcome at is
      fits_rows n t at (Raise to) is = tt
      fits_rows n t at (Give region from) is = tt
      fits_rows n t at (Carry region start heads) is = tt
      fits_rows n t at (Trim counts) is = tt

      event_fits : All (λ (e : Entry). FitsRows begun_rows c e.event) (entries_in log)
      event_fits = all_by (λ (e : Entry). FitsRows begun_rows c e.event) (entries_in log)
          (λ n e at. let t = entry_at log n e at in
          fits_rows n t.0 t.1 e.event (ap (λ (x : Entry). x.event) t.2))

    pub lawful_rows : (logs : ℕ → List Told) → ((c : ℕ) → c < k.colours → Agrees region k ws v node c (logs c))
        → AreLawfulRows region k.colours (λ (c : ℕ). entries_in (logs c)) begun_rows
    lawful_rows logs agree = record {
      in_order = ordered;
      fit = each_row (FitsRow region) fits_row;
      ids_differ = ids_apart;
      marks = each_row
          (λ (r : BegunRow). All (λ (m : ColourMark). IsMarkOf (entries_in (logs m.colour)) r.node m.mark) r.marks)
          (λ row inside begun. all_by (λ (m : ColourMark). IsMarkOf (entries_in (logs m.colour)) (node row) m.mark)
          (marks_in k ws row)
          (λ i m at. let t = image_at (λ (c : ℕ). colour_mark c (mark_in k ws row c))
          (members (colours_in k ws row)) i m at in
          let in_c : t.0 < k.colours =
          (board.colours row begun).within t.0 (member_has (colours_in k ws row) i t.0 t.1) in
          subst (λ (m : ColourMark). IsMarkOf (entries_in (logs m.colour)) (node row) m.mark) t.2
          (is_mark t.0 (logs t.0) (agree t.0 in_c) row inside begun (mark_in k ws row t.0) refl)));
      outcomes = each_row (λ (r : BegunRow). FitsMarks (map (λ (m : ColourMark). m.mark) r.marks) r.last)
          (λ row inside begun. fits_marks row begun (decided_in k ws row) refl);
      events = λ c lt. event_fits c lt (logs c) (agree c lt);
    }
