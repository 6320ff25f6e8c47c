-- Rows of a region, part by part.
use Rattle.std.proofs.Common.{◌≡◌, ◌≢◌, ◌⊎◌, ℕ, suc, ◌+◌, ◌<◌, ◌≤◌, Bool, true, false, List, [], ◌∷◌, length, map, get_or, Option, Some, None, ap, sym, subst, ◌∙◌, inl, inr, refl, arith}
use Rattle.std.specs.Prelude.{slice_get, slice_index, is_none, nat_eq, ◌==◌, ◌||◌, IsTrue}
use Rattle.std.specs.List.{All, AllPairs, filter, list_any, range_with_len}
use Rattle.std.proofs.lemmas.Bool.{cases_Bool, cases_lt, cases_order, true≢false, eqb-true, eqb-false, eq-eqb}
use Rattle.std.proofs.lemmas.List.{get_or-map, length-map}
use Rattle.std.proofs.lemmas.List.Elements.{All-map, All-weaker}
use Rattle.std.proofs.lemmas.Option.{get_or_from_slice_get, slice_get_read, slice_get_within}
use Rattle.log_node.specs.declared.ids.Id.{Id}
use Rattle.log_node.specs.declared.ids.Counts.{Counts}
use Rattle.log_node.specs.declared.node.Node.{Node}
use Rattle.log_node.specs.declared.marks.ColourMark.{ColourMark}
use Rattle.log_node.specs.declared.marks.Mark.{Mark}
use Rattle.log_node.specs.declared.marks.Outcome.{Outcome}
use Rattle.log_node.specs.declared.marks.Outcome.TheVariants.{Open, Gone, Final}
use Rattle.log_node.specs.Outcomes.{outcome_of}
use Rattle.log_node.specs.Sets.{members, set_of}
use Rattle.log_node.proofs.CallerLemmas.{get_map, get_map_back, get_within, same_some}
use Rattle.col_core.specs.declared.Event.TheVariants.{Propose}
use Rattle.col_core.specs.declared.Entry.{Entry}
use Rattle.col_core.specs.Rows.{BegunRow, FitsMarks, FitsRow, FitsRows, IsMarkOf, is_of, node_wants, wants_of}
use Rattle.col_core.proofs.CallerLemmas.{any_in, if_true, if_false, slice_in}
use Rattle.script_text.specs.declared.script.Script.{Script}
use Rattle.report_text.specs.declared.report.ColumnReport.{ColumnReport}
use Rattle.report_text.specs.declared.report.RowReport.{RowReport}
use Rattle.lawful_run.specs.Columns.{IsClientIn}
use Rattle.column_track.specs.Tracks.{Tells, Tracked}
use Rattle.run_rules.specs.Telling.{marked_colours, proposal_in, wants_or}
use Rattle.log_node.specs.declared.limits.TheConstants.{MAX_COLOURS}
use Rattle.walk_law.proofs.RisingLemmas.{members_rising, rising_below, rising_members}
use Rattle.walk_law.specs.RowsBeside.{RiseFrom, AreBegun, FitColumns, AreBeside, AreInOrder, AreMarksOf, AreRowsBeside, FitRows, HasMarksBelow, HasMarks, HasOutcomeOf, HasRising, HasRow, HaveOwnIds, IsAtPlace, IsMarkedBeside, IsRowAlone, ProposesFirst, bare_row, floor_beside, histories_in, history_or, rows_by}

-- TRACKS BESIDE COLUMNS

-- so many of both
pub beside_long : (columns : List ColumnReport) (tracks : List Tracked) → AreBeside columns tracks → length tracks ≡ length columns
beside_long columns tracks are =
    sym (length-map tracks (λ (t : Tracked). t.journal)) ∙ (ap length are ∙ length-map columns (λ (c : ColumnReport). c.journal))

-- at each colour those of one journal
pub beside_at : (columns : List ColumnReport) (tracks : List Tracked) → AreBeside columns tracks → (i : ℕ) (c : ColumnReport)
    (t : Tracked) → i < length columns → c ≡ get_or columns i c → t ≡ get_or tracks i t → t.journal ≡ c.journal
beside_at columns tracks are i c t lt is_c is_t =
    let long = beside_long columns tracks are in
    let one = get_or-map (λ (x : Tracked). x.journal) tracks i t [] (omega (arith, lt, long)) in
    let other = get_or-map (λ (x : ColumnReport). x.journal) columns i c [] lt in
    ap (λ (x : Tracked). x.journal) is_t
    ∙ (sym one ∙ (ap (λ (l : List (List Entry)). get_or l i []) are ∙ (other ∙ ap (λ (x : ColumnReport). x.journal) (sym is_c))))

-- what stands at a colour's place
pub history_there : (columns : List ColumnReport) (i : ℕ) (c : ColumnReport) → i < length columns → c ≡ get_or columns i c
    → histories_in columns i ≡ c.journal
history_there columns i c lt is = ap history_or (slice_get_read columns (length columns) i c refl lt is)

pub history_at : (columns : List ColumnReport) (i : ℕ) (c : ColumnReport) → slice_get columns i ≡ Some c → histories_in columns i ≡ c.journal
history_at columns i c at = ap history_or at

-- A ROW BY ITSELF

pub client_there : (script : Script) (region client home : ℕ) → slice_get script.shape.homes client ≡ Some home → (b : Bool)
    → b ≡ nat_eq home region → Tells b (IsClientIn script region client)
client_there script region client home at b is = by b (sym is) where
  index : slice_index script.shape.homes client ≡ home
  index = get_or_from_slice_get script.shape.homes client home 0 at

  by : (t : Bool) → nat_eq home region ≡ t → Tells t (IsClientIn script region client)
  by true t = (slice_get_within script.shape.homes client home at, index ∙ eqb-true home region t)
  by false f = λ there. eqb-false home region f (sym index ∙ there.1)

pub client_none : (script : Script) (region client : ℕ) → slice_get script.shape.homes client ≡ None → IsClientIn script region client → ⊥
client_none script region client none there =
    let one = get_within script.shape.homes client there.0 in
    let f : ⊥ = cc (one.1, none) in f

pub alone_told : (script : Script) (region : ℕ) (r : RowReport) (b : Bool) → script.shape.colours ≤ MAX_COLOURS → r.region ≡ region
    → r.id.client ≡ r.row.client → 2 ≤ length r.marks → IsClientIn script region r.row.client
    → Tells b (RiseFrom 0 script.shape.colours r.marks) → Tells b (IsRowAlone script region r)
alone_told script region r true few in_region own_id several of_client rises = record {
  in_region = in_region;
  of_client = of_client;
  own_id = own_id;
  several = several;
  below = rising_below 0 script.shape.colours r.marks rises;
  rising = rising_members script.shape.colours r.marks few rises;
}
alone_told script region r false few in_region own_id several of_client falls = λ alone.
    falls (members_rising script.shape.colours r.marks alone.below alone.rising)

-- MARKS

pub mark_as : (h journal : List Entry) (node : Node) (mark m : Mark) (b : Bool) → h ≡ journal → mark ≡ m
    → Tells b (IsMarkOf journal node m) → Tells b (IsMarkOf h node mark)
mark_as h journal node mark m b same is told =
    subst (λ (x : List Entry). Tells b (IsMarkOf x node mark)) (sym same)
    (subst (λ (k : Mark). Tells b (IsMarkOf journal node k)) (sym is) told)

-- marks and outcome
pub marked_told : (columns : List ColumnReport) (r : RowReport) (b : Bool) → AreMarksOf columns r → Tells b (HasOutcomeOf r)
    → Tells b (IsMarkedBeside columns r)
marked_told columns r true marks told = (marks, told)
marked_told columns r false marks fails = λ both. fails both.1

-- OUTCOMES

pub open_fits : (r : RowReport) → r.last ≡ Open → HasOutcomeOf r
open_fits r is = subst (FitsMarks (map (λ (m : ColourMark). m.mark) r.marks)) (sym is) tt

pub outcome_fits : (r : RowReport) (b : Bool) → (r.last ≡ Open → ⊥)
    → Tells b (outcome_of (map (λ (m : ColourMark). m.mark) r.marks) ≡ r.last) → Tells b (HasOutcomeOf r)
outcome_fits r b decided told = by b r.last refl told where
  marks : List Mark
  marks = map (λ (m : ColourMark). m.mark) r.marks

  by : (t : Bool) (last : Outcome) → r.last ≡ last → Tells t (outcome_of marks ≡ r.last) → Tells t (FitsMarks marks r.last)
  by t Open is h = absurd (decided is)
  by true (Gone why) is h = subst (FitsMarks marks) (sym is) (h ∙ is)
  by true (Final f) is h = subst (FitsMarks marks) (sym is) (h ∙ is)
  by false (Gone why) is h = λ fits. h (subst (FitsMarks marks) is fits ∙ sym is)
  by false (Final f) is h = λ fits. h (subst (FitsMarks marks) is fits ∙ sym is)

-- EVENTS

-- the row of an id, as one of those with bare nodes
pub bare_at : (columns : List ColumnReport) (rows : List RowReport) (n : ℕ) (r : RowReport) → slice_get rows n ≡ Some r
    → slice_get (map (bare_row columns) rows) n ≡ Some (bare_row columns r)
bare_at columns rows n r at = get_map (bare_row columns) rows n r at

-- two rows with one id are one
pub same_row : (rows : List RowReport) → HaveOwnIds rows → (m n : ℕ) (r s : RowReport) → slice_get rows m ≡ Some r
    → slice_get rows n ≡ Some s → r.id ≡ s.id → m ≡ n
same_row rows apart m n r s at_m at_n same = by (cases_order m n) where
  ids : (i j : ℕ) (x y : RowReport) → slice_get rows i ≡ Some x → slice_get rows j ≡ Some y → x.id ≡ y.id → i < j → ⊥
  ids i j x y at_i at_j e lt =
      let low = slice_get_within rows j y at_j in
      apart i j x lt low
      (ap (λ (z : RowReport). z.id) (get_or_from_slice_get rows i x x at_i)
      ∙ (e ∙ ap (λ (z : RowReport). z.id) (sym (get_or_from_slice_get rows j y x at_j))))

  by : (m ≡ n) ⊎ ((m < n) ⊎ (n < m)) → m ≡ n
  by (inl e) = e
  by (inr (inl lt)) = absurd (ids m n r s at_m at_n same lt)
  by (inr (inr lt)) = absurd (ids n m s r at_n at_m (sym same) lt)

module _ (columns : List ColumnReport) (rows : List RowReport) (o : Option ℕ) (id : Id) where
  abbrev bares : List BegunRow
  bares = map (bare_row columns) rows

  -- a single
  pub single_told : HasRow rows id o → (b : Bool) → b ≡ is_none o → Tells b (All (λ (r : BegunRow). r.node.id ≢ id) bares)
  single_told has b is = by o has b is where
    by : (p : Option ℕ) → HasRow rows id p → (t : Bool) → t ≡ is_none p → Tells t (All (λ (r : BegunRow). r.node.id ≢ id) bares)
    by None all true e = All-map (λ (r : BegunRow). r.node.id ≢ id) (bare_row columns) rows all
    by None all false e = absurd (true≢false (sym e))
    by (Some n) there true e = absurd (true≢false e)
    by (Some n) there false e = λ all.
        let r = there.0 in
        let at = bare_at columns rows n r there.1 in
        let lt = slice_get_within bares n (bare_row columns r) at in
        all n (bare_row columns r) lt
        (ap (λ (x : BegunRow). x.node.id) (get_or_from_slice_get bares n (bare_row columns r) (bare_row columns r) at) ∙ there.2)

  -- a settling
  pub settle_told : HaveOwnIds rows → HasRow rows id o → (outcome : Outcome) (b : Bool)
      → Tells b (IsAtPlace rows o (λ n r. r.last ≡ outcome))
      → Tells b ((n : ℕ) × (r : BegunRow) × (slice_get bares n ≡ Some r) × (r.node.id ≡ id) × (r.last ≡ outcome))
  settle_told apart has outcome b told = by o has b told where
    Settled : Type 0
    Settled = (n : ℕ) × (r : BegunRow) × (slice_get bares n ≡ Some r) × (r.node.id ≡ id) × (r.last ≡ outcome)

    by : (p : Option ℕ) → HasRow rows id p → (t : Bool) → Tells t (IsAtPlace rows p (λ n r. r.last ≡ outcome))
        → Tells t ((n : ℕ) × (r : BegunRow) × (slice_get bares n ≡ Some r) × (r.node.id ≡ id) × (r.last ≡ outcome))
    by None all true h = absurd h
    by None all false h = λ s.
        let back = get_map_back (bare_row columns) rows s.0 s.1 s.2 in
        let lt = slice_get_within rows s.0 back.0 back.1 in
        all s.0 back.0 lt
        (ap (λ (x : RowReport). x.id) (get_or_from_slice_get rows s.0 back.0 back.0 back.1)
        ∙ (ap (λ (x : BegunRow). x.node.id) back.2 ∙ s.3))
    by (Some n) there true h =
        let same : there.0 ≡ h.0 = same_some (sym there.1 ∙ h.1) in
        (n, bare_row columns h.0, bare_at columns rows n h.0 h.1, ap (λ (x : RowReport). x.id) (sym same) ∙ there.2, h.2)
    by (Some n) there false h = λ s.
        let back = get_map_back (bare_row columns) rows s.0 s.1 s.2 in
        let ids : there.0.id ≡ back.0.id = there.2 ∙ (sym s.3 ∙ ap (λ (x : BegunRow). x.node.id) (sym back.2)) in
        let place = same_row rows apart n s.0 there.0 back.0 there.1 back.1 ids in
        let same : there.0 ≡ back.0 = same_some (sym there.1 ∙ (ap (slice_get rows) place ∙ back.1)) in
        h (there.0, there.1, ap (λ (x : RowReport). x.last) same ∙ (ap (λ (x : BegunRow). x.last) back.2 ∙ s.4))

-- what a node wants of a colour that is among its own
pub wants_among : (cs : List ℕ) (f : ℕ → Counts) (colour : ℕ) → list_any (λ c. c == colour) cs ≡ true → wants_of cs (map f cs) colour ≡ f colour
wants_among [] f colour t = absurd (true≢false (sym t))
wants_among (c ∷ cs) f colour t = elim (cases_Bool (c == colour)) [
  | inl here ↦ if_true (c == colour) (f c) (wants_of cs (map f cs) colour) here ∙ ap f (eqb-true c colour here)
  | inr other ↦
      if_false (c == colour) (f c) (wants_of cs (map f cs) colour) other
      ∙ wants_among cs f colour
      (sym (ap (λ b. (b || list_any (λ x. x == colour) cs)) other) ∙ t)
]

among_at : (cs : List ℕ) (colour : ℕ) → list_any (λ c. c == colour) cs ≡ true → (k : ℕ) × (slice_get cs k ≡ Some colour)
among_at [] colour t = absurd (true≢false (sym t))
among_at (c ∷ cs) colour t = elim (cases_Bool (c == colour)) [
  | inl here ↦ (0, ap (λ (x : ℕ). Some x) (eqb-true c colour here))
  | inr other ↦
      (let more = among_at cs colour
      (sym (ap (λ b. (b || list_any (λ x. x == colour) cs)) other) ∙ t) in
      (suc more.0, more.1))
]

at_among : (cs : List ℕ) (colour k : ℕ) → slice_get cs k ≡ Some colour → list_any (λ c. c == colour) cs ≡ true
at_among cs colour k at = any_in (λ (c : ℕ). c == colour) cs colour (slice_in cs k colour at) (eq-eqb colour colour refl)

any_mapped : (colour : ℕ) (ms : List ColourMark)
    → list_any (λ c. c == colour) (marked_colours ms) ≡ list_any (λ (m : ColourMark). m.colour == colour) ms
any_mapped colour [] = refl
any_mapped colour (m ∷ ms) = ap (λ (b : Bool). (m.colour == colour) || b) (any_mapped colour ms)

-- a proposal
module _ (columns : List ColumnReport) (rows : List RowReport) (o : Option ℕ) (id : Id) (floor : ℕ) (wants : Counts) (colour : ℕ)
    (floors : List ℕ) where
  abbrev Asked : Type 0
  Asked = FitsRows (map (bare_row columns) rows) colour (Propose id floor wants)

  abbrev Had : ℕ → RowReport → Type 0
  Had n r = (slice_get floors n ≡ Some floor) × IsTrue (list_any (λ (m : ColourMark). m.colour == colour) r.marks)

  pub propose_told : HaveOwnIds rows → HasRow rows id o → floors ≡ map (floor_beside columns) rows → All HasRising rows
      → ProposesFirst (histories_in columns colour) (Propose id floor wants)
      → (b : Bool) → Tells b (IsAtPlace rows o Had) → Tells b Asked
  propose_told apart has are rising first b told = by o has b told where
    floor_at : (n : ℕ) (r : RowReport) → slice_get rows n ≡ Some r → slice_get floors n ≡ Some (floor_beside columns r)
    floor_at n r at = ap (λ (l : List ℕ). slice_get l n) are ∙ get_map (floor_beside columns) rows n r at

    rises : (n : ℕ) (r : RowReport) → slice_get rows n ≡ Some r → HasRising r
    rises n r at =
        subst HasRising (get_or_from_slice_get rows n r r at) (rising n r (slice_get_within rows n r at))

    -- what the node wants of the colour
    wanted : (r : RowReport) → HasRising r → r.id ≡ id → list_any (λ c. c == colour) (marked_colours r.marks) ≡ true
        → node_wants (bare_row columns r).node colour ≡ wants
    wanted r rise is t =
        let f : ℕ → Counts = λ c. wants_or (proposal_in r.id (histories_in columns c)) in
        ap (λ (l : List ℕ). wants_of l (map f (marked_colours r.marks)) colour) (sym rise)
        ∙ (wants_among (marked_colours r.marks) f colour t
        ∙ (ap (λ (i : Id). wants_or (proposal_in i (histories_in columns colour))) is ∙ ap wants_or first))

    by : (p : Option ℕ) → HasRow rows id p → (t : Bool) → Tells t (IsAtPlace rows p Had) → Tells t Asked
    by None all true h = absurd h
    by None all false h = λ s.
        let back = get_map_back (bare_row columns) rows s.0 s.1 s.2 in
        let lt = slice_get_within rows s.0 back.0 back.1 in
        all s.0 back.0 lt
        (ap (λ (x : RowReport). x.id) (get_or_from_slice_get rows s.0 back.0 back.0 back.1)
        ∙ (ap (λ (x : BegunRow). x.node.id) back.2 ∙ s.3))
    by (Some n) there true h =
        let same : there.0 ≡ h.0 = same_some (sym there.1 ∙ h.1) in
        let is : h.0.id ≡ id = ap (λ (x : RowReport). x.id) (sym same) ∙ there.2 in
        let rise = rises n h.0 h.1 in
        let among = any_mapped colour h.0.marks ∙ h.2.1 in
        let at = among_at (marked_colours h.0.marks) colour among in (
          n,
          bare_row columns h.0,
          bare_at columns rows n h.0 h.1,
          is,
          wanted h.0 rise is among,
          same_some (sym (floor_at n h.0 h.1) ∙ h.2.0),
          at.0,
          ap (λ (l : List ℕ). slice_get l at.0) (sym rise) ∙ at.1,
        )
    by (Some n) there false h = λ s.
        let back = get_map_back (bare_row columns) rows s.0 s.1 s.2 in
        let ids : there.0.id ≡ back.0.id = there.2 ∙ (sym s.3 ∙ ap (λ (x : BegunRow). x.node.id) (sym back.2)) in
        let place = same_row rows apart n s.0 there.0 back.0 there.1 back.1 ids in
        let there_too : slice_get rows n ≡ Some back.0 = ap (slice_get rows) place ∙ back.1 in
        let rise = rises n back.0 there_too in
        h (
          back.0,
          there_too,
          (
            floor_at n back.0 there_too ∙ ap (λ (x : ℕ). Some x) (ap (λ (x : BegunRow). x.node.floor) back.2 ∙ s.5),
            sym (any_mapped colour back.0.marks)
                ∙ at_among (marked_colours back.0.marks) colour s.6
                (ap (λ (l : List ℕ). slice_get l s.6) rise ∙ (ap (λ (x : BegunRow). slice_get (members x.node.colours) s.6) back.2 ∙ s.7)),
          ),
        )

-- one colour more
pub fit_more : (colour : ℕ) (columns : List ColumnReport) (rows : List RowReport) → FitRows colour columns rows
    → All (λ (e : Entry). FitsRows (map (bare_row columns) rows) colour e.event) (histories_in columns colour)
    → FitRows (colour + 1) columns rows
fit_more colour columns rows so here k lt = by (cases_lt k colour) where
  by : (k < colour) ⊎ (colour ≤ k) → All (λ (e : Entry). FitsRows (map (bare_row columns) rows) k e.event) (histories_in columns k)
  by (inl less) = so k less
  by (inr ge) =
      subst (λ (n : ℕ). All (λ (e : Entry). FitsRows (map (bare_row columns) rows) n e.event) (histories_in columns n))
      (let e : colour ≡ k = omega (arith, lt, ge) in e) here

pub columns_told : (colours : ℕ) (columns : List ColumnReport) (rows : List RowReport) → HaveOwnIds rows
    → All (IsMarkedBeside columns) rows → (b : Bool) → Tells b (FitRows colours columns rows) → Tells b (FitColumns colours columns rows)
columns_told colours columns rows apart marked true fit = (apart, marked, fit)
columns_told colours columns rows apart marked false fails = λ all. fails all.2

-- ALL TOGETHER

filter_bare : (columns : List ColumnReport) (client : ℕ) (rows : List RowReport)
    → filter (is_of client) (map (bare_row columns) rows) ≡ map (bare_row columns) (rows_by client rows)
filter_bare columns client [] = refl
filter_bare columns client (r ∷ rows) = elim (cases_Bool (r.row.client == client)) [
  | inl t ↦
      if_true (r.row.client == client) _ _ t
      ∙ (ap (λ (l : List BegunRow). bare_row columns r ∷ l) (filter_bare columns client rows)
      ∙ ap (map (bare_row columns)) (sym (if_true (r.row.client == client) (r ∷ rows_by client rows) (rows_by client rows) t)))
  | inr f ↦
      if_false (r.row.client == client) _ _ f
      ∙ (filter_bare columns client rows
      ∙ ap (map (bare_row columns)) (sym (if_false (r.row.client == client) (r ∷ rows_by client rows) (rows_by client rows) f)))
]

numbers_bare : (columns : List ColumnReport) (rows : List RowReport)
    → map (λ (r : BegunRow). r.row.number) (map (bare_row columns) rows) ≡ map (λ (r : RowReport). r.row.number) rows
numbers_bare columns [] = refl
numbers_bare columns (r ∷ rows) = ap (λ (l : List ℕ). r.row.number ∷ l) (numbers_bare columns rows)

-- what holds of all images
pub mapped_back : {X Y : Type 0} (P : Y → Type 0) (f : X → Y) (xs : List X) → All P (map f xs) → All (λ (x : X). P (f x)) xs
mapped_back {X} {Y} P f xs all k d lt =
    let long = length-map xs f in
    subst P (get_or-map f xs k d (f d) lt) (all k (f d) (omega (arith, lt, long)))

pairs_map : (columns : List ColumnReport) (rows : List RowReport) → HaveOwnIds rows
    → AllPairs (λ (r s : BegunRow). r.node.id ≢ s.node.id) (map (bare_row columns) rows)
pairs_map columns rows apart i j d lt less =
    let long = length-map rows (bare_row columns) in
    let low : j < length rows = omega (arith, less, long) in
    let x = get_within rows i (omega (arith, lt, low)) in
    let y = get_within rows j low in
    let one = get_or_from_slice_get (map (bare_row columns) rows) i _ d (bare_at columns rows i x.0 x.1) in
    let two = get_or_from_slice_get (map (bare_row columns) rows) j _ d (bare_at columns rows j y.0 y.1) in
    λ e. apart i j x.0 lt low
    (ap (λ (z : RowReport). z.id) (get_or_from_slice_get rows i x.0 x.0 x.1)
    ∙ (ap (λ (z : BegunRow). z.node.id) (sym one) ∙ (e ∙ (ap (λ (z : BegunRow). z.node.id) two
    ∙ ap (λ (z : RowReport). z.id) (sym (get_or_from_slice_get rows j y.0 x.0 y.1))))))

pairs_back : (columns : List ColumnReport) (rows : List RowReport)
    → AllPairs (λ (r s : BegunRow). r.node.id ≢ s.node.id) (map (bare_row columns) rows) → HaveOwnIds rows
pairs_back columns rows apart i j d lt low =
    let long = length-map rows (bare_row columns) in
    let one = get_or-map (bare_row columns) rows i d (bare_row columns d) (omega (arith, lt, low)) in
    let two = get_or-map (bare_row columns) rows j d (bare_row columns d) low in
    λ e. apart i j (bare_row columns d) lt (omega (arith, low, long))
    (ap (λ (z : BegunRow). z.node.id) one ∙ (e ∙ ap (λ (z : BegunRow). z.node.id) (sym two)))

module _ (script : Script) (region : ℕ) (columns : List ColumnReport) (rows : List RowReport) where
  pub rows_are_beside : All (IsRowAlone script region) rows → AreInOrder rows → HaveOwnIds rows
      → All (IsMarkedBeside columns) rows → FitRows script.shape.colours columns rows → AreRowsBeside script region columns rows
  rows_are_beside alone ordered apart marked events = record {
    alone = alone;
    lawful = record {
      in_order = λ client.
          ap (map (λ (r : BegunRow). r.row.number)) (filter_bare columns client rows)
          ∙ (numbers_bare columns (rows_by client rows)
          ∙ (ordered client
          ∙ ap (range_with_len 0)
          (sym (ap length (filter_bare columns client rows) ∙ length-map (rows_by client rows) (bare_row columns)))));
      fit = All-map (FitsRow region) (bare_row columns) rows
          (All-weaker (IsRowAlone script region) (λ (r : RowReport). FitsRow region (bare_row columns r)) fits rows alone);
      ids_differ = pairs_map columns rows apart;
      marks = All-map (λ (x : BegunRow). All (λ (m : ColourMark). IsMarkOf (histories_in columns m.colour) x.node m.mark) x.marks) (bare_row columns) rows
          (All-weaker (IsMarkedBeside columns) (AreMarksOf columns) (λ r both. both.0) rows marked);
      outcomes = All-map (λ (x : BegunRow). FitsMarks (map (λ (m : ColourMark). m.mark) x.marks) x.last) (bare_row columns) rows
          (All-weaker (IsMarkedBeside columns) HasOutcomeOf (λ r both. both.1) rows marked);
      events = events;
    };
  } where
    fits : (r : RowReport) → IsRowAlone script region r → FitsRow region (bare_row columns r)
    fits r is = record {
      client = is.own_id;
      row = refl;
      in_region = is.in_region;
      several =
          let long : length (members (set_of (marked_colours r.marks))) ≡ length r.marks =
          ap length (sym is.rising) ∙ length-map r.marks (λ (m : ColourMark). m.colour) in
          let two = is.several in
          omega (arith, long, two);
      a_mark_each = is.rising;
    }

  -- the parts of it
  pub ordered_of : AreRowsBeside script region columns rows → AreInOrder rows
  ordered_of are client =
      sym (numbers_bare columns (rows_by client rows))
      ∙ (ap (map (λ (r : BegunRow). r.row.number)) (sym (filter_bare columns client rows))
      ∙ (are.lawful.in_order client
      ∙ ap (range_with_len 0) (ap length (filter_bare columns client rows) ∙ length-map (rows_by client rows) (bare_row columns))))

  pub apart_of : AreRowsBeside script region columns rows → HaveOwnIds rows
  apart_of are = pairs_back columns rows are.lawful.ids_differ

  pub marked_of : AreRowsBeside script region columns rows → All (IsMarkedBeside columns) rows
  marked_of are k d lt = (
    mapped_back (λ (x : BegunRow). All (λ (m : ColourMark). IsMarkOf (histories_in columns m.colour) x.node m.mark) x.marks) (bare_row columns) rows are.lawful.marks k d lt,
    mapped_back (λ (x : BegunRow). FitsMarks (map (λ (m : ColourMark). m.mark) x.marks) x.last) (bare_row columns) rows are.lawful.outcomes k d lt,
  )

  pub below_of : All (IsRowAlone script region) rows → All (HasMarksBelow script.shape.colours) rows
  below_of = All-weaker (IsRowAlone script region) (HasMarksBelow script.shape.colours) (λ r is. is.below) rows

  pub some_of : All (IsRowAlone script region) rows → All HasMarks rows
  some_of = All-weaker (IsRowAlone script region) HasMarks (λ r is. let two = is.several in omega (arith, two)) rows

  pub rising_of : All (IsRowAlone script region) rows → All HasRising rows
  rising_of = All-weaker (IsRowAlone script region) HasRising (λ r is. is.rising) rows

  pub clients_of : All (IsRowAlone script region) rows → All (λ (r : RowReport). r.row.client < length script.shape.homes) rows
  clients_of = All-weaker (IsRowAlone script region) (λ (r : RowReport). r.row.client < length script.shape.homes)
      (λ r is. is.of_client.0) rows

  pub fit_told : AreBegun script region rows → (b : Bool) → Tells b (FitColumns script.shape.colours columns rows)
      → Tells b (AreRowsBeside script region columns rows)
  fit_told begun true fit = rows_are_beside begun.0 begun.1 fit.0 fit.1 fit.2
  fit_told begun false fails = λ are. fails (apart_of are, marked_of are, are.lawful.events)

  pub begun_told : All (IsRowAlone script region) rows → (b : Bool) → Tells b (AreInOrder rows) → Tells b (AreBegun script region rows)
  begun_told alone true ordered = (alone, ordered)
  begun_told alone false fails = λ both. fails both.1
