-- A column with one entry more by which no node enters.
use Rattle.std.proofs.Common.{Result, Ok, Err, ◌≡◌, ℕ, zero, suc, ◌+◌, ◌-◌, ◌<◌, ◌≤◌, ◌≢◌, eq-eqb, true, false, List, [], ◌∷◌, ◌++◌, length, map, drop, Some, refl, ap, sym, subst, ◌∙◌, arith, min, inl, inr, ◌⊎◌, length-append}
use Rattle.std.specs.Prelude.{◌==◌, OnOk, OnErr, if◌then◌else◌, nat_lt, slice_get, slice_set, slice_index, slice_index_or}
use Rattle.std.specs.List.{Contains, flat_map}
use Rattle.std.specs.Option.{option_map}
use Rattle.std.proofs.lemmas.Bool.{cases_eq, ne_eqb}
use Rattle.std.proofs.lemmas.Grind.{flat_map-append}
use Rattle.std.proofs.lemmas.List.{get_or-set_same, get_or-set_other}
use Rattle.std.proofs.lemmas.Option.{slice_get_within, slice_get-map, get_or_from_slice_get}
use Rattle.log_node.specs.declared.limits.TheConstants.{MAX_STAMP}
use Rattle.log_node.specs.declared.ids.Id.{Id}
use Rattle.log_node.specs.declared.ids.Key.{Key}
use Rattle.log_node.specs.declared.ids.Row.{Row}
use Rattle.log_node.specs.declared.ids.Counts.{Counts}
use Rattle.log_node.specs.declared.node.Node.{Node}
use Rattle.log_node.specs.declared.node.Head.{Head}
use Rattle.log_node.specs.Seen.{PlacedNode}
use Rattle.col_core.specs.declared.Entry.{Entry}
use Rattle.col_core.specs.declared.Event.{Event}
use Rattle.col_core.specs.declared.Event.TheVariants.{Raise, Give, Carry, Trim}
use Rattle.col_core.specs.History.{clock, enters, event_number, last_stamp, line}
use Rattle.col_core.specs.Cuts.{Dated, chain, carried}
use Rattle.col_core.specs.Computed.{cut, dated}
use Rattle.col_core.proofs.CallerLemmas.{if_true, if_false, dated-append}
use Rattle.column.specs.Columns.{ColumnState, after_raise, after_give, after_trim, with_items, copy_of, held_of, base_after, HasStored, HasCarried}
use Rattle.atomic_table.specs.Seated.{TableId}
use Rattle.stamp_board.specs.declared.view.Size.{Size}
use Rattle.stamp_board.specs.declared.seats.ColumnSeat.{ColumnSeat}
use Rattle.stamp_board.specs.Seats.{column_seen}
use Rattle.ring_ends.specs.declared.rings.Rings.{Rings}
use Rattle.ring_ends.specs.Rings.{RingNames, names_of}
use Rattle.chain_store.specs.declared.told.Tag.{Tag}
use Rattle.chain_store.specs.declared.told.Told.{Told}
use Rattle.chain_store.specs.Tags.{tag}
use Rattle.chain_store.specs.Rings.{RingsFit}
use Rattle.chain_store.specs.Entered.{AreBelow}
use Rattle.chain_store.specs.Histories.{Brings, IsOfMaker}
use Rattle.chain_store.specs.Marks.{proposes, Backs, IsBacked}
use Rattle.chain_store.specs.Columns.{IsOfHistory, newest_in, newest_nodes, told_by, last_of, told_event, told_carry}
use Rattle.ring_ends.specs.Givens.{OfTheirHeads}
use Rattle.chain_store.proofs.Backing.{backed_more}
use Rattle.chain_store.proofs.RingsGrow.{CarriesNone, fit_more}
use Rattle.chain_store.proofs.Entering.{get_last, get_cases, map_with, names_more, enters_more}

-- places of joined lists and of their ends

pub get_split : {A : Type 0} (xs ys : List A) (n : ℕ) (y : A) → slice_get (xs ++ ys) n ≡ Some y
    → (slice_get xs n ≡ Some y) ⊎ ((m : ℕ) × (slice_get ys m ≡ Some y))
get_split [] ys n y e = inr (n, e)
get_split (z ∷ xs) ys zero y e = inl e
get_split (z ∷ xs) ys (suc n) y e = get_split xs ys n y e

pub get_dropped : {A : Type 0} (k : ℕ) (xs : List A) (n : ℕ) (y : A) → slice_get (drop k xs) n ≡ Some y
    → (m : ℕ) × (slice_get xs m ≡ Some y)
get_dropped zero xs n y e = (n, e)
get_dropped (suc k) [] n y e = absurd (let f : ⊥ = cc in f)
get_dropped (suc k) (z ∷ xs) n y e = let r = get_dropped k xs n y e in (suc r.0, r.1)

pub drop_past : {A : Type 0} (xs ys : List A) → drop (length xs) (xs ++ ys) ≡ ys
drop_past [] ys = refl
drop_past (x ∷ xs) ys = drop_past xs ys

-- the last of a list are those that were added
pub last_added : {A : Type 0} (xs ys : List A) → last_of (length ys) (xs ++ ys) ≡ ys
last_added xs ys =
    let long = length-append xs ys in
    let less : length (xs ++ ys) - length ys ≡ length xs = omega (arith, long) in
    ap (λ (n : ℕ). drop n (xs ++ ys)) less ∙ drop_past xs ys

pub contained : {A B : Type 0} (f : A → B) (xs : List A) (m : ℕ) (y : A) → slice_get xs m ≡ Some y
    → Contains (map f xs) (f y)
contained f xs m y e =
    let there : slice_get (map f xs) m ≡ Some (f y) = slice_get-map f xs m ∙ ap (option_map f) e in
    (m, slice_get_within (map f xs) m (f y) there, get_or_from_slice_get (map f xs) m (f y) (f y) there)

-- an event that enters nothing leaves the counts of what has entered
pub below_same : (journal : List Entry) (numbers : List ℕ) (e : Entry) → ((id : Id) → enters id e.event ≡ false)
    → AreBelow journal numbers → AreBelow (journal ++ e ∷ []) numbers
below_same journal numbers e none below n d id at t = elim (get_cases journal e n d at) [
  | inl old ↦ below n d id old t
  | inr is ↦
      absurd (let f : true ≡ false = sym t ∙ ap (λ (x : Entry). enters id x.event) (sym is) ∙ none id in let g : ⊥ = cc in g)
]

-- the column has this entry more, keeps no node that it did not have or bring in, and its newest nodes are those told
pub record HasMoved (column new : ColumnState) (t : Told) : Type 0 where
  pub journal : new.journal ≡ column.journal ++ t.entry ∷ []
  pub region : new.region ≡ column.region
  pub colour : new.colour ≡ column.colour
  pub regions : new.regions ≡ column.regions
  pub newest : newest_nodes new t.entry.event ≡ t.nodes
  pub stored : (key : Key) (node : Node) → HasStored new key node → HasStored column key node
  pub carried : (region : ℕ) (item : PlacedNode) → HasCarried new region item
      → HasCarried column region item
      ⊎ (Contains t.nodes item.node × (item.node.id ≡ item.head.key.id) × (item.head.key.stamp ≤ MAX_STAMP)
      × (item.node.region ≡ region))

-- the newest entry is the one that the journal has more
pub newest_told : (column new : ColumnState) (t : Told) → new.journal ≡ column.journal ++ t.entry ∷ []
    → newest_nodes new t.entry.event ≡ t.nodes → newest_in new ≡ Some t
newest_told column new t journal newest =
    let long : length new.journal ≡ length column.journal + 1 =
    ap length journal ∙ length-append column.journal (t.entry ∷ []) in
    let less : length new.journal - 1 ≡ length column.journal = omega (arith, long) in
    let last : slice_get new.journal (length new.journal - 1) ≡ Some t.entry =
    ap (slice_get new.journal) less
    ∙ (ap (λ l. slice_get l (length column.journal)) journal ∙ get_last column.journal t.entry) in
    ap (option_map (told_by new)) last ∙ ap (λ (ns : List Node). Some (told_of t.entry ns)) newest where
      told_of : Entry → List Node → Told
      told_of e ns = record { entry = e; nodes = ns }

module _ (column new : ColumnState) (t : Told) (h : HasMoved column new t) where
  pub moved_newest : newest_in new ≡ Some t
  moved_newest = newest_told column new t h.journal h.newest

  pub moved_tag : (size : Size) (board : TableId) (rings : RingNames)
      → tag new.region new.colour new.regions size board rings ≡ tag column.region column.colour column.regions size board rings
  moved_tag size board rings = λ i. tag (h.region i) (h.colour i) (h.regions i) size board rings

  pub moved_history : (clients : ℕ) (log : List Told) → t.entry.by < clients → IsOfMaker t.entry.by t.entry.event
      → Brings column.region column.colour t.entry.event t.nodes
      → IsOfHistory column clients log → IsOfHistory new clients (log ++ t ∷ [])
  moved_history clients log few mine brings g = record {
    same = h.journal ∙ (ap (λ l. l ++ t.entry ∷ []) g.same ∙ sym (map_with (λ (u : Told). u.entry) log t));
    brings = λ n u at. elim (get_cases log t n u at) [
      | inl old ↦ brought_there u.entry.event u.nodes (g.brings n u old)
      | inr same ↦
          subst (λ (v : Told). Brings new.region new.colour v.entry.event v.nodes) same
          (brought_there t.entry.event t.nodes brings)
    ];
    makers = λ n u at. elim (get_cases log t n u at) [
      | inl old ↦ g.makers n u old
      | inr same ↦ subst (λ (v : Told). (v.entry.by < clients) × IsOfMaker v.entry.by v.entry.event) same (few, mine)
    ];
    stored = λ key x has. enters_more log (t ∷ []) key.id x (g.stored key x (h.stored key x has));
    carried = λ region item has. elim (h.carried region item has) [
      | inl old ↦ names_more log (t ∷ []) item.head.key.id item.node (g.carried region item old)
      | inr new ↦ record {
        place = length log;
        told = t;
        there = get_last log t;
        brought = new.0;
        of_id = new.1;
      }
    ];
    stamped = λ region item has. elim (h.carried region item has) [
      | inl old ↦ g.stamped region item old
      | inr new ↦ new.2
    ];
    regions = λ region item has. elim (h.carried region item has) [
      | inl old ↦ g.regions region item old
      | inr new ↦ new.3
    ];
  } where
    brought_there : (e : Event) (nodes : List Node) → Brings column.region column.colour e nodes
        → Brings new.region new.colour e nodes
    brought_there e nodes b =
        subst (λ (c : ℕ). Brings new.region c e nodes) (sym h.colour)
        (subst (λ (r : ℕ). Brings r column.colour e nodes) (sym h.region) b)

  -- a column beside its seat, which proposes nothing by it
  pub moved : (seat : ColumnSeat) → t.entry.by < (column_seen seat).size.clients → IsOfMaker t.entry.by t.entry.event
      → Brings column.region column.colour t.entry.event t.nodes
      → ((row : Row) → proposes row t.entry.event t.nodes ≡ false)
      → event_number t.entry.event t.entry.stamp ≤ last_stamp → Backs (column_seen seat) t.entry.event t.nodes
      → (log : List Told) → IsOfHistory column (column_seen seat).size.clients log × IsBacked seat log
      → IsOfHistory new (column_seen seat).size.clients (log ++ t ∷ []) × IsBacked seat (log ++ t ∷ [])
  moved seat few mine brings none small back log g = (
    moved_history (column_seen seat).size.clients log few mine brings g.0,
    backed_more seat log t none small back g.1,
  )

-- the moves

pub raised : (column new : ColumnState) (by to : ℕ) → new ≡ after_raise column by to
    → HasMoved column new (told_event by (Raise to))
raised column new by to is = record {
  journal = ap (λ (c : ColumnState). c.journal) is;
  region = ap (λ (c : ColumnState). c.region) is;
  colour = ap (λ (c : ColumnState). c.colour) is;
  regions = ap (λ (c : ColumnState). c.regions) is;
  newest = refl;
  stored = λ key x has. subst (λ (c : ColumnState). HasStored c key x) is has;
  carried = λ region item has. inl (subst (λ (c : ColumnState). HasCarried c region item) is has);
}

pub gave : (column new : ColumnState) (by region from : ℕ) → new ≡ after_give column by region from
    → HasMoved column new (told_event by (Give region (min from (length (line column.journal)))))
gave column new by region from is = record {
  journal = ap (λ (c : ColumnState). c.journal) is;
  region = ap (λ (c : ColumnState). c.region) is;
  colour = ap (λ (c : ColumnState). c.colour) is;
  regions = ap (λ (c : ColumnState). c.regions) is;
  newest = refl;
  stored = λ key x has. subst (λ (c : ColumnState). HasStored c key x) is has;
  carried = λ region item has. inl (subst (λ (c : ColumnState). HasCarried c region item) is has);
}

-- nodes were dropped alone
pub trimmed : (column new : ColumnState) (by : ℕ) (counts : Counts) → new ≡ after_trim column by counts
    → HasMoved column new (told_event by (Trim counts))
trimmed column new by counts is = record {
  journal = ap (λ (c : ColumnState). c.journal) is;
  region = ap (λ (c : ColumnState). c.region) is;
  colour = ap (λ (c : ColumnState). c.colour) is;
  regions = ap (λ (c : ColumnState). c.regions) is;
  newest = refl;
  stored = λ key x has.
      let w = subst (λ (c : ColumnState). HasStored c key x) is has in
      let old = get_dropped (at_base - column.queue.base) column.queue.stored w.0 w.1 w.2 in
      (old.0, w.1, old.1, w.3, w.4);
  carried = λ region item has. inl (kept region item (subst (λ (c : ColumnState). HasCarried c region item) is has));
} where
  at_base : ℕ
  at_base = slice_index (base_after column by counts).0 column.region

  kept : (region : ℕ) (item : PlacedNode) → HasCarried (after_trim column by counts) region item
      → HasCarried column region item
  kept zero item has = get_dropped _ (copy_of column 0) has.0 item has.1
  kept (suc zero) item has = get_dropped _ (copy_of column 1) has.0 item has.1
  kept (suc (suc zero)) item has = get_dropped _ (copy_of column 2) has.0 item has.1
  kept (suc (suc (suc zero))) item has = get_dropped _ (copy_of column 3) has.0 item has.1
  kept (suc (suc (suc (suc k)))) item has = absurd (let e = has.1 in let f : ⊥ = cc (e) in f)

-- the newest nodes after a carry are those that it brought
pub carried_newest : (column new : ColumnState) (by region : ℕ) (first : PlacedNode) (rest : List PlacedNode)
    → new ≡ with_items column by region (first ∷ rest) → region < length column.copies
    → newest_nodes new (Carry region (held_of column region) (map (λ (i : PlacedNode). i.head) (first ∷ rest)))
    ≡ map (λ (i : PlacedNode). i.node) (first ∷ rest)
carried_newest column new by region first rest is within =
    ap (λ (c : ColumnState). newest_nodes c (Carry region (held_of column region) (map (λ (i : PlacedNode). i.head) items))) is
    ∙ ap (map (λ (i : PlacedNode). i.node)) (ap (last_of (length (map (λ (i : PlacedNode). i.head) items)))
    (get_or-set_same column.copies region (copy_of column region ++ items) [] within)
    ∙ (ap (λ (n : ℕ). last_of n (copy_of column region ++ items)) (length_map items)
    ∙ last_added (copy_of column region) items)) where
      items : List PlacedNode
      items = first ∷ rest

      length_map : (l : List PlacedNode) → length (map (λ (i : PlacedNode). i.head) l) ≡ length l
      length_map [] = refl
      length_map (x ∷ xs) = ap (λ (n : ℕ). suc n) (length_map xs)

-- nodes of another region's chain were added
pub carries : (column new : ColumnState) (by region : ℕ) (items : List PlacedNode)
    → new ≡ with_items column by region items → 0 < length items → region < length column.copies
    → OfTheirHeads region items → HasMoved column new (told_carry by region (held_of column region) items)
carries column new by region [] is some within heads = absurd (let f : ⊥ = omega (arith, some) in f)
carries column new by region (first ∷ rest) is some within heads = record {
  journal = ap (λ (c : ColumnState). c.journal) is;
  region = ap (λ (c : ColumnState). c.region) is;
  colour = ap (λ (c : ColumnState). c.colour) is;
  regions = ap (λ (c : ColumnState). c.regions) is;
  newest = carried_newest column new by region first rest is within;
  stored = λ key x has. subst (λ (c : ColumnState). HasStored c key x) is has;
  carried = λ other item has.
      let g = subst (λ (c : ColumnState). HasCarried c other item) is has in
      elim (cases_eq other region) [
        | inl same ↦
            let at : slice_get (copy_of column region ++ items) g.0 ≡ Some item =
            ap (λ (l : List PlacedNode). slice_get l g.0)
            (sym (ap (λ (r : ℕ). slice_index_or copies r []) same ∙ there)) ∙ g.1 in
            elim (get_split (copy_of column region) items g.0 item at) [
              | inl old ↦
                  inl (subst (λ (r : ℕ). HasCarried column r item) (sym same) (g.0, old))
              | inr new ↦
                  inr (
                    contained (λ (i : PlacedNode). i.node) items new.0 item new.1,
                    (heads new.0 item new.1).0,
                    (heads new.0 item new.1).1,
                    (heads new.0 item new.1).2 ∙ sym same,
                  )
            ]
        | inr differ ↦
            inl (
              g.0,
              ap (λ (l : List PlacedNode). slice_get l g.0)
                  (sym (get_or-set_other column.copies region other (copy_of column region ++ items) [] differ)) ∙ g.1,
            )
      ];
} where
  items : List PlacedNode
  items = first ∷ rest

  copies : List (List PlacedNode)
  copies = slice_set column.copies region (copy_of column region ++ items)

  there : slice_index_or copies region [] ≡ copy_of column region ++ items
  there = get_or-set_same column.copies region (copy_of column region ++ items) [] within

-- the nodes that were told have the ids of the heads
pub ids_of_heads : (region : ℕ) (items : List PlacedNode) → OfTheirHeads region items
    → map (λ (n : Node). n.id) (map (λ (i : PlacedNode). i.node) items)
    ≡ map (λ (h : Head). h.key.id) (map (λ (i : PlacedNode). i.head) items)
ids_of_heads region [] heads = refl
ids_of_heads region (i ∷ is) heads =
    ap (λ (x : Id). x ∷ map (λ (n : Node). n.id) (map (λ (j : PlacedNode). j.node) is)) (heads 0 i refl).0
    ∙ ap (λ (l : List Id). i.head.key.id ∷ l) (ids_of_heads region is (λ n j at. heads (suc n) j at))

-- What a column beside its seat and its rings gains, or that it stays, by its parts.

abbrev pub StandsIn : ColumnState → ColumnSeat → Rings → List Told → Type 0
StandsIn column seat rings log =
    IsOfHistory column (column_seen seat).size.clients log
    × (IsBacked seat log
    × RingsFit
    (tag column.region column.colour column.regions (column_seen seat).size seat.inner.table_id (names_of rings)) rings log)

abbrev pub GainsIn : ColumnState → ColumnState → ColumnSeat → Rings → Told → Type 0
GainsIn column new seat rings t =
    (newest_in new ≡ Some t) × (length new.journal < 18446744073709551616)
    × ((log : List Told) → StandsIn column seat rings log → StandsIn new seat rings (log ++ t ∷ []))

abbrev pub StaysIn : ColumnState → ColumnState → ColumnSeat → Rings → Type 0
StaysIn column new seat rings = (log : List Told) → StandsIn column seat rings log → StandsIn new seat rings log

pub stays_same : (column new : ColumnState) (seat : ColumnSeat) (rings : Rings) → new ≡ column → StaysIn column new seat rings
stays_same column new seat rings same log h = subst (λ (c : ColumnState). StandsIn c seat rings log) (sym same) h

pub gains_in : (column new : ColumnState) (seat : ColumnSeat) (rings : Rings) (t : Told) → HasMoved column new t
    → length new.journal < 18446744073709551616 → t.entry.by < (column_seen seat).size.clients
    → IsOfMaker t.entry.by t.entry.event → Brings column.region column.colour t.entry.event t.nodes
    → ((row : Row) → proposes row t.entry.event t.nodes ≡ false)
    → event_number t.entry.event t.entry.stamp ≤ last_stamp → Backs (column_seen seat) t.entry.event t.nodes
    → CarriesNone t → GainsIn column new seat rings t
gains_in column new seat rings t h short few mine brings none small back plain = (
  moved_newest column new t h,
  short,
  λ log g.
      let m = moved column new t h seat few mine brings none small back log (g.0, g.1.0) in
      let names = names_of rings in (
        m.0,
        (
          m.1,
          subst (λ (u : Tag). RingsFit u rings (log ++ t ∷ []))
              (sym (moved_tag column new t h (column_seen seat).size seat.inner.table_id names))
              (fit_more _ rings log t plain g.1.1),
        ),
      ),
)

module _ (column new : ColumnState) (seat : ColumnSeat) (rings : Rings) (by : ℕ)
    (short : length new.journal < 18446744073709551616) (few : by < (column_seen seat).size.clients) where
  -- raised where its clock was smaller
  pub raise_gains : (to clocked : ℕ) → clocked ≡ clock column.journal
      → new ≡ (if nat_lt (clock column.journal) to then after_raise column by to else column) → to ≤ last_stamp
      → (nat_lt clocked to ≡ true → GainsIn column new seat rings (told_event by (Raise to)))
      × (nat_lt clocked to ≡ false → StaysIn column new seat rings)
  raise_gains to clocked is same small = (
    (λ yes.
        let e : new ≡ after_raise column by to =
        same ∙ if_true (nat_lt (clock column.journal) to) (after_raise column by to) column
        (ap (λ (n : ℕ). nat_lt n to) (sym is) ∙ yes) in
        gains_in column new seat rings (told_event by (Raise to)) (raised column new by to e) short few tt refl (λ row. refl)
        small tt (λ r. refl)),
    λ none. stays_same column new seat rings
        (same ∙ if_false (nat_lt (clock column.journal) to) (after_raise column by to) column
        (ap (λ (n : ℕ). nat_lt n to) (sym is) ∙ none)),
  )

  pub give_gains : (region from : ℕ) → new ≡ after_give column by region from
      → GainsIn column new seat rings (told_event by (Give region (min from (length (line column.journal)))))
  give_gains region from same =
      gains_in column new seat rings (told_event by (Give region (min from (length (line column.journal)))))
      (gave column new by region from same) short few tt refl (λ row. refl) (omega arith) tt (λ r. refl)

  pub trim_gains : (counts : Counts) → new ≡ after_trim column by counts
      → GainsIn column new seat rings (told_event by (Trim counts))
  trim_gains counts same =
      gains_in column new seat rings (told_event by (Trim counts)) (trimmed column new by counts same) short few tt refl
      (λ row. refl) (omega arith) tt (λ r. refl)

  -- carried all that waits, where there is something
  pub carry_gains : (after : Rings) (region : ℕ) (items : List PlacedNode) → 0 < length items
      → new ≡ with_items column by region items → region < length column.copies
      → names_of after ≡ names_of rings
      → ((t : Tag) (log : List Told) → t.region ≡ column.region → t.regions ≡ column.regions → RingsFit t rings log
      → OfTheirHeads region items × RingsFit t after (log ++ told_carry by region (held_of column region) items ∷ []))
      → (newest_in new ≡ Some (told_carry by region (held_of column region) items))
      × (length new.journal < 18446744073709551616)
      × ((log : List Told) → StandsIn column seat rings log
      → StandsIn new seat after (log ++ told_carry by region (held_of column region) items ∷ []))
  carry_gains after region [] some same within names fits = absurd (let f : ⊥ = omega (arith, some) in f)
  carry_gains after region (first ∷ rest) some same within names fits = (
    newest_told column new t (ap (λ (c : ColumnState). c.journal) same)
        (carried_newest column new by region first rest same within),
    short,
    λ log g.
        let size = (column_seen seat).size in
        let board = seat.inner.table_id in
        let old = tag column.region column.colour column.regions size board (names_of rings) in
        let f = fits old log refl refl g.1.1 in
        let h = carries column new by region (first ∷ rest) same (omega arith) within f.0 in
        let m = moved column new t h seat few tt (ids_of_heads region (first ∷ rest) f.0) (λ row. refl) (omega arith) tt log
        (g.0, g.1.0) in
        let is : tag new.region new.colour new.regions size board (names_of after) ≡ old =
        ap (tag new.region new.colour new.regions size board) names ∙ moved_tag column new t h size board (names_of rings) in
        (m.0, (m.1, subst (λ (u : Tag). RingsFit u after (log ++ t ∷ [])) (sym is) f.1)),
  ) where
    t : Told
    t = told_carry by region (held_of column region) (first ∷ rest)

-- a carry leaves the counts of what has entered
pub carried_below : {T E : Type 0} (r : Result T E) (column new : ColumnState) (by region : ℕ) (items : List PlacedNode)
    (numbers : List ℕ) → OnOk r (new ≡ with_items column by region items) → OnErr r (new ≡ column)
    → AreBelow column.journal numbers
    → (new.colour ≡ column.colour) × AreBelow new.journal numbers × (new.regions ≡ column.regions)
carried_below (Ok x) column new by region [] numbers ok err below = (
  ap (λ (c : ColumnState). c.colour) ok,
  subst (λ (c : ColumnState). AreBelow c.journal numbers) (sym ok) below,
  ap (λ (c : ColumnState). c.regions) ok,
)
carried_below (Ok x) column new by region (item ∷ items) numbers ok err below = (
  ap (λ (c : ColumnState). c.colour) ok,
  subst (λ (c : ColumnState). AreBelow c.journal numbers) (sym ok)
      (below_same column.journal numbers (told_carry by region (held_of column region) (item ∷ items)).entry (λ id. refl)
      below),
  ap (λ (c : ColumnState). c.regions) ok,
)
carried_below (Err e) column new by region items numbers ok err below = (
  ap (λ (c : ColumnState). c.colour) err,
  subst (λ (c : ColumnState). AreBelow c.journal numbers) (sym err) below,
  ap (λ (c : ColumnState). c.regions) err,
)

-- nodes that were taken over leave what never changes of a column
pub items_keep : (column new : ColumnState) (by region : ℕ) (items : List PlacedNode) → new ≡ with_items column by region items
    → (new.region ≡ column.region) × (new.colour ≡ column.colour) × (new.regions ≡ column.regions)
items_keep column new by region [] is =
    (ap (λ (c : ColumnState). c.region) is, ap (λ (c : ColumnState). c.colour) is, ap (λ (c : ColumnState). c.regions) is)
items_keep column new by region (first ∷ rest) is =
    (ap (λ (c : ColumnState). c.region) is, ap (λ (c : ColumnState). c.colour) is, ap (λ (c : ColumnState). c.regions) is)

-- and its region's chain is longer by them
pub items_held : (column new : ColumnState) (by region : ℕ) (items : List PlacedNode) → new ≡ with_items column by region items
    → region ≢ column.region → held_of new region ≡ held_of column region + length items
items_held column new by region [] is other =
    let e = ap (λ (c : ColumnState). held_of c region) is in omega (arith, e)
items_held column new by region (first ∷ rest) is other =
    let own = column.region in
    let items : List PlacedNode = first ∷ rest in
    let e = (told_carry by region (held_of column region) items).entry in
    let ds = dated own column.journal in
    let d : Dated = record { entry = e; cut_before = cut own ds } in
    let f : Dated → List Head = λ d. carried region d.entry.event in
    let no = ne_eqb region own other in
    let heads : List Head = map (λ (i : PlacedNode). i.head) items in
    let now : held_of new region ≡ length (chain own (dated own (column.journal ++ e ∷ [])) region) =
    ap (λ (c : ColumnState). held_of c region) is in
    let long : length (chain own (dated own (column.journal ++ e ∷ [])) region) ≡ length (chain own (ds ++ d ∷ []) region) =
    ap (λ (l : List Dated). length (chain own l region)) (dated-append own column.journal e) in
    let one : chain own (ds ++ d ∷ []) region ≡ flat_map f (ds ++ d ∷ []) =
    if_false (region == own) _ (flat_map f (ds ++ d ∷ [])) no in
    let two : chain own ds region ≡ flat_map f ds = if_false (region == own) _ (flat_map f ds) no in
    let three : flat_map f (ds ++ d ∷ []) ≡ flat_map f ds ++ flat_map f (d ∷ []) = flat_map-append f ds (d ∷ []) in
    let four : flat_map f (d ∷ []) ≡ heads ++ [] =
    ap (λ (l : List Head). l ++ []) (if_true (region == region) heads [] (eq-eqb region region refl)) in
    omega (
      arith,
      now,
      long,
      ap length one,
      ap length two,
      ap length three,
      ap length four,
      length-append (flat_map f ds) (flat_map f (d ∷ [])),
      length-append heads [],
      length_map items,
    ) where
      length_map : (l : List PlacedNode) → length (map (λ (i : PlacedNode). i.head) l) ≡ length l
      length_map [] = refl
      length_map (x ∷ xs) = ap (λ (n : ℕ). suc n) (length_map xs)
