-- One event more: what a call makes of the column where the event may come, and why it may not come elsewhere.
use Rattle.std.proofs.Common.{◌≡◌, ◌≢◌, ℕ, ◌-◌, ◌<◌, Bool, true, false, cond, List, [], ◌∷◌, ◌++◌, length, map, drop, Option, Some, None, refl, ap, sym, subst, ◌∙◌, arith, inl, inr, ◌⊎◌}
use Rattle.std.specs.Prelude.{IsSomeAnd, nat_eq, nat_le, nat_lt, ◌&&◌}
use Rattle.std.proofs.lemmas.Bool.{true≢false, eqb-true, eqb-false, and_parts, and_from, cases_Bool, leb-true, le-leb, le-ltb, or_left, or_right}
use Rattle.log_node.specs.declared.ids.Id.{Id}
use Rattle.log_node.specs.declared.ids.Counts.{Counts}
use Rattle.log_node.specs.declared.node.Head.{Head}
use Rattle.log_node.specs.declared.node.Node.{Node}
use Rattle.log_node.specs.declared.limits.TheConstants.{MAX_STAMP}
use Rattle.log_node.specs.declared.marks.Outcome.{Outcome}
use Rattle.log_node.specs.declared.marks.Outcome.TheVariants.{Open, Gone, Final}
use Rattle.log_node.specs.Seen.{PlacedNode}
use Rattle.log_node.specs.Standings.{Standing, is_open_id, open_entry}
use Rattle.log_node.specs.Vectors.{at}
use Rattle.skeen_core.specs.Queues.{has_open, is_decided, MaySettle}
use Rattle.col_core.specs.declared.Event.{Event}
use Rattle.col_core.specs.declared.Event.TheVariants.{Single, Propose, Carry}
use Rattle.col_core.specs.declared.Entry.{Entry}
use Rattle.col_core.specs.History.{entries, next_stamp, IsAtEnd}
use Rattle.col_core.specs.Cuts.{entries_of, chain, held}
use Rattle.col_core.specs.Legal.{IsSettling, MayEnter}
use Rattle.col_core.specs.Rows.{node_wants}
use Rattle.col_core.proofs.CallerLemmas.{entries_dated, if_false}
use Rattle.log_node.proofs.CallerLemmas.{at-vector}
use Rattle.column.specs.Columns.{ColumnState, history_of, with_room, stamp_for, after_single, after_propose, single_event, propose_event, held_of, with_items, after_carry}
use Rattle.column.specs.Inside.{IsColumn}
use Rattle.column_track.specs.Doing.{Goes, HasGone, IsNodeOf, may_settle}

-- the events of a column, dated and not, are the same
pub same_events : (column : ColumnState) → entries_of (history_of column) ≡ column.journal
same_events column = entries_dated column.region column.journal

-- ENTERING

-- the events of a node that stands for one
single_is : (colour : ℕ) (region : ℕ) (id : Id) (floor : ℕ) (wants : Counts) (node : Node) → colour ≡ 0 → IsNodeOf region id floor wants node
    → single_event colour node ≡ Single id floor wants
single_is colour region id floor wants node is of =
    ap (λ (i : Id). Single i node.floor (node_wants node colour)) of.of_id
    ∙ (ap (λ (f : ℕ). Single id f (node_wants node colour)) of.floor_is
    ∙ ap (λ (w : Counts). Single id floor w) (ap (node_wants node) is ∙ of.wants_are))

propose_is : (colour : ℕ) (region : ℕ) (id : Id) (floor : ℕ) (wants : Counts) (node : Node) → colour ≡ 0 → IsNodeOf region id floor wants node
    → propose_event colour node ≡ Propose id floor wants
propose_is colour region id floor wants node is of =
    ap (λ (i : Id). Propose i node.floor (node_wants node colour)) of.of_id
    ∙ (ap (λ (f : ℕ). Propose id f (node_wants node colour)) of.floor_is
    ∙ ap (λ (w : Counts). Propose id floor w) (ap (node_wants node) is ∙ of.wants_are))

-- under another stamp the id may not enter
other_stamp : (column : ColumnState) (id : Id) (floor stamp given : ℕ) (node : Node) → node.floor ≡ floor
    → given ≡ stamp_for column node → given ≢ stamp → MayEnter (entries_of (history_of column)) id floor stamp → ⊥
other_stamp column id floor stamp given node floor_is gives differ may =
    differ (gives ∙ (ap (next_stamp column.journal) floor_is
    ∙ (ap (λ (h : List Entry). next_stamp h floor) (sym (same_events column)) ∙ sym may.stamped)))

module _ (old new : ColumnState) (by region : ℕ) (id : Id) (floor : ℕ) (wants : Counts) (stamp given : ℕ) (node : Node)
    (of : IsNodeOf region id floor wants node) (colour : old.colour ≡ 0) (gives : given ≡ stamp_for old node) where
  pub single_goes : new ≡ after_single (with_room old) by node → (b : Bool) → nat_eq given stamp ≡ b
      → Goes old new by (Single id floor wants) stamp b
  single_goes after true same = record {
    region = ap (λ (s : ColumnState). s.region) after;
    colour = ap (λ (s : ColumnState). s.colour) after;
    regions = ap (λ (s : ColumnState). s.regions) after;
    journal = ap (λ (s : ColumnState). s.journal) after
        ∙ (ap (λ (e : Event). old.journal ++ record { by = by; event = e; stamp = stamp_for old node } ∷ [])
        (single_is old.colour region id floor wants node colour of)
        ∙ ap (λ (s : ℕ). old.journal ++ record { by = by; event = Single id floor wants; stamp = s } ∷ [])
        (sym gives ∙ eqb-true given stamp same));
  }
  single_goes after false differ = other_stamp old id floor stamp given node of.floor_is gives (eqb-false given stamp differ)

  pub propose_goes : new ≡ after_propose (with_room old) by node → (b : Bool) → nat_eq given stamp ≡ b
      → Goes old new by (Propose id floor wants) stamp b
  propose_goes after true same = record {
    region = ap (λ (s : ColumnState). s.region) after;
    colour = ap (λ (s : ColumnState). s.colour) after;
    regions = ap (λ (s : ColumnState). s.regions) after;
    journal = ap (λ (s : ColumnState). s.journal) after
        ∙ (ap (λ (e : Event). old.journal ++ record { by = by; event = e; stamp = stamp_for old node } ∷ [])
        (propose_is old.colour region id floor wants node colour of)
        ∙ ap (λ (s : ℕ). old.journal ++ record { by = by; event = Propose id floor wants; stamp = s } ∷ [])
        (sym gives ∙ eqb-true given stamp same));
  }
  propose_goes after false differ = other_stamp old id floor stamp given node of.floor_is gives (eqb-false given stamp differ)

-- where no stamp is left no id may enter
pub none_left : (column : ColumnState) (id : Id) (floor stamp : ℕ) (node : Node) → node.floor ≡ floor → IsAtEnd column.journal node.floor
    → MayEnter (entries_of (history_of column)) id floor stamp → ⊥
none_left column id floor stamp node floor_is ended may =
    let next = may.stamped ∙ ap (λ (h : List Entry). next_stamp h floor) (same_events column) in
    let within = may.in_range in
    omega (arith, next, within, ended, floor_is)

-- SETTLING

-- an open entry that may be settled so
pub record Settles (column : ColumnState) (id : Id) (outcome : Outcome) : Type 0 where
  pub e : Standing
  pub found : open_entry id (entries column.journal) ≡ Some e
  pub may : IsSettling outcome e

pub settles : (column : ColumnState) (id : Id) (outcome : Outcome)
    → IsSomeAnd (open_entry id (entries (entries_of (history_of column)))) (IsSettling outcome) → Settles column id outcome
settles column id outcome h =
    by (open_entry id (entries column.journal)) refl
    (subst (λ (l : List Entry). IsSomeAnd (open_entry id (entries l)) (IsSettling outcome)) (same_events column) h) where
      by : (o : Option Standing) → open_entry id (entries column.journal) ≡ o → IsSomeAnd o (IsSettling outcome) → Settles column id outcome
      by None is h = absurd h
      by (Some e) is h = record { e = e; found = is; may = h }

-- where it may not be settled so it is not lawful
pub may_not : (column : ColumnState) (id : Id) (outcome : Outcome) (proposed : Option ℕ)
    → ((e : Standing) → open_entry id (entries column.journal) ≡ Some e → proposed ≡ Some e.key.stamp)
    → may_settle outcome proposed ≡ false → Settles column id outcome → ⊥
may_not column id Open proposed stamps refused s = s.may
may_not column id (Gone why) proposed stamps refused s = true≢false refused
may_not column id (Final f) proposed stamps refused s =
    true≢false (sym (ap (may_settle (Final f)) (stamps s.e s.found) ∙ may) ∙ refused) where
      may : (nat_le s.e.key.stamp f && nat_le f MAX_STAMP) ≡ true
      may = and_from (nat_le s.e.key.stamp f) (nat_le f MAX_STAMP) (le-leb s.e.key.stamp f s.may.0) (le-leb f MAX_STAMP s.may.1)

-- and where it may be so is what a column asks
pub may_then : (column : ColumnState) (id : Id) (outcome : Outcome) (proposed : Option ℕ)
    → ((e : Standing) → open_entry id (entries column.journal) ≡ Some e → proposed ≡ Some e.key.stamp)
    → may_settle outcome proposed ≡ true → MaySettle id outcome (entries column.journal) MAX_STAMP
may_then column id Open proposed stamps taken = tt
may_then column id (Gone why) proposed stamps taken = tt
may_then column id (Final f) proposed stamps taken = λ e is.
    let both = and_parts (nat_le e.key.stamp f) (nat_le f MAX_STAMP) (sym (ap (may_settle (Final f)) (stamps e is)) ∙ taken) in
    (leb-true e.key.stamp f both.0, leb-true f MAX_STAMP both.1)

-- an open id is one of the open ids
has_found : (id : Id) (es : List Standing) (e : Standing) → open_entry id es ≡ Some e → has_open id es ≡ true
has_found id [] e is = absurd (let f : ⊥ = cc (is) in f)
has_found id (x ∷ xs) e is = by (cases_Bool (is_open_id id x)) (has_found id xs e) where
  by : (is_open_id id x ≡ true) ⊎ (is_open_id id x ≡ false) → (open_entry id xs ≡ Some e → has_open id xs ≡ true)
      → has_open id (x ∷ xs) ≡ true
  by (inl here) rest = or_left (is_open_id id x) (has_open id xs) here
  by (inr other) rest =
      or_right (is_open_id id x) (has_open id xs)
      (rest (sym (if_false (is_open_id id x) (Some x) (open_entry id xs) other) ∙ is))

decided : (outcome : Outcome) (e : Standing) → IsSettling outcome e → is_decided outcome ≡ true
decided Open e s = absurd s
decided (Gone why) e s = refl
decided (Final f) e s = refl

pub settles_now : (column : ColumnState) (id : Id) (outcome : Outcome) → Settles column id outcome
    → (has_open id (entries column.journal) && is_decided outcome) ≡ true
settles_now column id outcome s =
    ap (λ b. b && is_decided outcome) (has_found id (entries column.journal) s.e s.found) ∙ decided outcome s.e s.may

-- CARRYING

whole : (here start : ℕ) (items : List PlacedNode) → start ≡ here
    → cond (nat_lt here start) [] (drop (here - start) items) ≡ items
whole here start items same =
    if_false (nat_lt here start) [] (drop (here - start) items) (le-ltb here start (omega (arith, same)))
    ∙ ap (λ (n : ℕ). drop n items) zero_left where
      zero_left : here - start ≡ 0
      zero_left = omega (arith, same)

carried_as : (old : ColumnState) (by region start : ℕ) (heads : List Head) (items : List PlacedNode) → start ≡ held_of old region
    → (heads ≡ [] → ⊥) → map (λ (i : PlacedNode). i.head) items ≡ heads
    → HasGone old (with_items old by region items) by (Carry region start heads) 0
carried_as old by region start heads [] from some same = absurd (some (sym same))
carried_as old by region start heads (i ∷ items) from some same = record {
  region = refl;
  colour = refl;
  regions = refl;
  journal = ap (λ (s : ℕ). old.journal ++ record { by = by; event = Carry region s (map (λ (j : PlacedNode). j.head) (i ∷ items)); stamp = 0 } ∷ []) (sym from)
      ∙ ap (λ (hs : List Head). old.journal ++ record { by = by; event = Carry region start hs; stamp = 0 } ∷ []) same;
}

pub carry_goes : (old new : ColumnState) (by region start : ℕ) (heads : List Head) (items : List PlacedNode) → IsColumn old
    → region < old.regions → start ≡ at (held old.region (history_of old)) region → (heads ≡ [] → ⊥)
    → map (λ (i : PlacedNode). i.head) items ≡ heads
    → new ≡ after_carry old by region (record { start = start; items = items })
    → HasGone old new by (Carry region start heads) 0
carry_goes old new by region start heads items is lt from some same after =
    subst (λ (s : ColumnState). HasGone old s by (Carry region start heads) 0)
    (sym (after ∙ ap (with_items old by region) (whole (held_of old region) start items at_end)))
    (carried_as old by region start heads items at_end some same) where
      at_end : start ≡ held_of old region
      at_end = from ∙ at-vector (λ r. length (chain old.region (history_of old) r)) region
          (let few = is.few_regions in omega (arith, lt, few))
