-- What each event keeps true of a column.
use Rattle.std.proofs.Common.{◌≡◌, ◌≢◌, ℕ, zero, suc, ◌<◌, ◌≤◌, max, true, false, List, [], ◌∷◌, ◌++◌, length, take}
use Rattle.std.proofs.Common.{drop, Some, None, refl, ap, sym, subst, ◌∙◌, arith}
use Rattle.std.specs.Prelude.{slice_get, IsSomeAnd, Option, map, ◌==◌}
use Rattle.std.specs.List.{AllByRecursion, list_any}
use Rattle.std.proofs.lemmas.Bool.{true≢false, cond_both}
use Rattle.std.proofs.lemmas.List.{take-append-le, take_at}
use Rattle.std.proofs.lemmas.Option.{slice_get_within, same_Some, none-some}
use Rattle.log_node.specs.declared.ids.Id.{Id}
use Rattle.log_node.specs.declared.ids.Counts.{Counts}
use Rattle.log_node.specs.declared.node.Head.{Head}
use Rattle.log_node.specs.declared.node.Node.{Node}
use Rattle.log_node.specs.Seen.{PlacedNode}
use Rattle.log_node.specs.Sets.{has}
use Rattle.log_node.specs.Vectors.{at, zeros}
use Rattle.log_node.specs.declared.limits.TheConstants.{MAX_COLOURS, MAX_STAMP}
use Rattle.log_node.specs.declared.marks.Outcome.{Outcome}
use Rattle.log_node.specs.declared.marks.Outcome.TheVariants.{Open, Gone, Final}
use Rattle.log_node.specs.Standings.{Standing, is_open_id, open_entry, with_entry, settled_entries}
use Rattle.skeen_core.specs.Queues.{Queued, entry_under, has_open, is_decided, MaySettle}
use Rattle.skeen_core.proofs.CallerLemmas.{each-append}
use Rattle.col_core.specs.declared.Event.{Event}
use Rattle.col_core.specs.declared.Event.TheVariants as events
use Rattle.col_core.specs.declared.Entry.{Entry}
use Rattle.col_core.specs.History.{clock, last_stamp, next_stamp, entries, line, has_entered}
use Rattle.col_core.specs.Cuts.{Dated, entries_of, carried, noted_from, noted, trimmed_to, base, base_from}
use Rattle.col_core.specs.Computed.{cut, dated}
use Rattle.col_core.specs.Legal.{IsColumnHistory, IsLawfulEvent, IsSettling, MayEnter}
use Rattle.col_core.proofs.CallerLemmas.{entries-append, clock-append, dated-append, same_id-refl, cut-is_greatest}
use Rattle.column.specs.Entering.{EnteredNode}
use Rattle.column.specs.Columns.{ColumnState, new_column, history_of, chains_of, copy_of, cut_of, base_of}
use Rattle.column.specs.Columns.{stamp_for, entered_node, single_event, propose_event, after_single, after_propose}
use Rattle.column.specs.Columns.{after_settle, after_raise}
use Rattle.column.specs.Inside.{IsColumn, IsEntered, AreCopies, AreNumbers, IsStillReached}
use Rattle.log_node.proofs.CallerLemmas.{at-vector, same_vectors, within-zeros}
use Rattle.column.proofs.Histories.{same_entries, noted-append}
use Rattle.column.proofs.Growing.{base_now, base_below, base_below_now, cut_reached, other_stays, cut_same}
use Rattle.column.proofs.Storing.{all-more, entered-new, all-settled}

-- what holds of each item and of one more holds of each then
of_last : {A : Type 0} (P : ℕ → A → Type 0) (items : List A) (last : A)
    → ((i : ℕ) (a : A) → slice_get items i ≡ Some a → P i a) → P (length items) last
    → (i : ℕ) (a : A) → slice_get (items ++ last ∷ []) i ≡ Some a → P i a
of_last P [] last old new zero a is = subst (P 0) (same_Some last a is) new
of_last P [] last old new (suc i) a is = absurd (none-some a is)
of_last P (x ∷ xs) last old new zero a is = old zero a is
of_last P (x ∷ xs) last old new (suc i) a is = of_last (λ k. P (suc k)) xs last (λ k b e. old (suc k) b e) new i a is

-- a lawful history with one lawful event more
lawful_more : (own regions : ℕ) (journal : List Entry) (e : Entry) → IsColumnHistory own regions (dated own journal)
    → IsLawfulEvent own regions (dated own journal) e.event e.stamp
    → IsColumnHistory own regions (dated own (journal ++ e ∷ []))
lawful_more own regions journal e old new =
    let ds = dated own journal in
    let date : Dated = record { entry = e; cut_before = cut own (dated own journal) } in
    subst (IsColumnHistory own regions) (sym (dated-append own journal e))
    (of_last (λ (n : ℕ) (d : Dated). IsLawfulEvent own regions (take n (ds ++ date ∷ [])) d.entry.event d.entry.stamp)
    ds date
    (λ n d at_n.
    let inside = slice_get_within ds n d at_n in
    subst (λ (l : List Dated). IsLawfulEvent own regions l d.entry.event d.entry.stamp)
    (sym (take-append-le n ds (date ∷ []) (omega (arith, inside)))) (old n d at_n))
    (subst (λ (l : List Dated). IsLawfulEvent own regions l e.event e.stamp)
    (sym (take_at ds (date ∷ []) (length ds) refl)) new))

-- the column with one more entry of its journal, and this queue and these copies then
abbrev pub next_column : ColumnState → Entry → Queued EnteredNode → List (List PlacedNode) → ColumnState
next_column column e queue copies = record {
  region = column.region;
  colour = column.colour;
  regions = column.regions;
  journal = column.journal ++ e ∷ [];
  queue = queue;
  copies = copies;
}

-- nothing in it
pub new_is : (region colour regions : ℕ) → region < 4 → colour < MAX_COLOURS → regions ≤ 4
    → IsColumn (new_column region colour regions)
new_is region colour regions in_range in_colours few = record {
  in_range = in_range;
  in_colours = in_colours;
  few_regions = few;
  clock_is = refl;
  entries_are = refl;
  dropped = sym (at-vector (λ r. base_from region regions r [] []) region in_range);
  lawful = λ n d is. absurd (none-some d is);
  base_within = within-zeros (cut region []);
  things = tt;
  copies = record { of_each = refl; heads = each };
} where
  none : {A : Type 0} (n : ℕ) → ◌≡◌ {A = List A} [] (drop n [])
  none zero = refl
  none (suc n) = refl

  empty : (r : ℕ) → ◌≡◌ {A = List PlacedNode} (copy_of (new_column region colour regions) r) []
  empty zero = refl
  empty (suc zero) = refl
  empty (suc (suc zero)) = refl
  empty (suc (suc (suc zero))) = refl
  empty (suc (suc (suc (suc r)))) = refl

  each : (r : ℕ) → r < 4 → r ≢ region
      → map (λ (i : PlacedNode). i.head) (copy_of (new_column region colour regions) r)
      ≡ drop (at (base_of (new_column region colour regions)) r) (chains_of (new_column region colour regions) r)
  each r lt ne =
      ap (map (λ (i : PlacedNode). i.head)) (empty r)
      ∙ (none (at (base_of (new_column region colour regions)) r)
      ∙ ap (drop (at (base_of (new_column region colour regions)) r))
      (sym (cond_both (r == region) [] [] (λ (l : List Head). l ≡ []) (λ _. refl) (λ _. refl))))

-- the event neither carries nor trims anything
pub record IsQuiet (e : Event) : Type 0 where
  pub carries_none : (region : ℕ) → carried region e ≡ []
  pub trims_none : (own regions : ℕ) (before : List Dated) (v : Counts) (region : ℕ)
      → trimmed_to own regions before e v region ≡ 0

-- one more event
module _ (column : ColumnState) (e : Entry) (h : IsColumn column)
    (next : IsLawfulEvent column.region column.regions (history_of column) e.event e.stamp) where
  pub lawful_later : IsColumnHistory column.region column.regions (dated column.region (column.journal ++ e ∷ []))
  lawful_later = lawful_more column.region column.regions column.journal e h.lawful next

  -- what could be played can be reached yet
  pub still_reached : (queue : Queued EnteredNode) (copies : List (List PlacedNode))
      → IsStillReached column (next_column column e queue copies)
  still_reached queue copies = record {
    reached = cut_reached column.region column.regions column.journal e lawful_later;
    base = base_below column.region column.regions column.journal e lawful_later h.base_within;
  }

  pub later_is : (queue : Queued EnteredNode) (copies : List (List PlacedNode))
      → queue.clock ≡ clock (column.journal ++ e ∷ []) → queue.entries ≡ entries (column.journal ++ e ∷ [])
      → queue.base ≡ at (base_of (next_column column e queue copies)) column.region
      → AllByRecursion (IsEntered column.region column.colour (column.journal ++ e ∷ [])) queue.stored
      → AreCopies (next_column column e queue copies) → IsColumn (next_column column e queue copies)
  later_is queue copies clock_is entries_are dropped things are = record {
    in_range = h.in_range;
    in_colours = h.in_colours;
    few_regions = h.few_regions;
    clock_is = clock_is;
    entries_are = entries_are;
    dropped = dropped;
    lawful = lawful_later;
    base_within = base_below_now column.region column.regions column.journal e lawful_later h.base_within;
    things = things;
    copies = are;
  }

  -- where nothing is trimmed the base stays
  pub base_stays : ((region : ℕ)
      → trimmed_to column.region column.regions (history_of column) e.event (cut_of column) region ≡ 0)
      → base column.region column.regions (dated column.region (column.journal ++ e ∷ [])) ≡ base_of column
  base_stays none =
      base_now column.region column.regions column.journal e lawful_later
      ∙ same_vectors (λ r. max (at (base_of column) r)
      (trimmed_to column.region column.regions (history_of column) e.event (cut_of column) r)) (λ r. base_from column.region column.regions r [] (history_of column)) (λ r lt.
      let a = at-vector (λ q. base_from column.region column.regions q [] (history_of column)) r lt in
      let b = none r in
      omega (arith, a, b))

  module _ (quiet : IsQuiet e.event) where
    none_trimmed : base column.region column.regions (dated column.region (column.journal ++ e ∷ [])) ≡ base_of column
    none_trimmed = base_stays (quiet.trims_none column.region column.regions (history_of column) (cut_of column))

    pub copies_stay : (queue : Queued EnteredNode) → AreCopies (next_column column e queue column.copies)
    copies_stay queue = record {
      of_each = h.copies.of_each;
      heads = λ region lt ne. h.copies.heads region lt ne
          ∙ (ap (λ (v : Counts). drop (at v region) (chains_of column region)) (sym none_trimmed)
          ∙ ap (drop (at (base_of (next_column column e queue column.copies)) region))
          (sym (other_stays column.region column.regions column.journal e lawful_later region ne
          (quiet.carries_none region))));
    }

    pub quiet_is : (queue : Queued EnteredNode)
        → queue.clock ≡ clock (column.journal ++ e ∷ []) → queue.entries ≡ entries (column.journal ++ e ∷ [])
        → queue.base ≡ column.queue.base
        → AllByRecursion (IsEntered column.region column.colour (column.journal ++ e ∷ [])) queue.stored
        → IsColumn (next_column column e queue column.copies)
    quiet_is queue clock_is entries_are base_is things =
        later_is queue column.copies clock_is entries_are
        (base_is ∙ (h.dropped ∙ ap (λ (v : Counts). at v column.region) (sym none_trimmed))) things (copies_stay queue)

    pub quiet_numbers : ((region : ℕ) → noted_from region e.event ≡ 0) → (queue : Queued EnteredNode) (carried notes base : Counts) → AreNumbers column carried notes base
        → AreNumbers (next_column column e queue column.copies) carried notes base
    quiet_numbers asks_none queue carried notes base n = record {
      carried_are = λ region lt ne. n.carried_are region lt ne
          ∙ ap length (sym (other_stays column.region column.regions column.journal e lawful_later region ne
          (quiet.carries_none region)));
      notes_are = λ region lt.
          let a = ap (λ (ds : List Dated). noted ds region) (dated-append column.region column.journal e) in
          let b = noted-append (history_of column)
          (record { entry = e; cut_before = cut column.region (dated column.region column.journal) }) region in
          let c = n.notes_are region lt in
          let d = asks_none region in
          omega (arith, a, b, c, d);
      base_is = n.base_is ∙ sym none_trimmed;
    }

-- a node may enter under the next stamp
may_enter : (own : ℕ) (journal : List Entry) (id : Id) (floor : ℕ) → has_entered id journal ≡ false
    → next_stamp journal floor ≤ last_stamp
    → MayEnter (entries_of (dated own journal)) id floor (next_stamp journal floor)
may_enter own journal id floor fresh room =
    subst (λ (h : List Entry). MayEnter h id floor (next_stamp journal floor)) (sym (same_entries own journal))
    (record { fresh = fresh; stamped = refl; in_range = room })

-- a node that enters
module _ (column : ColumnState) (by : ℕ) (node : Node) (h : IsColumn column)
    (fresh : has_entered node.id column.journal ≡ false)
    (in_region : node.region ≡ column.region) (in_colour : has node.colours column.colour ≡ true)
    (room : stamp_for column node ≤ last_stamp) where
  abbrev pub single : Entry
  single = record { by = by; event = single_event column.colour node; stamp = stamp_for column node }

  abbrev pub proposal : Entry
  proposal = record { by = by; event = propose_event column.colour node; stamp = stamp_for column node }

  pub single_next : IsLawfulEvent column.region column.regions (history_of column) single.event single.stamp
  single_next = may_enter column.region column.journal node.id node.floor fresh room

  pub proposal_next : IsLawfulEvent column.region column.regions (history_of column) proposal.event proposal.stamp
  proposal_next = may_enter column.region column.journal node.id node.floor fresh room

  pub single_quiet : IsQuiet single.event
  single_quiet = record {
    carries_none = λ region. refl;
    trims_none = λ own regions before v region. refl;
  }

  pub proposal_quiet : IsQuiet proposal.event
  proposal_quiet = record {
    carries_none = λ region. refl;
    trims_none = λ own regions before v region. refl;
  }

  -- as final
  pub single_is : IsColumn (after_single column by node)
  single_is = quiet_is column single h single_next single_quiet (after_single column by node).queue
      (let e = clock-append column.journal single in omega (arith, e))
      (let w = entry_under (stamp_for column node) node.id true (entered_node column node) in
      ap (with_entry (record { key = w.key; settled = true })) h.entries_are
      ∙ sym (entries-append column.journal single))
      refl
      (each-append _ column.queue.stored _
      (all-more column.region column.colour column.journal single column.queue.stored h.things) (
        entered-new column.region column.colour column.journal single
            (entry_under (stamp_for column node) node.id true (entered_node column node))
            fresh (same_id-refl node.id) refl in_region in_colour (refl, refl, refl) refl tt,
        tt,
      ))

  -- as open
  pub propose_is : (node.row ≡ None → ⊥) → IsColumn (after_propose column by node)
  propose_is row = quiet_is column proposal h proposal_next proposal_quiet (after_propose column by node).queue
      (let e = clock-append column.journal proposal in omega (arith, e))
      (let w = entry_under (stamp_for column node) node.id false (entered_node column node) in
      ap (with_entry (record { key = w.key; settled = false })) h.entries_are
      ∙ sym (entries-append column.journal proposal))
      refl
      (each-append _ column.queue.stored _
      (all-more column.region column.colour column.journal proposal column.queue.stored h.things) (
        entered-new column.region column.colour column.journal proposal
            (entry_under (stamp_for column node) node.id false (entered_node column node))
            fresh (same_id-refl node.id) refl in_region in_colour (refl, refl, refl) refl row,
        tt,
      ))

-- the open entry of an id, where there is one
opened : (id : Id) (es : List Standing) → has_open id es ≡ true → (e : Standing) × (open_entry id es ≡ Some e)
opened id [] some = absurd (true≢false (sym some))
opened id (e ∷ es) some =
    cond_both (is_open_id id e) (Some e) (open_entry id es) (λ o. (x : Standing) × (o ≡ Some x))
    (λ _. (e, refl)) (λ f. opened id es (behind f some)) where
      behind : is_open_id id e ≡ false → list_any (is_open_id id) (e ∷ es) ≡ true → list_any (is_open_id id) es ≡ true
      behind f t = cc

-- it may be settled so
settling : (id : Id) (outcome : Outcome) (es : List Standing) → has_open id es ≡ true → is_decided outcome ≡ true
    → MaySettle id outcome es MAX_STAMP → IsSomeAnd (open_entry id es) (IsSettling outcome)
settling id outcome es some decided may =
    let o = opened id es some in
    subst (λ (x : Option Standing). IsSomeAnd x (IsSettling outcome)) (sym o.1) (each outcome decided may) where
      each : (outcome : Outcome) → is_decided outcome ≡ true → MaySettle id outcome es MAX_STAMP
          → IsSettling outcome (opened id es some).0
      each Open decided may = absurd (true≢false (sym decided))
      each (Gone why) decided may = tt
      each (Final f) decided may = may (opened id es some).0 (opened id es some).1

-- an open id is settled
module _ (column : ColumnState) (by : ℕ) (id : Id) (outcome : Outcome) (h : IsColumn column)
    (some : has_open id (entries column.journal) ≡ true) (decided : is_decided outcome ≡ true)
    (may : MaySettle id outcome (entries column.journal) MAX_STAMP) where
  abbrev pub settlement : Entry
  settlement = record { by = by; event = events.Settle id outcome; stamp = 0 }

  pub settle_next : IsLawfulEvent column.region column.regions (history_of column) settlement.event settlement.stamp
  settle_next = (
    refl,
    subst (λ (l : List Entry). IsSomeAnd (open_entry id (entries l)) (IsSettling outcome))
        (sym (same_entries column.region column.journal))
        (settling id outcome (entries column.journal) some decided may),
  )

  pub settle_quiet : IsQuiet settlement.event
  settle_quiet = record {
    carries_none = λ region. refl;
    trims_none = λ own regions before v region. refl;
  }

  pub settle_is : IsColumn (after_settle column by id outcome)
  settle_is = quiet_is column settlement h settle_next settle_quiet (after_settle column by id outcome).queue
      (let a = h.clock_is in let b = clock-append column.journal settlement in omega (arith, a, b))
      (ap (settled_entries id outcome) h.entries_are ∙ sym (entries-append column.journal settlement)) refl
      (all-settled column.region column.colour (column.journal ++ settlement ∷ []) id outcome column.queue.stored
      (all-more column.region column.colour column.journal settlement column.queue.stored h.things))

-- the clock is raised
module _ (column : ColumnState) (by to : ℕ) (h : IsColumn column) (above : clock column.journal < to)
    (within : to ≤ MAX_STAMP) where
  abbrev pub raising : Entry
  raising = record { by = by; event = events.Raise to; stamp = 0 }

  pub raise_next : IsLawfulEvent column.region column.regions (history_of column) raising.event raising.stamp
  raise_next = (refl, subst (λ (l : List Entry). clock l < to) (sym (same_entries column.region column.journal)) above, within)

  pub raise_quiet : IsQuiet raising.event
  raise_quiet = record {
    carries_none = λ region. refl;
    trims_none = λ own regions before v region. refl;
  }

  pub raise_is : IsColumn (after_raise column by to)
  raise_is = quiet_is column raising h raise_next raise_quiet (after_raise column by to).queue
      (let a = h.clock_is in let b = clock-append column.journal raising in omega (arith, a, b))
      (h.entries_are ∙ sym (entries-append column.journal raising)) refl
      (all-more column.region column.colour column.journal raising column.queue.stored h.things)

-- the numbers of a new column
pub new_numbers : (region colour regions : ℕ) → AreNumbers (new_column region colour regions) zeros zeros zeros
new_numbers region colour regions = record {
  carried_are = λ r lt ne. at-vector (λ _. 0) r lt
      ∙ sym (cond_both (r == region) [] [] (λ (l : List Head). length l ≡ 0) (λ _. refl) (λ _. refl));
  notes_are = λ r lt. at-vector (λ _. 0) r lt;
  base_is = refl;
}

-- without an event
pub reached_yet : (column : ColumnState) → IsColumn column → IsStillReached column column
reached_yet column h = record {
  reached = (cut-is_greatest column.region (history_of column)).reached;
  base = h.base_within;
}

-- the line stays, and with it the cut, where an event enters no node and settles none
pub still_cut : (column : ColumnState) (e : Entry) (queue : Queued EnteredNode) (copies : List (List PlacedNode))
    → IsColumn column → IsLawfulEvent column.region column.regions (history_of column) e.event e.stamp
    → ((region : ℕ) → carried region e.event ≡ []) → line (column.journal ++ e ∷ []) ≡ line column.journal
    → cut_of (next_column column e queue copies) ≡ cut_of column
still_cut column e queue copies h next none same =
    cut_same column.region column.regions column.journal e (lawful_later column e h next) same none
