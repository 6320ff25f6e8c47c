-- What a give, a carry and a trim keep true of a column.
use Rattle.std.proofs.Common.{◌≡◌, ◌≢◌, ◌⊎◌, inl, inr, ℕ, zero, suc, ◌+◌, ◌-◌, ◌<◌, ◌≤◌, min, max, List, [], ◌∷◌, ◌++◌, length}
use Rattle.std.proofs.Common.{drop, Bool, cond, refl, ap, sym, subst, ◌∙◌, arith, lit<, append-nil, length-append}
use Rattle.std.specs.Prelude.{map, slice_set, slice_index_or, ◌==◌, if◌then◌else◌}
use Rattle.std.specs.List.{fold, range_with_len}
use Rattle.std.proofs.lemmas.List.{map-append}
use Rattle.log_node.specs.declared.ids.Counts.{Counts}
use Rattle.log_node.specs.declared.node.Head.{Head}
use Rattle.log_node.specs.Seen.{PlacedNode}
use Rattle.log_node.specs.Vectors.{at, vector, IsWithin, all_regions}
use Rattle.log_node.specs.Standings.{line_of}
use Rattle.skeen_core.specs.Queues.{Queued, dropped_queue}
use Rattle.skeen_core.proofs.CallerLemmas.{each-drop}
use Rattle.col_core.specs.declared.Event.TheVariants as events
use Rattle.col_core.specs.declared.Entry.{Entry}
use Rattle.col_core.specs.History.{line, entries}
use Rattle.col_core.specs.Cuts.{Dated, entries_of, carried, noted_from, noted, trimmed_to, base, held}
use Rattle.col_core.specs.Computed.{cut, dated}
use Rattle.col_core.specs.Legal.{IsLawfulEvent}
use Rattle.col_core.proofs.CallerLemmas.{entries-append, clock-append, dated-append, cut-is_greatest, reached_within}
use Rattle.column.specs.Entering.{EnteredNode}
use Rattle.column.specs.Columns.{ColumnState, history_of, chains_of, held_of, copy_of, cut_of, base_of, kept_copy}
use Rattle.column.specs.Columns.{base_after, after_give, after_trim, with_items}
use Rattle.column.specs.Inside.{IsColumn, IsEntered, AreCopies, AreNumbers, least_noted, trimmed_base}
use Rattle.log_node.proofs.CallerLemmas.{within-at, each_region, at-vector, same_vectors, if_own, if_other}
use Rattle.column.proofs.Vectors.{own_or_other}
use Rattle.column.proofs.Histories.{same_entries, own_chain-length, noted-append}
use Rattle.column.proofs.Growing.{base_now, base_below, other_chain, other_stays}
use Rattle.column.proofs.Lists.{drop_behind, drop_twice, map_drop, set_there, set_elsewhere, set-length}
use Rattle.column.proofs.Steps.{next_column, later_is, lawful_later, quiet_is, quiet_numbers, copies_stay, base_stays, IsQuiet}
use Rattle.column.proofs.Storing.{all-more}

-- nothing above what is held is trimmed
module _ (column : ColumnState) (h : IsColumn column) where
  pub cut_held : (r : ℕ) → r < 4 → at (cut_of column) r ≤ held_of column r
  cut_held r lt = reached_within (chains_of column) (cut-is_greatest column.region (history_of column)).reached r lt

  pub base_held : (r : ℕ) → r < 4 → at (base_of column) r ≤ held_of column r
  base_held r lt =
      let a = within-at (base_of column) (cut_of column) h.base_within r lt in
      let b = cut_held r lt in
      omega (arith, a, b)

  pub own_held : held_of column column.region ≡ length (line column.journal)
  own_held = own_chain-length column.region column.journal

  pub line_is : line column.journal ≡ line_of column.queue.entries
  line_is = ap line_of (sym h.entries_are)

-- the line is given
module _ (column : ColumnState) (by region from : ℕ) (h : IsColumn column) (other : region ≢ column.region)
    (in_range : region < column.regions) where
  abbrev pub giving : Entry
  giving = record { by = by; event = events.Give region (min from (length (line column.journal))); stamp = 0 }

  pub give_next : IsLawfulEvent column.region column.regions (history_of column) giving.event giving.stamp
  give_next = (
    refl,
    other,
    in_range,
    let e : length (line (entries_of (history_of column))) ≡ length (line column.journal) =
        ap (λ (l : List Entry). length (line l)) (same_entries column.region column.journal) in
        omega (arith, e),
  )

  pub give_quiet : IsQuiet giving.event
  give_quiet = record { carries_none = λ r. refl; trims_none = λ own regions before v r. refl }

  pub give_is : IsColumn (after_give column by region from)
  give_is = quiet_is column giving h give_next give_quiet column.queue
      (let a = h.clock_is in let b = clock-append column.journal giving in omega (arith, a, b))
      (h.entries_are ∙ sym (entries-append column.journal giving)) refl
      (all-more column.region column.colour column.journal giving column.queue.stored h.things)

  pub give_numbers : (carried notes base : Counts) (n : AreNumbers column carried notes base)
      → AreNumbers (after_give column by region from) carried
      (vector (λ here. if here == region then max (at notes region) (min from (length (line column.journal)))
      else at notes here)) base
  give_numbers carried notes base n = record {
    carried_are = λ r lt ne. n.carried_are r lt ne
        ∙ ap length (sym (other_stays column.region column.regions column.journal giving
        (lawful_later column giving h give_next) r ne refl));
    notes_are = λ r lt. at-vector (λ here. if here == region then max (at notes region) length_or_from else at notes here) r lt
        ∙ each r lt (own_or_other r region);
    base_is = n.base_is
        ∙ sym (base_stays column giving h give_next (λ r. refl));
  } where
    length_or_from : ℕ
    length_or_from = min from (length (line column.journal))

    now : (r : ℕ) → noted (history_of (after_give column by region from)) r
        ≡ max (noted (history_of column) r) (noted_from r giving.event)
    now r = ap (λ (ds : List Dated). noted ds r) (dated-append column.region column.journal giving)
        ∙ noted-append (history_of column)
        (record { entry = giving; cut_before = cut column.region (dated column.region column.journal) }) r

    each : (r : ℕ) → r < 4 → (r ≡ region) ⊎ (r ≢ region)
        → cond (r == region) (max (at notes region) (min from (length (line column.journal)))) (at notes r)
        ≡ noted (history_of (after_give column by region from)) r
    each r lt (inl is) =
        let a = if_own r region (max (at notes region) (min from (length (line column.journal)))) (at notes r) is in
        let b = now r in
        let c = if_own region r (min from (length (line column.journal))) 0 (sym is) in
        let d = n.notes_are r lt in
        let e : at notes region ≡ at notes r = ap (at notes) (sym is) in
        omega (arith, a, b, c, d, e)
    each r lt (inr ne) =
        let a = if_other r region (max (at notes region) (min from (length (line column.journal)))) (at notes r) ne in
        let b = now r in
        let c = if_other region r (min from (length (line column.journal))) 0 (λ e. ne (sym e)) in
        let d = n.notes_are r lt in
        omega (arith, a, b, c, d)

-- nodes are carried
module _ (column : ColumnState) (by region : ℕ) (item : PlacedNode) (items : List PlacedNode) (h : IsColumn column)
    (other : region ≢ column.region) (in_range : region < column.regions) where
  abbrev pub carrying : Entry
  carrying = record {
    by = by;
    event = events.Carry region (held_of column region) (map (λ (i : PlacedNode). i.head) (item ∷ items));
    stamp = 0;
  }

  abbrev copies : List (List PlacedNode)
  copies = slice_set column.copies region (copy_of column region ++ item ∷ items)

  pub carry_next : IsLawfulEvent column.region column.regions (history_of column) carrying.event carrying.stamp
  carry_next = (refl, other, in_range, refl, some (map (λ (i : PlacedNode). i.head) items)) where
    some : (hs : List Head) → 0 < suc (length hs)
    some hs = omega arith

  pub below_four : region < 4
  below_four = let a = h.few_regions in omega (arith, a, in_range)

  none_trimmed : base column.region column.regions (dated column.region (column.journal ++ carrying ∷ [])) ≡ base_of column
  none_trimmed = base_stays column carrying h carry_next (λ r. refl)

  abbrev later : ColumnState
  later = next_column column carrying column.queue copies

  heads_there : map (λ (i : PlacedNode). i.head) (copy_of later region)
      ≡ drop (at (base_of later) region) (chains_of later region)
  heads_there =
      ap (map (λ (i : PlacedNode). i.head)) (set_there column.copies region (copy_of column region ++ item ∷ items) []
      (let a = h.copies.of_each in let b = below_four in omega (arith, a, b)))
      ∙ (map-append (λ (i : PlacedNode). i.head) (copy_of column region) (item ∷ items)
      ∙ (ap (λ (hs : List Head). hs ++ map (λ (i : PlacedNode). i.head) (item ∷ items))
      (h.copies.heads region below_four other)
      ∙ (sym (drop_behind (at (base_of column) region) (chains_of column region)
      (map (λ (i : PlacedNode). i.head) (item ∷ items)) (base_held column h region below_four))
      ∙ (ap (λ (hs : List Head). drop (at (base_of column) region) (chains_of column region ++ hs))
      (sym (if_own region region (map (λ (i : PlacedNode). i.head) (item ∷ items)) [] refl))
      ∙ (ap (drop (at (base_of column) region)) (sym (other_chain column.region column.regions column.journal carrying
      (lawful_later column carrying h carry_next) region other))
      ∙ ap (λ (v : Counts). drop (at v region) (chains_of later region)) (sym none_trimmed))))))

  heads_elsewhere : (r : ℕ) → r < 4 → r ≢ column.region → r ≢ region
      → map (λ (i : PlacedNode). i.head) (copy_of later r) ≡ drop (at (base_of later) r) (chains_of later r)
  heads_elsewhere r lt ne away =
      ap (map (λ (i : PlacedNode). i.head)) (set_elsewhere column.copies region r
      (copy_of column region ++ item ∷ items) [] (λ e. away (sym e)))
      ∙ (h.copies.heads r lt ne
      ∙ (ap (drop (at (base_of column) r)) (sym (other_stays column.region column.regions column.journal carrying
      (lawful_later column carrying h carry_next) r ne
      (if_other region r (map (λ (i : PlacedNode). i.head) (item ∷ items)) [] (λ e. away (sym e)))))
      ∙ ap (λ (v : Counts). drop (at v r) (chains_of later r)) (sym none_trimmed)))

  carried_copies : AreCopies later
  carried_copies = record {
    of_each = set-length column.copies region (copy_of column region ++ item ∷ items) ∙ h.copies.of_each;
    heads = λ r lt ne. each r lt ne (own_or_other r region);
  } where
    each : (r : ℕ) → r < 4 → r ≢ column.region → (r ≡ region) ⊎ (r ≢ region)
        → map (λ (i : PlacedNode). i.head) (copy_of later r) ≡ drop (at (base_of later) r) (chains_of later r)
    each r lt ne (inl is) = subst (λ (q : ℕ). map (λ (i : PlacedNode). i.head) (copy_of later q)
        ≡ drop (at (base_of later) q) (chains_of later q)) (sym is) heads_there
    each r lt ne (inr away) = heads_elsewhere r lt ne away

  pub carry_is : IsColumn (with_items column by region (item ∷ items))
  carry_is = later_is column carrying h carry_next column.queue copies
      (let a = h.clock_is in let b = clock-append column.journal carrying in omega (arith, a, b))
      (h.entries_are ∙ sym (entries-append column.journal carrying))
      (h.dropped ∙ ap (λ (v : Counts). at v column.region) (sym none_trimmed))
      (all-more column.region column.colour column.journal carrying column.queue.stored h.things) carried_copies

  held_now : held_of later region ≡ held_of column region + suc (length items)
  held_now =
      let a = ap length (other_chain column.region column.regions column.journal carrying
      (lawful_later column carrying h carry_next) region other) in
      let b = length-append (chains_of column region) (carried region carrying.event) in
      let c : length (carried region carrying.event) ≡ suc (length (map (λ (i : PlacedNode). i.head) items)) =
      ap length (if_own region region (map (λ (i : PlacedNode). i.head) (item ∷ items)) [] refl) in
      let d = mapped items in
      omega (arith, a, b, c, d) where
        mapped : (is : List PlacedNode) → length (map (λ (i : PlacedNode). i.head) is) ≡ length is
        mapped [] = refl
        mapped (i ∷ is) = ap (λ (n : ℕ). suc n) (mapped is)

  pub carry_numbers : (counted notes base : Counts) (end : ℕ) (n : AreNumbers column counted notes base)
      → end ≡ at counted region + suc (length items)
      → AreNumbers (with_items column by region (item ∷ items))
      (vector (λ here. if here == region then end else at counted here)) notes base
  carry_numbers counted notes base end n is_end = record {
    carried_are = λ r lt ne. at-vector (λ here. if here == region then end else at counted here) r lt
        ∙ each r lt ne (own_or_other r region);
    notes_are = λ r lt.
        let a = ap (λ (ds : List Dated). noted ds r) (dated-append column.region column.journal carrying) in
        let b = noted-append (history_of column)
        (record { entry = carrying; cut_before = cut column.region (dated column.region column.journal) }) r in
        let c = n.notes_are r lt in
        omega (arith, a, b, c);
    base_is = n.base_is ∙ sym none_trimmed;
  } where
    each : (r : ℕ) → r < 4 → r ≢ column.region → (r ≡ region) ⊎ (r ≢ region)
        → cond (r == region) end (at counted r) ≡ held_of later r
    each r lt ne (inl is) =
        let a = if_own r region end (at counted r) is in
        let b = n.carried_are region below_four other in
        let c = held_now in
        let d : held_of later r ≡ held_of later region = ap (held_of later) is in
        omega (arith, a, b, c, d, is_end)
    each r lt ne (inr away) =
        if_other r region end (at counted r) away
        ∙ (n.carried_are r lt ne
        ∙ ap length (sym (other_stays column.region column.regions column.journal carrying
        (lawful_later column carrying h carry_next) r ne
        (if_other region r (map (λ (i : PlacedNode). i.head) (item ∷ items)) [] (λ e. away (sym e))))))

-- numbers that are the same up to four
AllBelow : List ℕ → Type 0
AllBelow [] = Unit {0}
AllBelow (r ∷ rs) = (r < 4) × AllBelow rs

same_least : (own : ℕ) (f g : ℕ → ℕ) → ((r : ℕ) → r < 4 → f r ≡ g r) → (rs : List ℕ) → AllBelow rs → (bound : ℕ)
    → fold (λ n region. if region == own then n else min n (f region)) bound rs
    ≡ fold (λ n region. if region == own then n else min n (g region)) bound rs
unfolding AllBelow
same_least own f g same [] below bound = refl
same_least own f g same (r ∷ rs) below bound =
    ap (λ (n : ℕ). fold (λ m region. if region == own then m else min m (f region)) (if r == own then bound else min bound n) rs)
    (same r below.0)
    ∙ same_least own f g same rs below.1 (if r == own then bound else min bound (g r))

all_below : (regions : ℕ) → regions ≤ 4 → AllBelow (range_with_len 0 regions)
unfolding AllBelow
all_below zero le = tt
all_below (suc zero) le = (lit< tt, tt)
all_below (suc (suc zero)) le = (lit< tt, (lit< tt, tt))
all_below (suc (suc (suc zero))) le = (lit< tt, (lit< tt, (lit< tt, tt)))
all_below (suc (suc (suc (suc zero)))) le = (lit< tt, (lit< tt, (lit< tt, (lit< tt, tt))))
all_below (suc (suc (suc (suc (suc n))))) le = absurd (let f : ⊥ = omega (arith, le) in f)

-- nodes are trimmed
module _ (column : ColumnState) (by : ℕ) (counts : Counts) (h : IsColumn column) where
  abbrev pub trimming : Entry
  trimming = record { by = by; event = events.Trim counts; stamp = 0 }

  -- the base then
  pub trimmed_is : (counted notes base cut : Counts) (n : AreNumbers column counted notes base) → cut ≡ cut_of column
      → vector (trimmed_base base notes cut counts column.region column.regions) ≡ base_after column by counts
  trimmed_is counted notes base cut n cut_is =
      ap (λ (v : Counts). vector (trimmed_base v notes cut counts column.region column.regions)) n.base_is
      ∙ (ap (λ (v : Counts). vector (trimmed_base (base_of column) notes v counts column.region column.regions)) cut_is
      ∙ (same_vectors (trimmed_base (base_of column) notes (cut_of column) counts column.region column.regions) _ (λ r lt.
      ap (λ (b : ℕ). max (at (base_of column) r) (cond (r == column.region) b (min (at counts r) (at (cut_of column) r))))
      (same_least column.region (at notes) (noted (history_of column)) n.notes_are (range_with_len 0 column.regions)
      (all_below column.regions h.few_regions) (min (at counts r) (at (cut_of column) r))))
      ∙ sym (base_now column.region column.regions column.journal trimming
      (lawful_later column trimming h refl))))

  -- which has not fallen
  pub base_grows : (r : ℕ) → r < 4 → at (base_of column) r ≤ at (base_after column by counts) r
  base_grows r lt =
      let a = ap (λ (v : Counts). at v r)
      (base_now column.region column.regions column.journal trimming (lawful_later column trimming h refl)) in
      let b = at-vector (λ q. max (at (base_of column) q)
      (trimmed_to column.region column.regions (history_of column) trimming.event (cut_of column) q)) r lt in
      omega (arith, a, b)

  -- and lies within the line
  pub base_in_line : at (base_after column by counts) column.region ≤ length (line_of column.queue.entries)
  base_in_line =
      let a = within-at (base_after column by counts) (cut_of column)
      (base_below column.region column.regions column.journal trimming (lawful_later column trimming h refl) h.base_within)
      column.region h.in_range in
      let b = cut_held column h column.region h.in_range in
      let c = own_held column h in
      let d = ap length (line_is column h) in
      omega (arith, a, b, c, d)

  kept_at : (r : ℕ) → r < 4
      → slice_index_or (map (kept_copy column (base_after column by counts)) all_regions) r []
      ≡ kept_copy column (base_after column by counts) r
  kept_at = each_region (λ r. slice_index_or (map (kept_copy column (base_after column by counts)) all_regions) r []
      ≡ kept_copy column (base_after column by counts) r) refl refl refl refl

  trimmed_copies : AreCopies (after_trim column by counts)
  trimmed_copies = record {
    of_each = refl;
    heads = λ r lt ne. ap (map (λ (i : PlacedNode). i.head)) (kept_at r lt)
        ∙ (sym (map_drop (λ (i : PlacedNode). i.head)
        (at (base_after column by counts) r - at (base_of column) r) (copy_of column r))
        ∙ (ap (drop (at (base_after column by counts) r - at (base_of column) r)) (h.copies.heads r lt ne)
        ∙ (drop_twice (at (base_after column by counts) r - at (base_of column) r) (at (base_of column) r)
        (at (base_after column by counts) r) (chains_of column r)
        (let a = base_grows r lt in omega (arith, a))
        ∙ ap (drop (at (base_after column by counts) r))
        (sym (other_stays column.region column.regions column.journal trimming (lawful_later column trimming h refl) r ne
        refl)))));
  }

  pub trim_is : IsColumn (after_trim column by counts)
  trim_is = later_is column trimming h refl (after_trim column by counts).queue (after_trim column by counts).copies
      (let a = h.clock_is in let b = clock-append column.journal trimming in omega (arith, a, b))
      (h.entries_are ∙ sym (entries-append column.journal trimming))
      (let a = base_grows column.region h.in_range in let b = h.dropped in omega (arith, a, b))
      (each-drop (IsEntered column.region column.colour (column.journal ++ trimming ∷ []))
      (at (base_after column by counts) column.region - column.queue.base) column.queue.stored
      (all-more column.region column.colour column.journal trimming column.queue.stored h.things)) trimmed_copies

  pub trim_numbers : (counted notes base : Counts) (n : AreNumbers column counted notes base)
      → AreNumbers (after_trim column by counts) counted notes (base_after column by counts)
  trim_numbers counted notes base n = record {
    carried_are = λ r lt ne. n.carried_are r lt ne
        ∙ ap length (sym (other_stays column.region column.regions column.journal trimming
        (lawful_later column trimming h refl) r ne refl));
    notes_are = λ r lt.
        let a = ap (λ (ds : List Dated). noted ds r) (dated-append column.region column.journal trimming) in
        let b = noted-append (history_of column)
        (record { entry = trimming; cut_before = cut column.region (dated column.region column.journal) }) r in
        let c = n.notes_are r lt in
        omega (arith, a, b, c);
    base_is = refl;
  }

-- what is held, where so many nodes are in the line
pub counted_is : (column : ColumnState) (h : IsColumn column) (counted notes base : Counts) (count : ℕ)
    → AreNumbers column counted notes base → count ≡ length (line column.journal)
    → vector (λ r. if r == column.region then count else at counted r) ≡ held column.region (history_of column)
counted_is column h counted notes base count n is =
    same_vectors (λ r. if r == column.region then count else at counted r) (held_of column)
    (λ r lt. each r lt (own_or_other r column.region)) where
      each : (r : ℕ) → r < 4 → (r ≡ column.region) ⊎ (r ≢ column.region)
          → cond (r == column.region) count (at counted r) ≡ held_of column r
      each r lt (inl own) =
          if_own r column.region count (at counted r) own
          ∙ (is ∙ (sym (own_held column h) ∙ ap (held_of column) (sym own)))
      each r lt (inr ne) = if_other r column.region count (at counted r) ne ∙ n.carried_are r lt ne
