-- A stamped read goes over all nodes of the whole lines of its colours up to its stamp.
use Rattle.std.proofs.Common.{◌≡◌, ◌∙◌, true, ℕ, zero, suc, ◌+◌, ◌-◌, ◌^◌, ◌<◌, ◌≤◌, List, [], ◌∷◌, ◌++◌, length, take, drop, take-append-drop, map, Some, ◌⊎◌, inl, inr, ap, refl, sym, subst, arith, max}
use Rattle.std.specs.Prelude.{◌==◌, IsTrue, nat_le, slice_get}
use Rattle.std.specs.List.{Contains}
use mathlib.Core.List.{IsPrefix}
use Rattle.std.proofs.lemmas.Option.{get_or_from_slice_get}
use Rattle.std.proofs.lemmas.Bool.{cases_lt, eq-eqb, eqb-true, le-leb, leb-true}
use Rattle.std.proofs.lemmas.List.{length-map, take_all}
use Rattle.std.proofs.lemmas.List.Kept.{AllPairs-filter}
use Rattle.log_node.specs.declared.ids.Key.{Key}
use Rattle.log_node.specs.declared.node.At.{At}
use Rattle.log_node.specs.declared.node.At.TheVariants as ats
use Rattle.log_node.specs.Order.{key_below}
use Rattle.log_node.specs.Vectors.{at}
use Rattle.log_node.proofs.CallerLemmas.{get_within}
use Rattle.col_core.specs.declared.Event.TheVariants as events
use Rattle.col_core.specs.declared.Entry.{Entry}
use Rattle.col_core.specs.History.{clock, line}
use Rattle.col_core.specs.Computed.{dated}
use Rattle.col_core.specs.Cuts.{chain, entries_of, needs_of}
use Rattle.col_core.specs.Legal.{IsColumnHistory}
use Rattle.col_core.specs.Log.{Log, first}
use Rattle.col_core.specs.Keeping.{Kept, updated, updated_at}
use Rattle.col_core.specs.RegionOrder.{IsRegionOrder, IsClearUpTo}
use Rattle.col_core.proofs.CallerLemmas.{In, choice, clock_more, clocks_rise, contains_in, dates_longer, entries_dated, if_true, in_contains, in_filter, in_filter-back, in_left, in_map, in_map-back, in_take, later, line_grows, reached_within}
use Rattle.playback.specs.Merging.{AreRising, region_order, up_to}
use Rattle.playback.specs.Laws.{RegionOrderIsLawful}
use Rattle.report_text.specs.declared.report.RaisePiece.{RaisePiece}
use Rattle.report_text.specs.declared.report.SyncPiece.{SyncPiece}
use Rattle.lawful_run.specs.Callers.{Caller}
use Rattle.lawful_run.proofs.CallerLemmas.{get_within as there_within, prefix_length, prefix_take}
use Rattle.lawful_run.specs.Laws.{ReadItemsLast}
use Rattle.lawful_run.specs.Reads.{RaisesClock, kept_after_place, Raises, ClearSyncs, kept_after_piece, ReadsAt, lines_read, AreKeysRead}
use Rattle.object_law.specs.KeysRead.{PlayedBegin, ReadsBegin, whole_lines, whole_order}
use Rattle.object_law.proofs.LineOrder.{line_rising}

-- A FUNCTION OF REGION AND COLOUR WITH ANOTHER VALUE AT ONE COLUMN

at_new : {A : Type 0} (P : A → Type 0) (f : ℕ → A) (n : ℕ) (x : A) (m : ℕ) → P x → P (f m) → P (updated f n x m)
at_new P f n x m here there = choice P (m == n) x (f m) (λ _. here) (λ _. there)

at_column : (P : ℕ → Type 0) (f : ℕ → ℕ → ℕ) (a n x m : ℕ) → P (updated (f a) n x m) → P (updated_at f a n x a m)
at_column P f a n x m p =
    subst (λ (g : ℕ → ℕ). P (g m)) (sym (if_true (a == a) (updated (f a) n x) (f a) (eq-eqb a a refl))) p

updated_here : (f : ℕ → ℕ → ℕ) (a n x : ℕ) → updated_at f a n x a n ≡ x
updated_here f a n x = at_column (λ k. k ≡ x) f a n x n (if_true (n == n) x (f a n) (eq-eqb n n refl))

-- no fewer are seen
no_fewer : (f : ℕ → ℕ → ℕ) (a n x m : ℕ) → (n ≡ m → f a m ≤ x) → f a m ≤ updated_at f a n x a m
no_fewer f a n x m more =
    at_column (λ k. f a m ≤ k) f a n x m
    (choice (λ k. f a m ≤ k) (m == n) x (f a m) (λ t. more (sym (eqb-true m n t))) (λ _. omega arith))

-- THE CLOCK

clock_step : (h : List Entry) (n : ℕ) → clock (take n h) ≤ clock (take (n + 1) h)
clock_step h n = by (cases_lt n (length h)) where
  by : (n < length h) ⊎ (length h ≤ n) → clock (take n h) ≤ clock (take (n + 1) h)
  by (inl lt) =
      let there = get_within h n lt in
      let c = clock_more h n there.0 lt (sym (get_or_from_slice_get h n there.0 there.0 there.1)) in
      omega (arith, c)
  by (inr ge) =
      let a = ap clock (take_all n h ge) in
      let b = ap clock (take_all (n + 1) h (omega (arith, ge))) in
      omega (arith, a, b)

-- it never falls
clock_up : (h : List Entry) (n k : ℕ) → clock (take n h) ≤ clock (take (n + k) h)
clock_up h n zero = let e : clock (take n h) ≡ clock (take (n + zero) h) = ap (λ (m : ℕ). clock (take m h)) (omega arith) in omega (arith, e)
clock_up h n (suc k) =
    let before = clock_up h n k in
    let one = clock_step h (n + k) in
    let e : clock (take (n + k + 1) h) ≡ clock (take (n + suc k) h) = ap (λ (m : ℕ). clock (take m h)) (omega arith) in
    omega (arith, before, one, e)

clock_grows : (h : List Entry) (n m : ℕ) → n ≤ m → clock (take n h) ≤ clock (take m h)
clock_grows h n m le =
    let up = clock_up h n (m - n) in
    let e : clock (take (n + (m - n)) h) ≡ clock (take m h) = ap (λ (k : ℕ). clock (take k h)) (omega (arith, le)) in
    omega (arith, up, e)

-- a line begins the later one
grown_line : (own regions : ℕ) (h more : List Entry) → IsColumnHistory own regions (dated own (h ++ more))
    → IsPrefix (line h) (line (h ++ more))
grown_line own regions h more legal =
    let dates = dates_longer own h more in
    let g = line_grows own regions (dated own h) (later own (dated own h) more) (subst (IsColumnHistory own regions) dates legal) in (
      g.0,
      ap (λ (es : List Entry). line es ++ g.0) (sym (entries_dated own h))
          ∙ (g.1 ∙ ap line (ap entries_of (sym dates) ∙ entries_dated own (h ++ more))),
    )

-- OF ONE CLIENT, AND OF A STAMP

module _ (log : Log) (caller : Caller) (stamp : ℕ) where
  -- what the client has seen of the column's clock is at the stamp
  record AtStamp (kept : Kept) (colour : ℕ) : Type 0 where
    events : ℕ
    seen : events ≤ kept.seen caller.own colour
    there : events ≤ length (log.histories caller.own colour)
    at : stamp ≤ clock (take events (log.histories caller.own colour))

  still : {kept after : Kept} {colour : ℕ} → kept.seen caller.own colour ≤ after.seen caller.own colour
      → AtStamp kept colour → AtStamp after colour
  still more a = record { events = a.events; seen = let s = a.seen in omega (arith, s, more); there = a.there; at = a.at }

  -- a raise brings it there
  raised : (kept : Kept) (colour : ℕ) (place : At) → RaisesClock log caller kept stamp colour place
      → AtStamp (kept_after_place kept caller.own colour place) colour
  raised kept colour (ats.Event place) r =
      let h = log.histories caller.own colour in
      let e : Entry = record { by = caller.client; event = events.Raise stamp; stamp = 0 } in
      let lt = there_within h place e r.2 in
      let c = clock_more h place e lt (sym (get_or_from_slice_get h place e e r.2)) in
      let s = updated_here kept.seen caller.own colour (place + 1) in
      record { events = place + 1; seen = omega (arith, s); there = omega (arith, lt); at = omega (arith, c) }
  raised kept colour (ats.Look events) r =
      let s = updated_here kept.seen caller.own colour events in
      record { events = events; seen = omega (arith, s); there = r.1; at = r.3 }

  -- and it stays there
  sees : (kept : Kept) (c : ℕ) (place : At) → RaisesClock log caller kept stamp c place → (colour : ℕ)
      → kept.seen caller.own colour ≤ (kept_after_place kept caller.own c place).seen caller.own colour
  sees kept c (ats.Event place) r colour =
      no_fewer kept.seen caller.own c (place + 1) colour
      (λ f. let u = subst (λ d. kept.seen caller.own d ≤ place) f r.0 in omega (arith, u))
  sees kept c (ats.Look events) r colour =
      no_fewer kept.seen caller.own c events colour (λ f. subst (λ d. kept.seen caller.own d ≤ events) f r.0)

  all_raised : (kept : Kept) (raises : List RaisePiece) (after : Kept) → Raises log caller stamp kept raises after
      → (colour : ℕ) → AtStamp kept colour ⊎ In colour (map (λ (r : RaisePiece). r.colour) raises)
      → AtStamp after colour
  all_raised kept [] after r colour (inl a) = subst (λ (k : Kept). AtStamp k colour) (sym r) a
  all_raised kept [] after r colour (inr i) = absurd i
  all_raised kept (p ∷ ps) after r colour (inl a) =
      all_raised (kept_after_place kept caller.own p.colour p.at) ps after r.1 colour
      (inl (still (sees kept p.colour p.at r.0 colour) a))
  all_raised kept (p ∷ ps) after r colour (inr (inl e)) =
      all_raised (kept_after_place kept caller.own p.colour p.at) ps after r.1 colour
      (inl (subst (AtStamp (kept_after_place kept caller.own p.colour p.at)) e (raised kept p.colour p.at r.0)))
  all_raised kept (p ∷ ps) after r colour (inr (inr i)) =
      all_raised (kept_after_place kept caller.own p.colour p.at) ps after r.1 colour (inr i)

  -- each sync looks at no fewer events, among which no open entry up to the stamp is left
  abbrev IsClearSync : SyncPiece → Type 0
  IsClearSync s =
      (stamp ≤ clock (take s.events (log.histories caller.own s.colour)))
      × IsClearUpTo stamp (take s.events (log.histories caller.own s.colour))

  all_clear : (kept : Kept) (syncs : List SyncPiece) (after : Kept) → ClearSyncs log caller stamp kept syncs after
      → ((colour : ℕ) → In colour (map (λ (s : SyncPiece). s.colour) syncs) → AtStamp kept colour) → (s : SyncPiece)
      → In s syncs → IsClearSync s
  all_clear kept [] after c all s i = absurd i
  all_clear kept (x ∷ xs) after c all s (inl e) =
      subst IsClearSync e
      (let a = all x.colour (inl refl) in
      let u = c.0.unseen in
      let s = a.seen in
      let g = clock_grows (log.histories caller.own x.colour) a.events x.events (omega (arith, u, s)) in
      let at = a.at in
      (omega (arith, g, at), c.1))
  all_clear kept (x ∷ xs) after c all s (inr i) =
      all_clear (kept_after_piece log caller kept x) xs after c.2
      (λ colour j. still (no_fewer kept.seen caller.own x.colour x.events colour
      (λ f. subst (λ d. kept.seen caller.own d ≤ x.events) f c.0.unseen))
      (all colour (inr j))) s i

  -- the syncs of a stamped read do
  clear_syncs : (kept : Kept) (colours : List ℕ) (raises : List RaisePiece) (syncs : List SyncPiece) (after : Kept)
      → ReadsAt log caller kept colours stamp raises syncs after → (s : SyncPiece) → In s syncs → IsClearSync s
  clear_syncs kept colours raises syncs after r =
      all_clear r.raised syncs r.synced r.syncing
      (λ colour i. all_raised kept raises r.raised r.raising colour
      (inr (subst (λ (l : List ℕ). In colour l) (r.synced_colours ∙ sym r.raised_colours) i)))

  -- KEYS

  module _ (ordered : RegionOrderIsLawful) (last : ReadItemsLast) (colours : List ℕ)
      (lawful : (colour : ℕ) → In colour colours
      → IsColumnHistory caller.own caller.regions (dated caller.own (log.histories caller.own colour))) where
    parted : (colour n : ℕ) → In colour colours → IsColumnHistory caller.own caller.regions
        (dated caller.own (take n (log.histories caller.own colour) ++ drop n (log.histories caller.own colour)))
    parted colour n i =
        subst (λ (h : List Entry). IsColumnHistory caller.own caller.regions (dated caller.own h))
        (sym (take-append-drop n (log.histories caller.own colour))) (lawful colour i)

    -- a key that stood in a line stands there
    stays : (colour n : ℕ) → In colour colours → (key : Key) → In key (line (take n (log.histories caller.own colour)))
        → In key (line (log.histories caller.own colour))
    stays colour n i key there =
        let h = log.histories caller.own colour in
        let more = grown_line caller.own caller.regions (take n h) (drop n h) (parted colour n i) in
        subst (λ (l : List Key). In key l) (more.1 ∙ ap line (take-append-drop n h)) (in_left key (line (take n h)) more.0 there)

    rising : (l : List Key) → Contains (whole_lines log caller.own colours) l → AreRising l
    rising l c =
        let m = in_map (λ colour. line (log.histories caller.own colour)) colours l
        (in_contains (whole_lines log caller.own colours) l c) in
        subst AreRising m.2 (line_rising caller.own caller.regions (log.histories caller.own m.0) (lawful m.0 m.1))

    -- what is in the order of the region up to the stamp is what a stamped read of the colours goes over
    pub keys_ordered : (kept : Kept) (raises : List RaisePiece) (syncs : List SyncPiece) (after : Kept) (keys : List Key)
        → ReadsAt log caller kept colours stamp raises syncs after
        → IsRegionOrder (whole_lines log caller.own colours) stamp keys → AreKeysRead log caller stamp syncs keys
    keys_ordered kept raises syncs after keys r o =
        record {
          rising = o.rising;
          all = λ l key has inside le.
              let m = in_map looked syncs l (in_contains (lines_read log caller syncs) l has) in
              let k = among m.0 m.1 in
              let here = stays m.0.colour m.0.events k key (subst (λ (ks : List Key). In key ks) (sym m.2) (in_contains l key inside)) in
              o.all (line (log.histories caller.own m.0.colour)) key
              (contains_in (whole_lines log caller.own colours) _ (in_map-back (λ c. line (log.histories caller.own c)) colours m.0.colour k))
              (contains_in _ key here) le;
          no_other = λ key has.
              let of = o.no_other key has in
              let m = in_map (λ c. line (log.histories caller.own c)) colours of.1 (in_contains _ of.1 of.2) in
              let s = in_map (λ (x : SyncPiece). x.colour) syncs m.0 (subst (λ (l : List ℕ). In m.0 l) (sym r.synced_colours) m.1) in
              let h = log.histories caller.own s.0.colour in
              let clear = clear_syncs kept colours raises syncs after r s.0 s.1 in
              let here = last caller.own caller.regions (take s.0.events h) (drop s.0.events h) stamp
              (parted s.0.colour s.0.events (among s.0 s.1)) clear.0 clear.1 key of.0
              (subst (λ (es : List Entry). Contains (line es) key) (sym (take-append-drop s.0.events h))
              (subst (λ (c : ℕ). Contains (line (log.histories caller.own c)) key) (sym s.2)
              (subst (λ (ks : List Key). Contains ks key) (sym m.2) of.3))) in
              (of.0, looked s.0, contains_in (lines_read log caller syncs) (looked s.0) (in_map-back looked syncs s.0 s.1), here);
        } where
          looked : SyncPiece → List Key
          looked s = line (take s.events (log.histories caller.own s.colour))

          among : (s : SyncPiece) → In s syncs → In s.colour colours
          among s i = subst (λ (l : List ℕ). In s.colour l) r.synced_colours (in_map-back (λ (x : SyncPiece). x.colour) syncs s i)

    -- the beginning of the whole order up to the stamp is in that order
    pub order_begins : (n : ℕ) → stamp ≤ 2 ^ 64 - 1
        → take n (whole_order log caller.own colours) ≡ up_to stamp (whole_order log caller.own colours)
        → IsRegionOrder (whole_lines log caller.own colours) stamp (take n (whole_order log caller.own colours))
    order_begins n low same =
        let order = whole_order log caller.own colours in
        let o = ordered (2 ^ 64 - 1) (whole_lines log caller.own colours) rising in record {
          rising = subst AreRising (sym same) (AllPairs-filter (λ (a b : Key). IsTrue (key_below a b)) (λ (x : Key). nat_le x.stamp stamp) order o.rising);
          all = λ l key has inside le.
              let whole = o.all l key has inside (omega (arith, le, low)) in
              contains_in (take n order) key
              (subst (λ (ks : List Key). In key ks) (sym same)
              (in_filter-back (λ (x : Key). nat_le x.stamp stamp) key order (in_contains order key whole) (le-leb key.stamp stamp le)));
          no_other = λ key has.
              let i = subst (λ (ks : List Key). In key ks) same (in_contains (take n order) key has) in
              let f = in_filter (λ (x : Key). nat_le x.stamp stamp) key order i in
              let of = o.no_other key (contains_in order key f.0) in
              (leb-true key.stamp stamp f.1, of.1, of.2, of.3);
        }

    -- so it is what a stamped read of the colours goes over
    pub keys_begin : (kept : Kept) (raises : List RaisePiece) (syncs : List SyncPiece) (after : Kept) (n : ℕ)
        → stamp ≤ 2 ^ 64 - 1 → ReadsAt log caller kept colours stamp raises syncs after
        → take n (whole_order log caller.own colours) ≡ up_to stamp (whole_order log caller.own colours)
        → AreKeysRead log caller stamp syncs (take n (whole_order log caller.own colours))
    keys_begin kept raises syncs after n low r same =
        keys_ordered kept raises syncs after (take n (whole_order log caller.own colours)) r (order_begins n low same)

pub reads_begin : RegionOrderIsLawful → ReadItemsLast → ReadsBegin
reads_begin ordered last log caller kept colours stamp raises syncs after n lawful low =
    keys_begin log caller stamp ordered last colours (λ colour i. lawful colour (contains_in colours colour i)) kept raises syncs after n
    (omega (arith, low))

-- WHAT A SYNC PLAYED

pub played_begin : PlayedBegin
played_begin log caller kept sync few lawful s =
    let own = caller.own in
    let whole = log.histories own sync.colour in
    let h = take sync.events whole in
    let within = reached_within (chain own (first log own sync.colour sync.events)) s.cut.reached own few in
    let long : length (chain own (dated own h) own) ≡ length (line h) =
    ap length (if_true (own == own) _ _ (eq-eqb own own refl))
    ∙ (length-map (line (entries_of (dated own h)))
    (λ (key : Key). record { key = key; needs = needs_of (dated own h) key.id })
    ∙ ap (λ (es : List Entry). length (line es)) (entries_dated own h)) in
    let legal = subst (λ (x : List Entry). IsColumnHistory own caller.regions (dated own x)) (sym (take-append-drop sync.events whole)) lawful in
    let more = grown_line own caller.regions h (drop sync.events whole) legal in
    let prefix : IsPrefix (line h) (line whole) = (more.0, more.1 ∙ ap line (take-append-drop sync.events whole)) in
    let inside = prefix_length (line h) (line whole) prefix in (
      prefix_take (line h) (line whole) (at sync.counts own) prefix (omega (arith, within, long)),
      omega (arith, within, long, inside),
    )
