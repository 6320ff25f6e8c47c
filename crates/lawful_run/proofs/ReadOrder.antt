-- A stamped read has all nodes of the closing lines up to its stamp.
use Rattle.std.proofs.Common.{◌≡◌, ℕ, ◌+◌, ◌≤◌, List, [], ◌∷◌, ◌++◌, length, reverse, take, drop, map, refl, ap, sym, subst, ◌∙◌, ◌⊎◌, inl, inr, arith}
use Rattle.std.specs.List.{Contains}
use Rattle.std.proofs.lemmas.Option.{get_or_from_slice_get}
use Rattle.std.proofs.lemmas.List.{reverse-append}
use Rattle.log_node.specs.declared.ids.Key.{Key}
use Rattle.log_node.specs.declared.node.At.{At}
use Rattle.log_node.specs.declared.node.At.TheVariants as ats
use Rattle.col_core.specs.declared.Event.TheVariants as events
use Rattle.col_core.specs.declared.Entry.{Entry}
use Rattle.col_core.specs.History.{clock, line}
use Rattle.col_core.specs.Computed.{dated}
use Rattle.col_core.specs.Legal.{IsColumnHistory}
use Rattle.col_core.specs.Log.{Log}
use Rattle.col_core.specs.Keeping.{Kept}
use Rattle.col_core.specs.RegionOrder.{IsRegionOrder, IsClearUpTo}
use Rattle.col_core.proofs.CallerLemmas.{clock_more, clock-of, In}
use Rattle.col_core.proofs.CallerLemmas as pasts
use Rattle.report_text.specs.declared.report.RaisePiece.{RaisePiece}
use Rattle.report_text.specs.declared.report.SyncPiece.{SyncPiece}
use Rattle.lawful_run.specs.Callers.{Caller}
use Rattle.lawful_run.specs.Reads.{RaisesClock, kept_after_place, Raises, ClearSyncs, kept_after_piece, ReadsAt, lines_read, AreKeysRead}
use Rattle.lawful_run.proofs.Prefixes.{get_within}
use Rattle.lawful_run.proofs.Listed.{to_in, from_in, in_map, in_map_back}
use Rattle.lawful_run.proofs.ReadItems.{clock_later, read_items_stay}
use Rattle.lawful_run.proofs.Beginnings.{at_new_at, split, taken, updated_at_here}

-- the clock never falls
clock_grows : (h : List Entry) (n m : ℕ) → n ≤ m → clock (take n h) ≤ clock (take m h)
clock_grows h n m le =
    let more = drop n (take m h) in
    let whole : clock (take m h) ≡ pasts.clock (reverse more ++ reverse (take n h)) =
    ap clock (sym (taken h n m le)) ∙ (clock-of (take n h ++ more) ∙ ap pasts.clock (reverse-append (take n h) more)) in
    let l = clock_later (reverse more) (reverse (take n h)) (clock (take n h))
    (let e = clock-of (take n h) in omega (arith, e)) in
    omega (arith, whole, l)

module _ (log : Log) (caller : Caller) (stamp : ℕ) where
  -- what the client has seen of the column's clock is at the stamp
  record AtStamp (kept : Kept) (colour : ℕ) : Type 0 where
    events : ℕ
    seen : events ≤ kept.seen caller.own colour
    there : events ≤ length (log.histories caller.own colour)
    at : stamp ≤ clock (take events (log.histories caller.own colour))

  still : {kept after : Kept} {colour : ℕ} → kept.seen caller.own colour ≤ after.seen caller.own colour
      → AtStamp kept colour → AtStamp after colour
  still more a = record {
    events = a.events;
    seen = let s = a.seen in omega (arith, s, more);
    there = a.there;
    at =
        a.at;
  }

  -- a raise brings it there
  raised : (kept : Kept) (colour : ℕ) (place : At) → RaisesClock log caller kept stamp colour place → AtStamp
      (kept_after_place kept caller.own colour place) colour
  raised kept colour (ats.Event place) r =
      let h = log.histories caller.own colour in
      let e : Entry = record { by = caller.client; event = events.Raise stamp; stamp = 0 } in
      let lt = get_within h place e r.2 in
      let c = clock_more h place e lt (sym (get_or_from_slice_get h place e e r.2)) in
      let s = updated_at_here kept.seen caller.own colour (place + 1) in
      record { events = place + 1; seen = omega (arith, s); there = omega (arith, lt); at = omega (arith, c) }
  raised kept colour (ats.Look events) r =
      let s = updated_at_here kept.seen caller.own colour events in
      record { events = events; seen = omega (arith, s); there = r.1; at = r.3 }

  -- and it stays there
  sees : (kept : Kept) (c : ℕ) (place : At) → RaisesClock log caller kept stamp c place → (colour : ℕ)
      → kept.seen caller.own colour ≤ (kept_after_place kept caller.own c place).seen caller.own colour
  sees kept c (ats.Event place) r colour =
      at_new_at (λ n. kept.seen caller.own colour ≤ n) kept.seen caller.own c (place + 1) caller.own colour
      (λ _ f. let u = subst (λ d. kept.seen caller.own d ≤ place) (sym f) r.0 in omega (arith, u)) (omega arith)
  sees kept c (ats.Look events) r colour =
      at_new_at (λ n. kept.seen caller.own colour ≤ n) kept.seen caller.own c events caller.own colour
      (λ _ f. subst (λ d. kept.seen caller.own d ≤ events) (sym f) r.0) (omega arith)

  all_raised : (kept : Kept) (raises : List RaisePiece) (after : Kept) → Raises log caller stamp kept raises after
      → (colour : ℕ) → AtStamp kept colour ⊎ In colour (map (λ (r : RaisePiece). r.colour) raises)
      → AtStamp after colour
  all_raised kept [] after r colour (inl a) = subst (λ (k : Kept). AtStamp k colour) (sym r) a
  all_raised kept [] after r colour (inr i) = absurd i
  all_raised kept (p ∷ ps) after r colour (inl a) =
      all_raised (kept_after_place kept caller.own p.colour p.at) ps after r.1 colour
      (inl (still (sees kept p.colour p.at r.0 colour) a))
  all_raised kept (p ∷ ps) after r colour (inr (inl e)) =
      all_raised (kept_after_place kept caller.own p.colour p.at) ps after r.1 colour
      (inl (subst (AtStamp (kept_after_place kept caller.own p.colour p.at)) e (raised kept p.colour p.at r.0)))
  all_raised kept (p ∷ ps) after r colour (inr (inr i)) =
      all_raised (kept_after_place kept caller.own p.colour p.at) ps after r.1 colour (inr i)

  -- each sync looks at no fewer events, among which no open entry up to the stamp is left
  all_clear : (kept : Kept) (syncs : List SyncPiece) (after : Kept) → ClearSyncs log caller stamp kept syncs after
      → ((colour : ℕ) → In colour (map (λ (s : SyncPiece). s.colour) syncs) → AtStamp kept colour) → (s : SyncPiece)
      → In s syncs
      → (stamp ≤ clock (take s.events (log.histories caller.own s.colour))) × IsClearUpTo stamp
      (take s.events (log.histories caller.own s.colour))
  all_clear kept [] after c all s i = absurd i
  all_clear kept (x ∷ xs) after c all s (inl e) =
      subst (λ (y : SyncPiece). (stamp ≤ clock (take y.events (log.histories caller.own y.colour)))
      × IsClearUpTo stamp (take y.events (log.histories caller.own y.colour))) e
      (let a = all x.colour (inl refl) in
      let u = c.0.unseen in
      let s = a.seen in
      let g = clock_grows (log.histories caller.own x.colour) a.events x.events (omega (arith, u, s)) in
      let at = a.at in
      (omega (arith, g, at), c.1))
  all_clear kept (x ∷ xs) after c all s (inr i) =
      all_clear (kept_after_piece log caller kept x) xs after c.2
      (λ colour j. still (at_new_at (λ n. kept.seen caller.own colour ≤ n) kept.seen caller.own x.colour x.events
      caller.own colour
      (λ _ f. subst (λ d. kept.seen caller.own d ≤ x.events) (sym f) c.0.unseen) (omega arith))
      (all colour (inr j))) s i

  pub closing_order : (kept : Kept) (colours : List ℕ) (raises : List RaisePiece) (syncs : List SyncPiece)
      (after : Kept) (keys : List Key)
      → ReadsAt log caller kept colours stamp raises syncs after → AreKeysRead log caller stamp syncs keys
      → ((s : SyncPiece) → In s syncs → IsColumnHistory caller.own caller.regions
      (dated caller.own (log.histories caller.own s.colour)))
      → ((s : SyncPiece) (key : Key) → In s syncs → In key (line (take s.events (log.histories caller.own s.colour)))
      → In key (line (log.histories caller.own s.colour)))
      → IsRegionOrder (map (λ (s : SyncPiece). line (log.histories caller.own s.colour)) syncs) stamp keys
  closing_order kept colours raises syncs after keys r a legal longer = record {
    rising = a.rising;
    all = λ l key there inside low.
        let m = in_map_back whole syncs l (to_in _ l there) in
        let s = m.0 in
        let h = log.histories caller.own s.colour in
        let c = all_clear r.raised syncs r.synced r.syncing at_stamp s m.1 in
        let same : take s.events h ++ drop s.events h ≡ h = split h s.events in
        let here = read_items_stay caller.own caller.regions (take s.events h) (drop s.events h) stamp
        (subst (λ (es : List Entry). IsColumnHistory caller.own caller.regions (dated caller.own es)) (sym same)
        (legal s m.1)) c.0 c.1 key low
        (subst (λ (es : List Entry). Contains (line es) key) (sym same)
        (subst (λ (ks : List Key). Contains ks key) (sym m.2) inside)) in
        a.all (line (take s.events h)) key (from_in (lines_read log caller syncs) (line (take s.events h))
        (in_map looked syncs s m.1)) here low;
    no_other = λ key there.
        let o = a.no_other key there in
        let m = in_map_back looked syncs o.1 (to_in _ o.1 o.2) in
        let i = longer m.0 key m.1 (subst (λ (ks : List Key). In key ks) (sym m.2) (to_in o.1 key o.3)) in
        (o.0, whole m.0, from_in (map whole syncs) (whole m.0) (in_map whole syncs m.0 m.1), from_in (whole m.0) key i);
  } where
    whole : SyncPiece → List Key
    whole s = line (log.histories caller.own s.colour)

    looked : SyncPiece → List Key
    looked s = line (take s.events (log.histories caller.own s.colour))

    at_stamp : (colour : ℕ) → In colour (map (λ (s : SyncPiece). s.colour) syncs) → AtStamp r.raised colour
    at_stamp colour i =
        all_raised kept raises r.raised r.raising colour
        (inr (subst (λ (l : List ℕ). In colour l) (r.synced_colours ∙ sym r.raised_colours) i))
