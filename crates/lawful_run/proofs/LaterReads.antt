-- What a sync or a stamped read says of a log, shown or hidden, a later log says as well.
use Rattle.std.proofs.Common.{◌≡◌, ℕ, zero, suc, ◌<◌, ◌≤◌, List, [], ◌∷◌, length, take, slice_index_or, refl, ap, sym, subst, ◌∙◌, inl, inr, ◌⊎◌, arith}
use Rattle.std.specs.Prelude.{max}
use Rattle.std.specs.List.{All, Contains}
use Rattle.log_node.specs.declared.node.At.{At}
use Rattle.log_node.specs.declared.node.At.TheVariants.{Event, Look}
use Rattle.log_node.specs.declared.ids.Key.{Key}
use Rattle.log_node.specs.declared.ids.Counts.{Counts}
use Rattle.log_node.specs.Seen.{PlacedNode}
use Rattle.log_node.specs.Vectors.{IsWithin}
use Rattle.col_core.specs.declared.Entry.{Entry}
use Rattle.col_core.specs.History.{clock, line}
use Rattle.log_node.specs.Reach.{IsGreatestReachable}
use Rattle.col_core.specs.Cuts.{Dated, chain, base}
use Rattle.col_core.specs.PlayOrder.{Place, Stands, IsPlayOrder, greatest_between}
use Rattle.col_core.specs.Log.{Log, IsLater}
use Rattle.col_core.specs.Keeping.{Kept, updated, kept_after_sync}
use Rattle.report_text.specs.declared.report.RaisePiece.{RaisePiece}
use Rattle.report_text.specs.declared.report.SyncPiece.{SyncPiece}
use Rattle.col_core.specs.RegionOrder.{IsRegionOrder, IsClearUpTo}
use Rattle.lawful_run.specs.Callers.{Caller}
use Rattle.lawful_run.specs.Asks.{Manner, Appending, Guarding, Stopping, Syncing, Moving, Getting, Reading, Committing, Dequeuing, Deciding}
use Rattle.lawful_run.specs.Reads.{Syncs, ShowsNode, ShowsPlayed, greatest_played, kept_after_piece, IsTrimmed, RaisesClock, kept_after_place, Raises, ClearSyncs, events_until, IsReadStamp, IsAboveClocks, ReadsAt, lines_read, AreKeysRead, ShowsKey, HidesSync, not_played, played, HidesSyncs, HidesRead, RefusesRead}
use Rattle.lawful_run.specs.Refusals.{Hides, HidesDecide, Refuses, RefusesDecide}
use Rattle.lawful_run.proofs.LaterFacts.{all_zip_of, first_same, taken_same, still_there, entry_later, place_there, text_later}

module _ (old new : Log) (later : IsLater old new) (caller : Caller) where
  pub syncs_later : (kept : Kept) (colour events : ℕ) (snapshot : Counts)
      → Syncs old caller kept colour events snapshot → Syncs new caller kept colour events snapshot
  syncs_later kept colour events snapshot s = let same =
      sym (first_same old new later caller.own colour events s.there) in record {
        unseen = s.unseen;
        there = still_there old new later caller.own colour events s.there;
        cut = subst (λ (h : List Dated). IsGreatestReachable (chain caller.own h) snapshot) same s.cut;
        not_trimmed = subst (λ (h : List Dated). IsWithin (base caller.own caller.regions h)
            (kept.starts colour)) same s.not_trimmed;
        within = s.within;
      }

  pub shows_later : (colour events : ℕ) → events ≤ length (old.histories caller.own colour)
      → (place : Place) (item : PlacedNode) → ShowsNode old caller colour events place item
      → ShowsNode new caller colour events place item
  shows_later colour events there place item s = record {
    head = s.head;
    stands = subst (λ (h : List Dated). Stands (chain caller.own h) place s.head)
        (sym (first_same old new later caller.own colour events there)) s.stands;
    key = s.key;
    text = text_later old new later _ _ s.text;
  }

  pub played_later : (kept : Kept) (colour events : ℕ) (snapshot : Counts) (nodes : List PlacedNode)
      → events ≤ length (old.histories caller.own colour) → ShowsPlayed old caller kept colour events snapshot nodes
      → ShowsPlayed new caller kept colour events snapshot nodes
  played_later kept colour events snapshot nodes there s = record {
    order = s.order;
    played = subst (λ (h : List Dated). IsPlayOrder (chain caller.own h) (kept.starts colour) snapshot s.order)
        (sym (first_same old new later caller.own colour events there)) s.played;
    lines = all_zip_of (ShowsNode old caller colour events) (ShowsNode new caller colour events)
        (shows_later colour events there) s.order nodes s.lines;
  }

  pub stamp_same : (kept : Kept) (colour events : ℕ) (snapshot : Counts)
      → events ≤ length (old.histories caller.own colour)
      → greatest_played new caller kept colour events snapshot ≡ greatest_played old caller kept colour events snapshot
  stamp_same kept colour events snapshot there = ap
      (λ (h : List Dated). greatest_between (chain caller.own h) (kept.starts colour) snapshot)
      (first_same old new later caller.own colour events there)

  pub piece_same : (kept : Kept) (sync : SyncPiece) → sync.events ≤ length (old.histories caller.own sync.colour)
      → kept_after_piece new caller kept sync ≡ kept_after_piece old caller kept sync
  piece_same kept sync there = ap (kept_after_sync kept caller.own sync.colour sync.events sync.counts)
      (stamp_same kept sync.colour sync.events sync.counts there)

  pub trimmed_later : (kept : Kept) (colour : ℕ) (shown : Counts) → IsTrimmed old caller kept colour shown
      → IsTrimmed new caller kept colour shown
  trimmed_later kept colour shown t = record {
    events = t.events;
    unseen = t.unseen;
    there = still_there old new later caller.own colour t.events t.there;
    is_base = t.is_base ∙ ap (base caller.own caller.regions)
        (sym (first_same old new later caller.own colour t.events t.there));
    below = t.below;
  }

  pub raise_later : (kept : Kept) (stamp colour : ℕ) (at : At) → RaisesClock old caller kept stamp colour at
      → RaisesClock new caller kept stamp colour at
  raise_later kept stamp colour (Event place) r =
      let l = place_there old new later caller.own colour place _ r.2 in (
        r.0,
        subst (λ (h : List Entry). kept.known colour ≤ length (line h))
            (sym (taken_same old new later caller.own colour place
            (omega (arith, l)))) r.1,
        entry_later old new later caller.own colour place _ r.2,
      )
  raise_later kept stamp colour (Look events) r = (
    r.0,
    still_there old new later caller.own colour events r.1,
    subst
        (λ (h : List Entry). kept.known colour ≤ length (line h))
        (sym (taken_same old new later caller.own colour events r.1)) r.2,
    subst
        (λ (h : List Entry). stamp ≤ clock h)
        (sym (taken_same old new later caller.own colour events r.1)) r.3,
  )

  pub raises_later : (stamp : ℕ) (kept : Kept) (raises : List RaisePiece) (after : Kept)
      → Raises old caller stamp kept raises after → Raises new caller stamp kept raises after
  raises_later stamp kept [] after r = r
  raises_later stamp kept (raise ∷ raises) after r = (
    raise_later kept stamp raise.colour raise.at r.0,
    raises_later stamp
        (kept_after_place kept caller.own raise.colour raise.at) raises after r.1,
  )

  -- the events before a raise were there
  pub raise_there : (kept : Kept) (stamp colour : ℕ) (at : At) → RaisesClock old caller kept stamp colour at
      → events_until at ≤ length (old.histories caller.own colour)
  raise_there kept stamp colour (Event place) r = let l =
      place_there old new later caller.own colour place _ r.2 in omega (arith, l)
  raise_there kept stamp colour (Look events) r = r.1

  pub each_there : (stamp : ℕ) (kept : Kept) (raises : List RaisePiece) (after : Kept)
      → Raises old caller stamp kept raises after
      → (raise : RaisePiece) (k : ℕ) → k < length raises → slice_index_or raises k raise ≡ raise
      → events_until raise.at ≤ length (old.histories caller.own raise.colour)
  each_there stamp kept [] after r raise k lt e = absurd (omega (arith, lt))
  each_there stamp kept (one ∷ raises) after r raise zero lt e =
      subst (λ (x : RaisePiece). events_until x.at ≤ length (old.histories caller.own x.colour)) e
      (raise_there kept stamp one.colour one.at r.0)
  each_there stamp kept (one ∷ raises) after r raise (suc k) lt e =
      each_there stamp (kept_after_place kept caller.own one.colour one.at) raises after r.1 raise k
      (omega (arith, lt)) e

  pub clear_later : (stamp : ℕ) (kept : Kept) (syncs : List SyncPiece) (after : Kept)
      → ClearSyncs old caller stamp kept syncs after → ClearSyncs new caller stamp kept syncs after
  clear_later stamp kept [] after c = c
  clear_later stamp kept (sync ∷ syncs) after c = (
    syncs_later kept sync.colour sync.events sync.counts c.0,
    subst (IsClearUpTo stamp) (sym (taken_same old new later caller.own sync.colour sync.events c.0.there)) c.1,
    subst (λ (k : Kept). ClearSyncs new caller stamp k syncs after) (sym (piece_same kept sync c.0.there))
        (clear_later stamp (kept_after_piece old caller kept sync) syncs after c.2),
  )

  pub lines_same : (stamp : ℕ) (kept : Kept) (syncs : List SyncPiece) (after : Kept)
      → ClearSyncs old caller stamp kept syncs after → lines_read new caller syncs ≡ lines_read old caller syncs
  lines_same stamp kept [] after c = refl
  lines_same stamp kept (sync ∷ syncs) after c =
      ap (λ (h : List Entry). line h ∷ lines_read new caller syncs)
      (taken_same old new later caller.own sync.colour sync.events c.0.there)
      ∙ ap (λ (ls : List (List Key)). line (take sync.events (old.histories caller.own sync.colour)) ∷ ls)
      (lines_same stamp (kept_after_piece old caller kept sync) syncs after c.2)

  pub chosen_later : (kept : Kept) (raises : List RaisePiece) (stamp : ℕ)
      → ((raise : RaisePiece) → Contains raises raise
      → events_until raise.at ≤ length (old.histories caller.own raise.colour))
      → IsReadStamp old caller kept raises stamp → IsReadStamp new caller kept raises stamp
  chosen_later kept raises stamp there (inl e) = inl e
  chosen_later kept raises stamp there (inr (raise, among, events, seen, until, is)) =
      let l = there raise among in
      inr (
        raise,
        among,
        events,
        seen,
        until,
        is ∙ ap clock
            (sym (taken_same old new later caller.own raise.colour events (omega (arith, until, l)))),
      )

  pub above_later : (kept : Kept) (colours : List ℕ) (stamp : ℕ) → IsAboveClocks old caller kept colours stamp
      → IsAboveClocks new caller kept colours stamp
  above_later kept colours stamp above k d lt =
      let a = above k d lt in (
        still_there old new later caller.own _ _ a.0,
        subst (λ (h : List Entry). clock h ≤ stamp)
            (sym (taken_same old new later caller.own _ _ a.0)) a.1,
      )

  pub read_later : (kept : Kept) (colours : List ℕ) (stamp : ℕ) (raises : List RaisePiece) (syncs : List SyncPiece)
      (after : Kept) → ReadsAt old caller kept colours stamp raises syncs after
      → ReadsAt new caller kept colours stamp raises syncs after
  read_later kept colours stamp raises syncs after r = record {
    raised_colours = r.raised_colours;
    synced_colours = r.synced_colours;
    above_floor = r.above_floor;
    above_clocks = above_later kept colours stamp r.above_clocks;
    chosen = chosen_later kept raises stamp
        (λ raise among. each_there stamp kept raises r.raised r.raising raise among.0 among.1 among.2) r.chosen;
    raised = r.raised;
    raising = raises_later stamp kept raises r.raised r.raising;
    synced = r.synced;
    syncing = clear_later stamp r.raised syncs r.synced r.syncing;
    after_is = r.after_is;
  }

  pub keys_later : (kept : Kept) (colours : List ℕ) (stamp : ℕ) (raises : List RaisePiece) (syncs : List SyncPiece)
      (after : Kept) (keys : List Key) → ReadsAt old caller kept colours stamp raises syncs after
      → AreKeysRead old caller stamp syncs keys → AreKeysRead new caller stamp syncs keys
  keys_later kept colours stamp raises syncs after keys r a =
      subst (λ (ls : List (List Key)). IsRegionOrder ls stamp keys)
      (sym (lines_same stamp r.raised syncs r.synced r.syncing)) a

  pub shows_key_later : (key : Key) (item : PlacedNode) → ShowsKey old key item → ShowsKey new key item
  shows_key_later key item s = (s.0, text_later old new later _ _ s.1)

  pub hides_sync_later : (kept : Kept) (colour : ℕ) (snapshot : Counts) (stamp : ℕ)
      → HidesSync old caller kept colour snapshot stamp → HidesSync new caller kept colour snapshot stamp
  hides_sync_later kept colour snapshot stamp not_played = not_played
  hides_sync_later kept colour snapshot stamp (played events s syncs) =
      subst (λ (n : ℕ). HidesSync new caller kept colour snapshot n)
      (stamp_same kept colour events snapshot syncs.there)
      (played events snapshot (syncs_later kept colour events snapshot syncs))

  pub hides_syncs_later : (kept : Kept) (colours : List ℕ) (after : Kept) → HidesSyncs old caller kept colours after
      → HidesSyncs new caller kept colours after
  hides_syncs_later kept [] after h = h
  hides_syncs_later kept (colour ∷ colours) after h = (
    h.0,
    h.1,
    hides_sync_later kept colour h.0 h.1 h.2,
    hides_syncs_later
        (record kept { floor = max kept.floor h.1; starts = updated kept.starts colour h.0 }) colours after h.3,
  )

  pub hides_read_later : (kept : Kept) (colours : List ℕ) (after : Kept) → HidesRead old caller kept colours after
      → HidesRead new caller kept colours after
  hides_read_later kept colours after h = record {
    stamp = h.stamp;
    places = h.places;
    raises = λ colour k d lt. let r = h.raises colour k d lt in
        (r.0, raise_later kept h.stamp colour (Event (slice_index_or (h.places colour) k d)) r.1);
    above_floor = h.above_floor;
    above_clocks = above_later kept colours h.stamp h.above_clocks;
    chosen = chosen h.chosen;
    synced = h.synced;
    syncing = hides_syncs_later kept colours h.synced h.syncing;
    after_is = h.after_is;
  } where
    chosen : (h.stamp ≡ kept.floor) ⊎ ((colour : ℕ) × Contains colours colour × (events : ℕ)
        × (kept.seen caller.own colour ≤ events) × (events ≤ length (old.histories caller.own colour))
        × All (λ place. events ≤ place) (h.places colour)
        × (h.stamp ≡ clock (take events (old.histories caller.own colour))))
        → (h.stamp ≡ kept.floor) ⊎ ((colour : ℕ) × Contains colours colour × (events : ℕ)
        × (kept.seen caller.own colour ≤ events) × (events ≤ length (new.histories caller.own colour))
        × All (λ place. events ≤ place) (h.places colour)
        × (h.stamp ≡ clock (take events (new.histories caller.own colour))))
    chosen (inl e) = inl e
    chosen (inr (colour, among, events, seen, there, before, is)) =
        inr (
          colour,
          among,
          events,
          seen,
          still_there old new later caller.own colour events there,
          before,
          is
              ∙ ap clock (sym (taken_same old new later caller.own colour events there)),
        )

  pub hides_decide_later : (kept : Kept) (colours : List ℕ) (after : Kept) → HidesDecide old caller kept colours after
      → HidesDecide new caller kept colours after
  hides_decide_later kept [] after h = absurd h
  hides_decide_later kept (first ∷ all) after h = (
    h.0,
    hides_syncs_later kept (first ∷ []) h.0 h.1,
    elim h.2 [
      | inl e ↦ inl e
      | inr r ↦ inr (hides_read_later h.0 all after r)
    ],
  )

  pub hides_later : (kept : Kept) (colours : List ℕ) (manner : Manner) (after : Kept)
      → Hides old caller kept colours manner after → Hides new caller kept colours manner after
  hides_later kept colours Appending after h = h
  hides_later kept colours Guarding after h = h
  hides_later kept colours Stopping after h = h
  hides_later kept colours Syncing after h = h
  hides_later kept colours Moving after h = h
  hides_later kept colours Getting after h = hides_syncs_later kept colours after h
  hides_later kept colours Reading after h = hides_read_later kept colours after h
  hides_later kept colours Committing after h = hides_read_later kept colours after h
  hides_later kept colours Dequeuing after h = hides_syncs_later kept colours after h
  hides_later kept colours Deciding after h = hides_decide_later kept colours after h

  refuses_read_later : (kept : Kept) (colours : List ℕ) (colour : ℕ) (shown : Counts) (after : Kept)
      → RefusesRead old caller kept colours colour shown after → RefusesRead new caller kept colours colour shown after
  refuses_read_later kept colours colour shown after r = record {
    stamp = r.stamp;
    raises = r.raises;
    syncs = r.syncs;
    behind = r.behind;
    raised_colours = r.raised_colours;
    synced_before = r.synced_before;
    above_floor = r.above_floor;
    above_clocks = above_later kept colours r.stamp r.above_clocks;
    chosen = chosen_later kept r.raises r.stamp
        (λ raise among. each_there r.stamp kept r.raises r.raised r.raising raise among.0 among.1 among.2) r.chosen;
    raised = r.raised;
    raising = raises_later r.stamp kept r.raises r.raised r.raising;
    syncing = clear_later r.stamp r.raised r.syncs after r.syncing;
    trimmed = trimmed_later after colour shown r.trimmed;
  }

  pub refuses_decide_later : (kept : Kept) (colours : List ℕ) (colour : ℕ) (shown : Counts) (after : Kept)
      → RefusesDecide old caller kept colours colour shown after → RefusesDecide new caller kept colours colour shown after
  refuses_decide_later kept [] colour shown after r = absurd r
  refuses_decide_later kept (first ∷ all) colour shown after r = elim r [
    | inl at_once ↦ inl (at_once.0, trimmed_later kept colour shown at_once.1, at_once.2)
    | inr behind ↦ inr (
      behind.0,
      hides_syncs_later kept (first ∷ []) behind.0 behind.1,
      refuses_read_later behind.0 all colour shown after behind.2,
    )
  ]

  pub refuses_later : (kept : Kept) (colours : List ℕ) (manner : Manner) (colour : ℕ) (shown : Counts) (after : Kept)
      → Refuses old caller kept colours manner colour shown after
      → Refuses new caller kept colours manner colour shown after
  refuses_later kept colours Appending colour shown after r = absurd r
  refuses_later kept colours Guarding colour shown after r = absurd r
  refuses_later kept colours Stopping colour shown after r = absurd r
  refuses_later kept colours Syncing colour shown after r = (r.0, trimmed_later kept colour shown r.1, r.2)
  refuses_later kept colours Moving colour shown after r = absurd r
  refuses_later kept colours Getting colour shown after r =
      (r.0, trimmed_later kept colour shown r.1, hides_syncs_later kept colours after r.2)
  refuses_later kept colours Reading colour shown after r = refuses_read_later kept colours colour shown after r
  refuses_later kept colours Committing colour shown after r = refuses_read_later kept colours colour shown after r
  refuses_later kept colours Dequeuing colour shown after r =
      (r.0, trimmed_later kept colour shown r.1, hides_syncs_later kept colours after r.2)
  refuses_later kept colours Deciding colour shown after r = refuses_decide_later kept colours colour shown after r
