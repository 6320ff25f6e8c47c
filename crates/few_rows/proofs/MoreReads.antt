-- What a sync or a stamped read says of a log to a client, shown or hidden, it says too where the client may begin more
-- rows.
use Rattle.std.proofs.Common.{ℕ, List, [], ◌∷◌, inl, inr}
use Rattle.std.specs.Prelude.{max}
use Rattle.log_node.specs.declared.node.At.{At}
use Rattle.log_node.specs.declared.node.At.TheVariants.{Event, Look}
use Rattle.log_node.specs.declared.ids.Counts.{Counts}
use Rattle.log_node.specs.Seen.{PlacedNode}
use Rattle.col_core.specs.PlayOrder.{Place}
use Rattle.col_core.specs.Log.{Log}
use Rattle.col_core.specs.Keeping.{Kept, updated}
use Rattle.report_text.specs.declared.report.RaisePiece.{RaisePiece}
use Rattle.report_text.specs.declared.report.SyncPiece.{SyncPiece}
use Rattle.lawful_run.specs.Callers.{Caller}
use Rattle.lawful_run.specs.Asks.{Manner, Appending, Guarding, Stopping, Syncing, Moving, Getting, Reading, Committing, Dequeuing, Deciding}
use Rattle.lawful_run.specs.Reads.{Syncs, ShowsNode, ShowsPlayed, kept_after_piece, IsTrimmed, RaisesClock, kept_after_place, Raises, ClearSyncs, ReadsAt, HidesSync, not_played, played, HidesSyncs, HidesRead, RefusesRead}
use Rattle.lawful_run.specs.Refusals.{Hides, HidesDecide, Refuses, RefusesDecide}
use Rattle.few_rows.proofs.MoreFacts.{limited}
use Rattle.log_node.proofs.CallerLemmas.{all_zip_of}

module _ (log : Log) (caller : Caller) (rows : ℕ) where
  pub syncs_more : (kept : Kept) (colour events : ℕ) (snapshot : Counts)
      → Syncs log (limited caller rows) kept colour events snapshot → Syncs log caller kept colour events snapshot
  syncs_more kept colour events snapshot s = record {
    unseen = s.unseen;
    there = s.there;
    cut = s.cut;
    not_trimmed = s.not_trimmed;
    within = s.within;
  }

  shows_more : (colour events : ℕ) (place : Place) (item : PlacedNode)
      → ShowsNode log (limited caller rows) colour events place item → ShowsNode log caller colour events place item
  shows_more colour events place item s = record {
    head = s.head;
    stands = s.stands;
    key = s.key;
    text = s.text;
  }

  pub played_more : (kept : Kept) (colour events : ℕ) (snapshot : Counts) (nodes : List PlacedNode)
      → ShowsPlayed log (limited caller rows) kept colour events snapshot nodes
      → ShowsPlayed log caller kept colour events snapshot nodes
  played_more kept colour events snapshot nodes s = record {
    order = s.order;
    played = s.played;
    lines = all_zip_of (ShowsNode log (limited caller rows) colour events) (ShowsNode log caller colour events)
        (shows_more colour events) s.order nodes s.lines;
  }

  trimmed_more : (kept : Kept) (colour : ℕ) (shown : Counts) → IsTrimmed log (limited caller rows) kept colour shown
      → IsTrimmed log caller kept colour shown
  trimmed_more kept colour shown t = record {
    events = t.events;
    unseen = t.unseen;
    there = t.there;
    is_base = t.is_base;
    below = t.below;
  }

  raise_more : (kept : Kept) (stamp colour : ℕ) (at : At) → RaisesClock log (limited caller rows) kept stamp colour at
      → RaisesClock log caller kept stamp colour at
  raise_more kept stamp colour (Event place) r = r
  raise_more kept stamp colour (Look events) r = r

  raises_more : (stamp : ℕ) (kept : Kept) (raises : List RaisePiece) (after : Kept)
      → Raises log (limited caller rows) stamp kept raises after → Raises log caller stamp kept raises after
  raises_more stamp kept [] after r = r
  raises_more stamp kept (raise ∷ raises) after r = (
    raise_more kept stamp raise.colour raise.at r.0,
    raises_more stamp
        (kept_after_place kept caller.own raise.colour raise.at) raises after r.1,
  )

  clear_more : (stamp : ℕ) (kept : Kept) (syncs : List SyncPiece) (after : Kept)
      → ClearSyncs log (limited caller rows) stamp kept syncs after → ClearSyncs log caller stamp kept syncs after
  clear_more stamp kept [] after c = c
  clear_more stamp kept (sync ∷ syncs) after c = (
    syncs_more kept sync.colour sync.events sync.counts c.0,
    c.1,
    clear_more stamp (kept_after_piece log caller kept sync) syncs after c.2,
  )

  pub read_more : (kept : Kept) (colours : List ℕ) (stamp : ℕ) (raises : List RaisePiece) (syncs : List SyncPiece)
      (after : Kept) → ReadsAt log (limited caller rows) kept colours stamp raises syncs after
      → ReadsAt log caller kept colours stamp raises syncs after
  read_more kept colours stamp raises syncs after r = record {
    raised_colours = r.raised_colours;
    synced_colours = r.synced_colours;
    above_floor = r.above_floor;
    above_clocks = r.above_clocks;
    chosen = r.chosen;
    raised = r.raised;
    raising = raises_more stamp kept raises r.raised r.raising;
    synced = r.synced;
    syncing = clear_more stamp r.raised syncs r.synced r.syncing;
    after_is = r.after_is;
  }

  hides_sync_more : (kept : Kept) (colour : ℕ) (snapshot : Counts) (stamp : ℕ)
      → HidesSync log (limited caller rows) kept colour snapshot stamp → HidesSync log caller kept colour snapshot stamp
  hides_sync_more kept colour snapshot stamp not_played = not_played
  hides_sync_more kept colour snapshot stamp (played events s syncs) =
      played events snapshot (syncs_more kept colour events snapshot syncs)

  hides_syncs_more : (kept : Kept) (colours : List ℕ) (after : Kept)
      → HidesSyncs log (limited caller rows) kept colours after → HidesSyncs log caller kept colours after
  hides_syncs_more kept [] after h = h
  hides_syncs_more kept (colour ∷ colours) after h = (
    h.0,
    h.1,
    hides_sync_more kept colour h.0 h.1 h.2,
    hides_syncs_more
        (record kept { floor = max kept.floor h.1; starts = updated kept.starts colour h.0 }) colours after h.3,
  )

  hides_read_more : (kept : Kept) (colours : List ℕ) (after : Kept)
      → HidesRead log (limited caller rows) kept colours after → HidesRead log caller kept colours after
  hides_read_more kept colours after h = record {
    stamp = h.stamp;
    places = h.places;
    raises = h.raises;
    above_floor = h.above_floor;
    above_clocks = h.above_clocks;
    chosen = h.chosen;
    synced = h.synced;
    syncing = hides_syncs_more kept colours h.synced h.syncing;
    after_is = h.after_is;
  }

  hides_decide_more : (kept : Kept) (colours : List ℕ) (after : Kept)
      → HidesDecide log (limited caller rows) kept colours after → HidesDecide log caller kept colours after
  hides_decide_more kept [] after h = absurd h
  hides_decide_more kept (first ∷ all) after h = (
    h.0,
    hides_syncs_more kept (first ∷ []) h.0 h.1,
    elim h.2 [
      | inl e ↦ inl e
      | inr r ↦ inr (hides_read_more h.0 all after r)
    ],
  )

  pub hides_more : (kept : Kept) (colours : List ℕ) (manner : Manner) (after : Kept)
      → Hides log (limited caller rows) kept colours manner after → Hides log caller kept colours manner after
  hides_more kept colours Appending after h = h
  hides_more kept colours Guarding after h = h
  hides_more kept colours Stopping after h = h
  hides_more kept colours Syncing after h = h
  hides_more kept colours Moving after h = h
  hides_more kept colours Getting after h = hides_syncs_more kept colours after h
  hides_more kept colours Reading after h = hides_read_more kept colours after h
  hides_more kept colours Committing after h = hides_read_more kept colours after h
  hides_more kept colours Dequeuing after h = hides_syncs_more kept colours after h
  hides_more kept colours Deciding after h = hides_decide_more kept colours after h

  refuses_read_more : (kept : Kept) (colours : List ℕ) (colour : ℕ) (shown : Counts) (after : Kept)
      → RefusesRead log (limited caller rows) kept colours colour shown after
      → RefusesRead log caller kept colours colour shown after
  refuses_read_more kept colours colour shown after r = record {
    stamp = r.stamp;
    raises = r.raises;
    syncs = r.syncs;
    behind = r.behind;
    raised_colours = r.raised_colours;
    synced_before = r.synced_before;
    above_floor = r.above_floor;
    above_clocks = r.above_clocks;
    chosen = r.chosen;
    raised = r.raised;
    raising = raises_more r.stamp kept r.raises r.raised r.raising;
    syncing = clear_more r.stamp r.raised r.syncs after r.syncing;
    trimmed = trimmed_more after colour shown r.trimmed;
  }

  refuses_decide_more : (kept : Kept) (colours : List ℕ) (colour : ℕ) (shown : Counts) (after : Kept)
      → RefusesDecide log (limited caller rows) kept colours colour shown after
      → RefusesDecide log caller kept colours colour shown after
  refuses_decide_more kept [] colour shown after r = absurd r
  refuses_decide_more kept (first ∷ all) colour shown after r = elim r [
    | inl at_once ↦ inl (at_once.0, trimmed_more kept colour shown at_once.1, at_once.2)
    | inr behind ↦ inr (
      behind.0,
      hides_syncs_more kept (first ∷ []) behind.0 behind.1,
      refuses_read_more behind.0 all colour shown after behind.2,
    )
  ]

  pub refuses_more : (kept : Kept) (colours : List ℕ) (manner : Manner) (colour : ℕ) (shown : Counts) (after : Kept)
      → Refuses log (limited caller rows) kept colours manner colour shown after
      → Refuses log caller kept colours manner colour shown after
  refuses_more kept colours Appending colour shown after r = absurd r
  refuses_more kept colours Guarding colour shown after r = absurd r
  refuses_more kept colours Stopping colour shown after r = absurd r
  refuses_more kept colours Syncing colour shown after r = (r.0, trimmed_more kept colour shown r.1, r.2)
  refuses_more kept colours Moving colour shown after r = absurd r
  refuses_more kept colours Getting colour shown after r =
      (r.0, trimmed_more kept colour shown r.1, hides_syncs_more kept colours after r.2)
  refuses_more kept colours Reading colour shown after r = refuses_read_more kept colours colour shown after r
  refuses_more kept colours Committing colour shown after r = refuses_read_more kept colours colour shown after r
  refuses_more kept colours Dequeuing colour shown after r =
      (r.0, trimmed_more kept colour shown r.1, hides_syncs_more kept colours after r.2)
  refuses_more kept colours Deciding colour shown after r = refuses_decide_more kept colours colour shown after r
