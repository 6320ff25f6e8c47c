-- What a play of one colour and a stamped read say of a log, a later log says as well.
use Rattle.std.proofs.Common.{◌≡◌, inl, inr, ℕ, zero, suc, ◌<◌, ◌≤◌, List, [], ◌∷◌, length, take, Option, slice_index_or, refl, ap, sym, subst, ◌∙◌, arith}
use Rattle.std.specs.List.{filter}
use Rattle.log_node.specs.declared.ids.Key.{Key}
use Rattle.log_node.specs.declared.node.At.{At}
use Rattle.log_node.specs.declared.node.At.TheVariants.{Event, Look}
use Rattle.log_node.specs.Seen.{PlacedNode}
use Rattle.log_node.specs.Vectors.{at}
use Rattle.log_node.proofs.CallerLemmas.{all_zip_of}
use Rattle.object_fold.specs.Folds.{is_behind}
use Rattle.object_fold.specs.Nodes.{ObjectNode}
use Rattle.col_core.specs.declared.Entry.{Entry}
use Rattle.col_core.specs.Computed.{dated}
use Rattle.col_core.specs.Cuts.{chain}
use Rattle.col_core.specs.History.{clock, line}
use Rattle.col_core.specs.Keeping.{Kept, kept_after_sync}
use Rattle.col_core.specs.Log.{IsLater, Log}
use Rattle.col_core.specs.PlayOrder.{greatest_between}
use Rattle.col_core.specs.RegionOrder.{IsRegionOrder}
use Rattle.report_text.specs.declared.report.RaisePiece.{RaisePiece}
use Rattle.report_text.specs.declared.report.SyncPiece.{SyncPiece}
use Rattle.lawful_run.specs.Callers.{Caller}
use Rattle.lawful_run.specs.Objects.{AreObjectNodes, IsObjectNode}
use Rattle.lawful_run.specs.Reads.{ClearSyncs, IsAboveClocks, IsReadStamp, Raises, RaisesClock, ReadsAt, events_until, kept_after_piece, kept_after_place, lines_read}
use Rattle.lawful_run.proofs.CallerLemmas.{clear_later, get_within, hides_syncs_later, prefix_get, prefix_length, prefix_take, raises_later, syncs_later}
use Rattle.log_client.specs.declared.answers.StampedRead.{StampedRead}
use Rattle.log_client.specs.declared.answers.Synced.{Synced}
use Rattle.log_client.specs.StampedReads.{ShowsItem, sync_piece}
use Rattle.region_fold.specs.Reads.{HasNodesRead}
use Rattle.tx_parts.specs.declared.player.PartPlayer.{PartPlayer}
use Rattle.tx_parts.specs.Deciding.{PlaysUntold}
use Rattle.tx_parts.specs.Players.{PlaysAs}

module _ (old new : Log) (later : IsLater old new) (caller : Caller) where
  -- the first events of a column
  taken_same : (colour n : ℕ) → n ≤ length (old.histories caller.own colour)
      → take n (new.histories caller.own colour) ≡ take n (old.histories caller.own colour)
  taken_same colour n there = prefix_take _ _ n (later.histories caller.own colour) there

  still_there : (colour n : ℕ) → n ≤ length (old.histories caller.own colour)
      → n ≤ length (new.histories caller.own colour)
  still_there colour n there = let l = prefix_length _ _ (later.histories caller.own colour) in omega (arith, l, there)

  -- nodes
  pub objects_later : (keys : List Key) (nodes : List ObjectNode) → AreObjectNodes old keys nodes
      → AreObjectNodes new keys nodes
  objects_later keys nodes are = all_zip_of (IsObjectNode old) (IsObjectNode new) one keys nodes are where
    one : (key : Key) (node : ObjectNode) → IsObjectNode old key node → IsObjectNode new key node
    one key node is = record {
      appended = is.appended;
      there = prefix_get _ _ _ _ (later.nodes key.id.client) is.there;
      same = is.same;
      key_is = is.key_is;
      colours = is.colours;
      text = is.text;
    }

  -- PLAYS

  piece_same : (kept : Kept) (y : SyncPiece) → y.events ≤ length (old.histories caller.own y.colour)
      → kept_after_piece new caller kept y ≡ kept_after_piece old caller kept y
  piece_same kept y there =
      ap (λ (h : List Entry). kept_after_sync kept caller.own y.colour y.events y.counts
      (greatest_between (chain caller.own (dated caller.own h)) (kept.starts y.colour) y.counts))
      (taken_same y.colour y.events there)

  pub plays_later : (y : Synced) (Has : List ObjectNode → Type 0) (kept after : Kept) → PlaysAs y Has old caller kept after
      → PlaysAs y Has new caller kept after
  plays_later y Has kept after p =
      let same = taken_same y.snapshot.colour y.events p.0.there in (
        syncs_later old new later caller kept y.snapshot.colour y.events y.snapshot.counts p.0,
        p.1,
        subst (λ (h : List Entry). AreObjectNodes new (take (at y.snapshot.counts caller.own) (line h)) p.1) (sym same)
            (objects_later (take (at y.snapshot.counts caller.own) (line (take y.events (old.histories caller.own y.snapshot.colour))))
            p.1 p.2),
        p.3,
        p.4 ∙ sym (piece_same kept (sync_piece y) p.0.there),
      )

  pub untold_later : (p : PartPlayer) (kept played : Kept) → PlaysUntold p old caller kept played
      → PlaysUntold p new caller kept played
  untold_later p kept played u = record {
    hidden = hides_syncs_later old new later caller kept (p.colour ∷ []) played u.hidden;
    there = let l = prefix_length _ _ (later.lines caller.own p.colour) in let low = u.there in omega (arith, l, low);
    nodes = u.nodes;
    line_is = subst (λ (keys : List Key). AreObjectNodes new keys u.nodes)
        (sym (prefix_take _ _ (at (played.starts p.colour) caller.own) (later.lines caller.own p.colour) u.there))
        (objects_later (take (at (played.starts p.colour) caller.own) (line (old.histories caller.own p.colour))) u.nodes u.line_is);
    key = u.key;
    waits = u.waits;
  }

  -- READS

  above_later : (kept : Kept) (colours : List ℕ) (stamp : ℕ) → IsAboveClocks old caller kept colours stamp
      → IsAboveClocks new caller kept colours stamp
  above_later kept colours stamp above k d lt =
      let a = above k d lt in (
        still_there _ _ a.0,
        subst (λ (h : List Entry). clock h ≤ stamp) (sym (taken_same _ _ a.0)) a.1,
      )

  -- the events before a raise were there
  raise_there : (kept : Kept) (stamp colour : ℕ) (place : At) → RaisesClock old caller kept stamp colour place
      → events_until place ≤ length (old.histories caller.own colour)
  raise_there kept stamp colour (Event place) r = let l = get_within _ place _ r.2 in omega (arith, l)
  raise_there kept stamp colour (Look events) r = r.1

  each_there : (stamp : ℕ) (kept : Kept) (raises : List RaisePiece) (after : Kept) → Raises old caller stamp kept raises after
      → (raise : RaisePiece) (k : ℕ) → k < length raises → slice_index_or raises k raise ≡ raise
      → events_until raise.at ≤ length (old.histories caller.own raise.colour)
  each_there stamp kept [] after r raise k lt e = absurd (let f : ⊥ = omega (arith, lt) in f)
  each_there stamp kept (one ∷ raises) after r raise zero lt e =
      subst (λ (x : RaisePiece). events_until x.at ≤ length (old.histories caller.own x.colour)) e
      (raise_there kept stamp one.colour one.at r.0)
  each_there stamp kept (one ∷ raises) after r raise (suc k) lt e =
      each_there stamp (kept_after_place kept caller.own one.colour one.at) raises after r.1 raise k (omega (arith, lt)) e

  chosen_later : (stamp : ℕ) (kept : Kept) (raises : List RaisePiece) (after : Kept)
      → Raises old caller stamp kept raises after → IsReadStamp old caller kept raises stamp
      → IsReadStamp new caller kept raises stamp
  chosen_later stamp kept raises after r (inl e) = inl e
  chosen_later stamp kept raises after r (inr (raise, among, events, seen, until, is)) =
      let l = each_there stamp kept raises after r raise among.0 among.1 among.2 in
      inr (
        raise,
        among,
        events,
        seen,
        until,
        is ∙ ap clock (sym (taken_same raise.colour events (omega (arith, until, l)))),
      )

  lines_same : (stamp : ℕ) (kept : Kept) (syncs : List SyncPiece) (after : Kept)
      → ClearSyncs old caller stamp kept syncs after → lines_read new caller syncs ≡ lines_read old caller syncs
  lines_same stamp kept [] after c = refl
  lines_same stamp kept (y ∷ syncs) after c =
      ap (λ (h : List Entry). line h ∷ lines_read new caller syncs) (taken_same y.colour y.events c.0.there)
      ∙ ap (λ (ls : List (List Key)). line (take y.events (old.histories caller.own y.colour)) ∷ ls)
      (lines_same stamp (kept_after_piece old caller kept y) syncs after c.2)

  read_later : (kept : Kept) (colours : List ℕ) (stamp : ℕ) (raises : List RaisePiece) (syncs : List SyncPiece) (after : Kept)
      → ReadsAt old caller kept colours stamp raises syncs after → ReadsAt new caller kept colours stamp raises syncs after
  read_later kept colours stamp raises syncs after r = record {
    raised_colours = r.raised_colours;
    synced_colours = r.synced_colours;
    above_floor = r.above_floor;
    above_clocks = above_later kept colours stamp r.above_clocks;
    chosen = chosen_later stamp kept raises r.raised r.raising r.chosen;
    raised = r.raised;
    raising = raises_later old new later caller stamp kept raises r.raised r.raising;
    synced = r.synced;
    syncing = clear_later old new later caller stamp r.raised syncs r.synced r.syncing;
    after_is = r.after_is;
  }

  item_later : (key : Key) (item : PlacedNode) → ShowsItem old key item → ShowsItem new key item
  item_later key item s = (s.0, (prefix_get _ _ _ _ (later.nodes item.head.key.id.client) s.1.0, s.1.1))

  pub read_on_later : (colours : List ℕ) (last : Option Key) (read : StampedRead) (Has : List ObjectNode → Type 0)
      (kept after : Kept) → HasNodesRead colours last read Has old caller kept after
      → HasNodesRead colours last read Has new caller kept after
  read_on_later colours last read Has kept after h =
      let r = h.1.0 in (
        h.0,
        (
          read_later kept colours read.stamp _ _ after r,
          subst (λ (ls : List (List Key)). IsRegionOrder ls read.stamp h.0)
              (sym (lines_same read.stamp r.raised _ r.synced r.syncing)) h.1.1,
          all_zip_of (ShowsItem old) (ShowsItem new) item_later (filter (is_behind last) h.0) read.items h.1.2,
        ),
        h.2,
        objects_later h.0 h.2 h.3,
        h.4,
      )
