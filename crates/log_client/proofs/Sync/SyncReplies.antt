-- What a sync of a client leaves, and what explains its answer.
use Rattle.std.proofs.Common.{◌≡◌, ◌≢◌, inl, inr, ℕ, false, List, [], ◌∷◌, ◌++◌, length, map, drop, ◌<◌, Option, Some, refl, ap, sym, subst, ◌∙◌, arith, append-nil, eq-eqb}
use Rattle.std.specs.Prelude.{slice_get, slice_set, max, ◌==◌}
use Rattle.std.specs.List.{AllZip}
use Rattle.std.proofs.lemmas.Bool.{cases_eq, ne_eqb}
use Rattle.std.proofs.lemmas.Option.{same_Some}
use Rattle.std.proofs.lemmas.List.{length-map, map-append}
use Rattle.log_node.specs.declared.ids.Counts.{Counts}
use Rattle.log_node.specs.declared.node.Head.{Head}
use Rattle.log_node.specs.Seen.{PlacedNode}
use Rattle.log_node.specs.Vectors.{at, IsWithin, is_within}
use Rattle.log_node.specs.Reach.{Reachable}
use Rattle.col_core.specs.declared.Entry.{Entry}
use Rattle.col_core.specs.Cuts.{chain, base}
use Rattle.col_core.specs.Computed.{cut, dated}
use Rattle.col_core.specs.History.{line}
use Rattle.col_core.specs.Legal.{IsColumnHistory}
use mathlib.Core.List.{IsPrefix}
use Rattle.col_core.specs.PlayOrder.{Place, Stands, IsPlayOrder, nodes_between}
use Rattle.col_core.specs.Keeping.{Kept, updated, kept_after_sync}
use Rattle.col_core.proofs.CallerLemmas.{cut-is_greatest, if_true, if_false, own_line_within}
use Rattle.script_text.specs.declared.script.Object.{Object}
use Rattle.chain_store.specs.declared.told.Told.{Told}
use Rattle.chain_store.specs.declared.hold.Hold.{Hold}
use Rattle.chain_store.specs.declared.region.Region.{Region}
use Rattle.chain_store.specs.Histories.{entries_in, Names}
use Rattle.chain_store.specs.Holds.{SameBut, SeesMoreIn, seen_in, made_in}
use Rattle.chain_store.specs.Going.{GoesOn}
use Rattle.chain_store.proofs.CallerLemmas.{looks_on}
use Rattle.lawful_run.specs.Callers.{Caller}
use Rattle.lawful_run.specs.Reads.{Syncs, ShowsPlayed, greatest_stamp}
use Rattle.client_law.specs.Knowing.{Rest, log_seen}
use Rattle.client_law.specs.Kept.{IsKeptBy}
use Rattle.client_law.specs.Moves.{LooksThere, PlaysKeys}
use Rattle.client_law.proofs.CallerLemmas.{kept_after_keys, plays_stand, syncs_stand, trimmed_there}
use Rattle.playback.specs.declared.player.Snapshot.{Snapshot}
use Rattle.log_client.specs.declared.store.Store.{Store}
use Rattle.log_client.specs.declared.client.Client.{Client}
use Rattle.log_client.specs.declared.track.Track.{Track}
use Rattle.log_client.specs.declared.answers.Synced.{Synced}
use Rattle.log_client.specs.declared.faults.SyncFault.{SyncFault}
use Rattle.log_client.specs.declared.faults.SyncFault.TheVariants as sync_faults
use Rattle.log_client.specs.Fits.{FitsHolds}
use Rattle.log_client.specs.Ending.{HelpsWhole}
use Rattle.log_client.specs.Clients.{holds_of, seen_of, nodes_of_rows, tracks_of, starts_of, played_of, counts_in, nodes_of_track, line_in, caller_of, PlaysNodes, HasPlayed, played_then, IsClient, IsTrack, Keeps}
use Rattle.log_client.specs.Inside.{PlaysOn, IsRefusedOn, dated_seen}
use Rattle.log_client.specs.Calls.{SyncsAs, AnswersSync, nodes_played}
use Rattle.log_client.specs.Reading.{PlaysColour, RefusesColour, keys_of, kept_after_playing}
use Rattle.log_client.proofs.Known.Seeing.{seen_there}
use Rattle.log_client.proofs.Append.Alone.{seen_long}
use Rattle.log_client.proofs.Sync.Playing.{plays_there}
use Rattle.log_client.proofs.Going.AtHome.{ChangesHome, set_there, set_elsewhere, set_long, home_after, sees_after, are_regions}
use Rattle.log_client.proofs.Going.Staying.{played_longer}
use Rattle.log_client.proofs.Read.Lines.{joined, chain_long, keys_are}
use Rattle.log_client.proofs.Lists.{got_split}
use Rattle.log_client.proofs.Going.Looked.{IsPlain, made_looked, lawful_after, track_stays, kept_before, makes_none, client_looked, keeps_stay}
use Rattle.log_client.proofs.Going.Helping.{GoesIdle, idle_looked, idle_at_home}
use Rattle.log_node.proofs.CallerLemmas.{all_zip_of as zipped}

dropped : {A : Type 0} (xs ys : List A) → drop (length xs) (xs ++ ys) ≡ ys
dropped [] ys = refl
dropped (x ∷ xs) ys = dropped xs ys

module _ (s : Store) (c d : Client) (r : Region) (g h : Hold) (old : Track) (is : IsClient s c)
    (ch : ChangesHome s c d r g h) (at_old : slice_get (tracks_of c) old.snapshot.colour ≡ Some old)
    (but : SameBut old.snapshot.colour g h) (seat : h.seat ≡ g.seat) (next : h.next ≡ g.next)
    (sees : SeesMoreIn old.snapshot.colour g h) (count : d.count ≡ c.count) (rows : nodes_of_rows d ≡ nodes_of_rows c) where
  abbrev k : ℕ
  k = old.snapshot.colour

  abbrev log : List Told
  log = seen_in h k

  made : (m : ℕ) → made_in h m ≡ made_in g m
  made = made_looked k g h but sees

  used : h.seat.used ≡ g.seat.used
  used = ap (λ q. q.used) seat

  goes : GoesOn (λ m e. IsPlain e) g h
  goes = looks_on (λ m e. IsPlain e) k g h but sees

  -- it has helped nobody
  idle : GoesIdle c.number g h
  idle = idle_looked c.number g h ch.on made

  helps : HelpsWhole d.number d.region (holds_of d)
  helps = idle_at_home s c d r g h is ch idle

  own : r.number ≡ d.region
  own = (are_regions s c.region r ch.there).0 ∙ sym ch.region

  regions : r.regions ≡ length s.regions
  regions = (are_regions s c.region r ch.there).1

  at_home : slice_get (holds_of d) d.region ≡ Some h
  at_home = ap (slice_get (holds_of d)) ch.region ∙ home_after s c d r g h is ch

  seen_is : seen_of d d.region k ≡ entries_in log
  seen_is = seen_there (holds_of d) d.region h at_home k

  started : starts_of c k ≡ old.snapshot.counts
  started = ap counts_in at_old

  its_base : base r.number r.regions (dated_seen r h k) ≡ base d.region (length s.regions) (dated d.region (seen_of d d.region k))
  its_base =
      ap (λ (n : ℕ). base n r.regions (dated n (entries_in log))) own
      ∙ (ap (λ (n : ℕ). base d.region n (dated d.region (entries_in log))) regions
      ∙ ap (λ (l : List Entry). base d.region (length s.regions) (dated d.region l)) (sym seen_is))

  -- REFUSED

  module _ (floor : d.floor ≡ c.floor) (tracks : tracks_of d ≡ tracks_of c) where
    starts_same : (m : ℕ) → starts_of d m ≡ starts_of c m
    starts_same m = ap (λ (l : List Track). counts_in (slice_get l m)) tracks

    pub refused_client : IsClient s d
    refused_client =
        let floored = is.floored in
        client_looked s c d r g h is ch goes used next (omega (arith, floor)) (omega (arith, floor, floored)) count rows
        (ap length tracks)
        (λ m track at. subst (λ (n : ℕ). IsTrack n m (seen_in h m) track) (sym ch.region)
        (track_stays s c d r g h is ch m track
        ((is.home g ch.before).tracks m track (ap (λ (l : List Track). slice_get l m) (sym tracks) ∙ at)))) helps

    pub refused_plays : (fault : SyncFault) → IsRefusedOn r h old fault → RefusesColour s c d k fault
    refused_plays (sync_faults.Trimmed colour shown) why = (
      why.0,
      λ objects kept finished keeps. (
        keeps_stay s c d r g h is ch made floor count rows starts_same objects kept keeps,
        λ rest fits.
            trimmed_there (seen_of c) (seen_of d) rest (caller_of s d objects) kept k shown
            (sees_after s c d r g h is ch objects) (kept_before s c d r g h is ch objects kept keeps)
            (why.1 ∙ its_base)
            (subst (λ (v : Counts). is_within shown v ≡ false) (sym (keeps.starts k ∙ started)) why.2),
      ),
    )
    refused_plays sync_faults.NoMemory why = λ objects kept finished keeps. (
      keeps_stay s c d r g h is ch made floor count rows starts_same objects kept keeps,
      λ rest fits. tt,
    )

  -- PLAYED

  module _ (new : Track) (y : Synced) (stamp : ℕ) (tracks : tracks_of d ≡ slice_set (tracks_of c) k new)
      (floor : d.floor ≡ max stamp c.floor) (p : PlaysOn r h old new y stamp) where
    new_there : slice_get (tracks_of d) k ≡ Some new
    new_there = ap (λ (l : List Track). slice_get l k) tracks ∙ set_there (tracks_of c) k new old at_old

    others_there : (m : ℕ) → m ≢ k → slice_get (tracks_of d) m ≡ slice_get (tracks_of c) m
    others_there m ne = ap (λ (l : List Track). slice_get l m) tracks ∙ set_elsewhere (tracks_of c) k new m ne

    counted : new.snapshot.counts ≡ y.snapshot.counts
    counted = ap (λ (t : Track). t.snapshot.counts) p.track

    plays : PlaysNodes d.region log old.snapshot.counts y.snapshot.counts p.nodes
    plays = subst (λ (n : ℕ). PlaysNodes n log old.snapshot.counts y.snapshot.counts p.nodes) own p.plays

    cut_is : y.snapshot.counts ≡ cut d.region (dated d.region (entries_in log))
    cut_is = p.is_cut ∙ ap (λ (n : ℕ). cut n (dated n (entries_in log))) own

    reached : Reachable (chain d.region (dated d.region (entries_in log))) y.snapshot.counts
    reached = subst (Reachable (chain d.region (dated d.region (entries_in log)))) (sym cut_is)
        (cut-is_greatest d.region (dated d.region (entries_in log))).reached

    old_track : IsTrack c.region k (seen_in g k) old
    old_track = (is.home g ch.before).tracks k old at_old

    -- the own line is whole
    few : d.region < 4
    few =
        let lt = is.region in
        let low = s.fit.few in
        let same = ch.region in
        omega (arith, lt, low, same)

    abbrev own_line : List Head
    own_line = chain d.region (dated d.region (entries_in log)) d.region

    counted_line : at y.snapshot.counts d.region ≡ length own_line
    counted_line =
        ap (λ (v : Counts). at v d.region) cut_is
        ∙ (own_line_within d.region (length s.regions) (entries_in log) few
        (subst (λ (n : ℕ). IsColumnHistory n (length s.regions) (dated n (entries_in log))) (sym ch.region)
        (lawful_after s c d r g h is ch k))
        ∙ sym (chain_long d.region (entries_in log)))

    stayed : IsTrack c.region k log old
    stayed = track_stays s c d r g h is ch k old old_track

    new_line : new.line ≡ old.line ++ p.line
    new_line = ap (λ (t : Track). t.line) p.track

    line_heads : map (λ (item : PlacedNode). item.head) new.line ≡ own_line
    line_heads =
        ap (map (λ (item : PlacedNode). item.head)) new_line
        ∙ (map-append (λ (item : PlacedNode). item.head) old.line p.line
        ∙ joined (map (λ (item : PlacedNode). item.head) old.line) (map (λ (item : PlacedNode). item.head) p.line) own_line
        (at old.snapshot.counts d.region) (at y.snapshot.counts d.region)
        (subst (λ (n : ℕ). IsPrefix (map (λ (item : PlacedNode). item.head) old.line)
        (chain n (dated n (entries_in log)) n)) (sym ch.region) stayed.line)
        (length-map old.line (λ (item : PlacedNode). item.head)
        ∙ (stayed.line_long ∙ ap (at old.snapshot.counts) (sym ch.region))) counted_line
        (subst (λ (n : ℕ). map (λ (item : PlacedNode). item.head) p.line
        ≡ nodes_between (chain n (dated n (entries_in log))) old.snapshot.counts y.snapshot.counts n) own p.heads))

    new_track : IsTrack d.region k log new
    new_track = record {
      line = ([], append-nil (map (λ (item : PlacedNode). item.head) new.line) ∙ line_heads);
      line_long = sym (length-map new.line (λ (item : PlacedNode). item.head))
          ∙ (ap length line_heads ∙ (sym counted_line ∙ ap (λ (v : Counts). at v d.region) (sym counted)));
      named = λ n item at. elim (got_split old.line p.line n item
          (ap (λ (l : List PlacedNode). slice_get l n) (sym new_line) ∙ at)) [
            | inl early ↦ stayed.named n item early
            | inr late ↦ p.named late.0 item late.1
          ];
      region = ap (λ (t : Track). t.snapshot.region) p.track ∙ (ap (λ (q : Snapshot). q.region) p.of_column ∙ own);
      of_colour = ap (λ (t : Track). t.snapshot.colour) p.track ∙ ap (λ (q : Snapshot). q.colour) p.of_column;
      reached = subst (Reachable (chain d.region (dated d.region (entries_in log)))) (sym counted) reached;
      played = subst (λ (v : Counts). HasPlayed d.region log v new.nodes) (sym counted)
          (subst (HasPlayed d.region log y.snapshot.counts) (sym (ap (λ (t : Track). t.nodes) p.track))
          (played_then old.snapshot.counts y.snapshot.counts old.nodes p.nodes log
          (subst (λ (n : ℕ). HasPlayed n log old.snapshot.counts old.nodes) (sym ch.region)
          (played_longer c.region (seen_in g k) log sees.more old.snapshot.counts old.nodes old_track.played))
          ([], append-nil log) plays));
    }

    pub synced_client : IsClient s d
    synced_client =
        let floored = is.floored in
        let in_range = p.in_range in
        client_looked s c d r g h is ch goes used next (omega (arith, floor)) (omega (arith, floor, floored, in_range))
        count rows (ap length tracks ∙ set_long (tracks_of c) k new)
        (λ m track at. elim (cases_eq m k) [
          | inl same ↦
              (let is_new : new ≡ track = same_Some new track (sym new_there ∙ (ap (slice_get (tracks_of d)) (sym same) ∙ at)) in
              subst (λ (n : ℕ). IsTrack d.region n (seen_in h n) track) (sym same)
              (subst (IsTrack d.region k log) is_new new_track))
          | inr ne ↦
              subst (λ (n : ℕ). IsTrack n m (seen_in h m) track) (sym ch.region)
              (track_stays s c d r g h is ch m track
              ((is.home g ch.before).tracks m track (sym (others_there m ne) ∙ at)))
        ]) helps

    -- the answer
    was_played : played_of c k ≡ old.nodes
    was_played = ap nodes_of_track at_old

    now_played : played_of d k ≡ old.nodes ++ p.nodes
    now_played = ap nodes_of_track new_there ∙ ap (λ (t : Track). t.nodes) p.track

    pub synced_answer : AnswersSync c d k y
    synced_answer = record {
      first = p.first ∙ ap length (sym was_played);
      older = (p.nodes, now_played ∙ ap (λ l. l ++ p.nodes) (sym was_played), p.count);
      snapshot = p.of_column ∙ (λ i. record {
        region = (own ∙ ch.region) i;
        colour = k;
        counts = y.snapshot.counts;
      });
    }

    nodes_are : nodes_played d k y ≡ p.nodes
    nodes_are = ap (λ (n : ℕ). drop n (played_of d k)) p.first
        ∙ (ap (drop (length old.nodes)) now_played ∙ dropped old.nodes p.nodes)

    -- the nodes put at the end of the track are those that the answer names
    pub synced_nodes : (nodes : List PlacedNode) → new.nodes ≡ old.nodes ++ nodes → nodes ≡ nodes_played d k y
    synced_nodes nodes is =
        sym (dropped old.nodes nodes)
        ∙ (ap (drop (length old.nodes)) (sym is ∙ sym (ap nodes_of_track new_there))
        ∙ ap (λ (n : ℕ). drop n (played_of d k)) (sym p.first))

    looked : y.events ≡ length (seen_of d d.region k)
    looked = p.looked ∙ sym (seen_long (holds_of d) d.region h at_home k)

    -- what the client keeps after it
    abbrev kept_then : Kept → Kept
    kept_then kept = kept_after_sync kept d.region k y.events y.snapshot.counts (greatest_stamp p.nodes)

    module _ (objects : List Object) (kept : Kept) (keeps : Keeps s c objects kept) where
      abbrev caller : Caller
      caller = caller_of s d objects

      looks : LooksThere (seen_of d) caller kept k y.snapshot.counts
      looks = record {
        is_cut = cut_is ∙ ap (λ (l : List Entry). cut d.region (dated d.region l)) (sym seen_is);
        not_trimmed =
            subst (λ (v : Counts). IsWithin (base d.region (length s.regions) (dated d.region (seen_of d d.region k))) v)
            (sym (keeps.starts k ∙ started))
            (subst (λ (v : Counts). IsWithin v old.snapshot.counts) its_base p.not_trimmed);
      }

      abbrev standing : Place → PlacedNode → Type 0
      standing place item = Stands (chain d.region (dated d.region (entries_in log))) place item.head
          × Names log item.head.key.id item.node

      in_order : IsPlayOrder (chain d.region (dated d.region (entries_in log))) (kept.starts k) y.snapshot.counts plays.order
      in_order = subst (λ (v : Counts). IsPlayOrder (chain d.region (dated d.region (entries_in log))) v y.snapshot.counts
          plays.order) (sym (keeps.starts k ∙ started)) plays.in_order

      keys : PlaysKeys (seen_of d) caller kept k y.snapshot.counts p.nodes
      keys = record {
        order = plays.order;
        played = subst (λ (l : List Entry). IsPlayOrder (chain d.region (dated d.region l)) (kept.starts k) y.snapshot.counts
            plays.order) (sym seen_is) in_order;
        keys = zipped standing
            (λ place (item : PlacedNode). (head : Head)
            × Stands (chain d.region (dated d.region (seen_of d d.region k))) place head × (item.head.key ≡ head.key))
            (λ place item stands. (
              item.head,
              subst (λ (l : List Entry). Stands (chain d.region (dated d.region l)) place item.head) (sym seen_is) stands.0,
              refl,
            )) plays.order p.nodes plays.shown;
      }

      by : IsKeptBy (seen_of d) caller (kept_then kept)
      by = subst (λ (n : ℕ). IsKeptBy (seen_of d) caller (kept_after_sync kept d.region k n y.snapshot.counts
          (greatest_stamp p.nodes))) (sym looked)
          (kept_after_keys (seen_of c) (seen_of d) caller kept k y.snapshot.counts p.nodes
          (sees_after s c d r g h is ch objects) (makes_none s c d r g h is ch made)
          (kept_before s c d r g h is ch objects kept keeps) looks keys)

      starts_then : (m : ℕ) → updated kept.starts k y.snapshot.counts m ≡ starts_of d m
      starts_then m = elim (cases_eq m k) [
        | inl same ↦
            if_true (m == k) y.snapshot.counts (kept.starts m) (eq-eqb m k same)
            ∙ (sym counted ∙ (ap counts_in (sym new_there) ∙ ap (starts_of d) (sym same)))
        | inr ne ↦
            if_false (m == k) y.snapshot.counts (kept.starts m) (ne_eqb m k ne)
            ∙ (keeps.starts m ∙ ap counts_in (sym (others_there m ne)))
      ]

      keeps_then : Keeps s d objects (kept_then kept)
      keeps_then = record {
        by = by;
        floor =
            let a = keeps.floor in
            let b = p.greatest in
            omega (arith, a, b, floor);
        ids = keeps.ids ∙ sym count;
        rows = keeps.rows ∙ ap length (sym rows);
        starts = starts_then;
      }

      record_then : (rest : Rest) → FitsHolds (holds_of d) rest
          → SyncsAs d k y (log_seen (seen_of d) rest) caller kept (kept_then kept)
      record_then rest fits = (
        subst (λ (n : ℕ). Syncs (log_seen (seen_of d) rest) caller kept k n y.snapshot.counts) (sym looked)
            (syncs_stand (seen_of c) (seen_of d) rest caller kept k y.snapshot.counts (sees_after s c d r g h is ch objects)
            (kept_before s c d r g h is ch objects kept keeps) looks),
        subst (λ (l : List PlacedNode). ShowsPlayed (log_seen (seen_of d) rest) caller kept k y.events y.snapshot.counts l)
            (sym nodes_are)
            (subst (λ (n : ℕ). ShowsPlayed (log_seen (seen_of d) rest) caller kept k n y.snapshot.counts p.nodes) (sym looked)
            (plays_stand (seen_of d) rest caller kept k y.snapshot.counts p.nodes
            (plays_there (holds_of d) caller h at_home rest fits k kept y.snapshot.counts plays.order p.nodes in_order
            plays.shown))),
        ap (λ (l : List PlacedNode). kept_after_sync kept d.region k y.events y.snapshot.counts (greatest_stamp l))
            (sym nodes_are),
      )

    colour_is : y.snapshot.colour ≡ k
    colour_is = ap (λ (q : Snapshot). q.colour) p.of_column

    kept_is : (kept : Kept) → kept_after_playing d y kept ≡ kept_then kept
    kept_is kept =
        ap (λ (m : ℕ). kept_after_sync kept d.region m y.events y.snapshot.counts (greatest_stamp (nodes_played d m y)))
        colour_is
        ∙ ap (λ (l : List PlacedNode). kept_after_sync kept d.region k y.events y.snapshot.counts (greatest_stamp l)) nodes_are

    pub synced_plays : PlaysColour s c d k y
    synced_plays = record {
      of_colour = colour_is;
      looked = looked;
      keeps = λ objects kept finished keeps. (
        subst (Keeps s d objects) (sym (kept_is kept)) (keeps_then objects kept keeps),
        λ rest fits. let r = record_then objects kept keeps rest fits in (r.0, r.1),
      );
      line = ap (λ (o : Option Track). keys_of (line_in o)) new_there
          ∙ (keys_are d.region (entries_in log) new.line line_heads ∙ ap line (sym seen_is));
      others = others_there;
    }
