-- A stamped read as the client's call leaves it.
use Rattle.std.proofs.Common.{◌≡◌, ℕ, zero, suc, ◌<◌, ◌≤◌, max, List, [], ◌∷◌, ◌++◌, length, map, take, drop, Option, Some, None, refl, ap, sym, subst, ◌∙◌, inl, inr, arith, true, append-nil, length-append, take-append-drop}
use Rattle.std.specs.Prelude.{slice_get, slice_index_or}
use Rattle.std.specs.List.{All, AllZip, Contains, filter}
use Rattle.std.proofs.lemmas.List.Elements.{All-contains}
use Rattle.std.proofs.lemmas.List.{length-map}
use mathlib.Core.List.{IsPrefix}
use Rattle.log_node.specs.declared.limits.TheConstants.{MAX_STAMP}
use Rattle.log_node.specs.declared.ids.Key.{Key}
use Rattle.log_node.specs.Order.{key_below}
use Rattle.log_node.specs.Vectors.{at}
use Rattle.log_node.proofs.CallerLemmas.{at-zeros}
use Rattle.log_node.specs.Seen.{PlacedNode}
use Rattle.object_fold.specs.Folds.{is_behind}
use Rattle.col_core.specs.declared.Entry.{Entry}
use Rattle.col_core.specs.Computed.{dated}
use Rattle.col_core.specs.History.{clock, line}
use Rattle.col_core.specs.Legal.{IsColumnHistory}
use Rattle.col_core.specs.Keeping.{Kept, with_floor}
use Rattle.col_core.specs.Log.{Log}
use Rattle.col_core.specs.RegionOrder.{IsRegionOrder, IsClearUpTo}
use Rattle.col_core.proofs.CallerLemmas.{In, contains_in, in_slice}
use Rattle.playback.specs.Merging.{AreRising}
use Rattle.chain_store.specs.declared.hold.Hold.{Hold}
use Rattle.chain_store.specs.Holds.{entries_seen}
use Rattle.script_text.specs.declared.script.Object.{Object}
use Rattle.lawful_run.specs.Callers.{Caller}
use Rattle.lawful_run.specs.Reads.{lines_read, AreKeysRead, ReadsAt}
use Rattle.lawful_run.specs.Laws.{ReadItemsLast}
use Rattle.client_law.specs.Knowing.{Rest, log_seen}
use Rattle.client_law.proofs.CallerLemmas.{kept_with_floor}
use Rattle.log_client.specs.declared.store.Store.{Store}
use Rattle.log_client.specs.declared.client.Client.{Client}
use Rattle.log_client.specs.declared.track.Track.{Track}
use Rattle.log_client.specs.declared.answers.Raised.{Raised}
use Rattle.log_client.specs.declared.answers.Synced.{Synced}
use Rattle.log_client.specs.declared.answers.StampedRead.{StampedRead}
use Rattle.log_client.specs.declared.faults.SyncFault.{SyncFault}
use Rattle.log_client.specs.declared.faults.SyncFault.TheVariants as sync_faults
use Rattle.log_client.specs.Fits.{FitsHolds}
use Rattle.log_client.specs.Clients.{holds_of, seen_of, tracks_of, starts_of, counts_in, line_in, own_line, caller_of, IsClient, Keeps}
use Rattle.log_client.specs.Calls.{IsExplained}
use Rattle.log_client.specs.Items.{are_parts, AreMergedParts}
use Rattle.log_client.specs.StampedReads.{IsAsAppended, ShowsItem, raise_piece, sync_piece, HasRead, HoldsUpTo, ReadsAs, ReadsOn, ReadsAll, ReadRefused, ShowsItems}
use Rattle.log_client.specs.Reading.{RestsOn, KeepsAll, IsChosen, RaisesAll, RaisesFirst, raised_colours, IsCleared, AreCleared, HoldsLine, SyncsAll, SyncsEach, SyncsFirst, SyncsKeep, syncs_of, synced_colours, home_seen, keys_of, kept_raised, kept_synced}
use Rattle.log_client.proofs.Lists.{got}
use Rattle.log_client.proofs.Read.Lines.{keys_prefix}
use Rattle.log_client.proofs.Known.Seeing.{seen_there}
use Rattle.log_client.proofs.Known.Fitting.{listed}
use Rattle.log_client.proofs.Going.Growing.{grown_same}
use Rattle.log_client.proofs.Going.Explaining.{keeps_same, rests_same, rests_then}
use Rattle.log_client.proofs.Read.HiddenReads.{all_from}
use Rattle.log_client.proofs.Read.ClearedHolds.{cleared_longer}
use Rattle.log_client.proofs.Sync.SyncingAll.{clear_up_to}
use Rattle.log_client.proofs.Read.ReadStamps.{home_lawful}
use Rattle.log_client.proofs.Read.ItemsRead as read_items
use Rattle.log_client.proofs.Read.ItemsRead.{line_rising, none_behind, shown}
use Rattle.log_client.proofs.Read.ReadLater.{order_longer}
use Rattle.log_client.proofs.Read.ReadReplies as reply

-- THE LINES THAT A CLIENT HOLDS

rising_beginning : (xs ys : List Key) → AreRising (xs ++ ys) → AreRising xs
rising_beginning xs ys r i j d lt there =
    subst (λ (k : Key). key_below k (slice_index_or xs j d) ≡ true) (early xs i (omega (arith, lt, there)))
    (subst (λ (k : Key). key_below (slice_index_or (xs ++ ys) i d) k ≡ true) (early xs j there)
    (r i j d lt (let l = length-append xs ys in omega (arith, there, l)))) where
      early : (zs : List Key) (n : ℕ) → n < length zs → slice_index_or (zs ++ ys) n d ≡ slice_index_or zs n d
      early [] n less = absurd (let f : ⊥ = omega (arith, less) in f)
      early (z ∷ zs) zero less = refl
      early (z ∷ zs) (suc n) less = early zs n (omega (arith, less))

module _ (s : Store) (p : Client) (is : IsClient s p) where
  home : (h : Hold) × (slice_get (holds_of p) p.region ≡ Some h)
  home =
      let many = is.holds.0 in
      let within = is.region in
      got (holds_of p) p.region (omega (arith, many, within))

  lawful : (k : ℕ) → IsColumnHistory p.region (length s.regions) (dated p.region (home_seen p k))
  lawful k = home_lawful s p p (rests_same s p is) k

  track_rising : (k : ℕ) (track : Track) → slice_get (tracks_of p) k ≡ Some track → AreRising (keys_of track.line)
  track_rising k track at =
      let t = (is.home home.0 home.1).tracks k track at in
      let same = seen_there (holds_of p) p.region home.0 home.1 k in
      let pre = keys_prefix p.region (entries_seen home.0 k) track.line t.line in
      rising_beginning (keys_of track.line) pre.0
      (subst AreRising (sym pre.1)
      (subst (λ (l : List Entry). AreRising (line l)) same (line_rising p.region (length s.regions) (home_seen p k) (lawful k))))

  pub tracks_rising : All (λ (t : Track). AreRising (keys_of t.line)) (tracks_of p)
  tracks_rising = all_from (λ (t : Track). AreRising (keys_of t.line)) (tracks_of p)
      (λ t i. let n = in_slice (tracks_of p) t i in track_rising n.0 t n.1)

  -- the own line that it holds of a colour rises
  pub line_rises : (k : ℕ) → AreRising (keys_of (line_in (slice_get (tracks_of p) k)))
  line_rises k = by_track (slice_get (tracks_of p) k) refl where
    by_track : (o : Option Track) → slice_get (tracks_of p) k ≡ o → AreRising (keys_of (line_in o))
    by_track None e = λ i j d lt there. absurd (let f : ⊥ = omega (arith, there) in f)
    by_track (Some track) e = track_rising k track e

  -- each node of them is as it was appended
  as_appended : (rest : Rest) → FitsHolds (holds_of p) rest → (k : ℕ) (i : PlacedNode)
      → In i (line_in (slice_get (tracks_of p) k)) → IsAsAppended (log_seen (seen_of p) rest) i
  as_appended rest fits k i j = by_track (slice_get (tracks_of p) k) refl j where
    by_track : (o : Option Track) → slice_get (tracks_of p) k ≡ o → In i (line_in o)
        → IsAsAppended (log_seen (seen_of p) rest) i
    by_track None e none = absurd none
    by_track (Some track) e among =
        let n = in_slice track.line i among in
        let named = ((is.home home.0 home.1).tracks k track e).named n.0 i n.1 in
        (listed (holds_of p) rest p.region home.0 home.1 fits k i.head.key.id i.node named, named.of_id)

  -- The own line that it holds of a colour is the beginning of the column's line that its snapshot counts, each node as it was
  -- appended.
  pub line_is_own : (rest : Rest) → FitsHolds (holds_of p) rest → (k : ℕ)
      → AllZip (ShowsItem (log_seen (seen_of p) rest)) (take (at (starts_of p k) p.region) (line (home_seen p k))) (own_line p k)
  line_is_own rest fits k = subst (λ (l : List Key). AllZip (ShowsItem (log_seen (seen_of p) rest)) l (own_line p k))
      (by_track (slice_get (tracks_of p) k) refl)
      (shown (log_seen (seen_of p) rest) (own_line p k) (as_appended rest fits k)) where
        take_front : (xs ys : List Key) → take (length xs) (xs ++ ys) ≡ xs
        take_front [] ys = refl
        take_front (x ∷ xs) ys = ap (λ (l : List Key). x ∷ l) (take_front xs ys)

        by_track : (o : Option Track) → slice_get (tracks_of p) k ≡ o
            → keys_of (line_in o) ≡ take (at (counts_in o) p.region) (line (home_seen p k))
        by_track None e =
            ap (λ (n : ℕ). take n (line (home_seen p k)))
            (sym (at-zeros p.region (let low = is.region in let few = s.fit.few in omega (arith, low, few))))
        by_track (Some track) e =
            let t = (is.home home.0 home.1).tracks k track e in
            let pre = keys_prefix p.region (entries_seen home.0 k) track.line t.line in
            sym (take_front (keys_of track.line) pre.0)
            ∙ (ap (λ (l : List Key). take (length (keys_of track.line)) l)
            (pre.1 ∙ ap line (sym (seen_there (holds_of p) p.region home.0 home.1 k)))
            ∙ ap (λ (n : ℕ). take n (line (home_seen p k)))
            (length-map track.line (λ (item : PlacedNode). item.head.key) ∙ t.line_long))

-- RAISED

-- a colour that was synced
synced_of : (syncs : List Synced) (k : ℕ) → In k (synced_colours syncs)
    → (y : Synced) × In y syncs × (y.snapshot.colour ≡ k)
synced_of [] k i = absurd i
synced_of (y ∷ syncs) k (inl e) = (y, inl refl, e)
synced_of (y ∷ syncs) k (inr i) = let x = synced_of syncs k i in (x.0, inr x.1, x.2)

pub reached_all : (s : Store) (b r : Client) (stamp : ℕ) (raises : List Raised) (colours : List ℕ)
    → raised_colours raises ≡ colours → RaisesAll s b r stamp raises → All (λ k. stamp ≤ clock (home_seen r k)) colours
reached_all s b r stamp raises colours is all =
    all_from (λ k. stamp ≤ clock (home_seen r k)) colours
    (λ k i. let x = reply.of_colour raises k (subst (In k) (sym is) i) in
    subst (λ (n : ℕ). stamp ≤ clock (home_seen r n)) x.2
    (All-contains (λ (y : Raised). stamp ≤ clock (home_seen r y.colour)) raises x.0 all.reached (contains_in raises x.0 x.1)))

-- THE FLOOR

module _ (s : Store) (p : Client) (stamp floor : ℕ) (is : IsClient s p) (raised : floor ≡ max stamp p.floor)
    (low : stamp ≤ MAX_STAMP) where
  abbrev pub with_stamp : Client
  with_stamp = record p { floor = floor }

  pub floor_rests : RestsOn s p with_stamp
  floor_rests = record {
    client = record {
      holds = is.holds;
      numbers = is.numbers;
      away = is.away;
      region = is.region;
      home = λ h at. let e = is.home h at in let counted = e.counted in record {
        next = e.next;
        counted = omega (arith, counted, raised);
        rows = e.rows;
        tracks = e.tracks;
      };
      floored = let top = is.floored in omega (arith, top, raised, low);
      colours = is.colours;
      nodes = is.nodes;
      nodes_count = is.nodes_count;
      own_nodes = is.own_nodes;
      pulls = is.pulls;
      helps = is.helps;
    };
    same = (refl, refl);
    goes = (rests_same s p is).goes;
    grows = grown_same p with_stamp refl;
    finished = λ f. f;
  }

  pub floor_keeps : (objects : List Object) (kept : Kept) → Keeps s p objects kept
      → Keeps s with_stamp objects (with_floor kept stamp)
  floor_keeps objects kept k = record {
    by = kept_with_floor (seen_of p) (caller_of s p objects) kept stamp k.by;
    floor = let f = k.floor in omega (arith, f, raised);
    ids = k.ids;
    rows = k.rows;
    starts = k.starts;
  }

-- THE ANSWERS

-- the lines that the syncs looked at
lines_are : (log : Log) (caller : Caller) (p : Client) (stamp : ℕ) → log.histories caller.own ≡ home_seen p
    → (syncs : List Synced) → ((y : Synced) → In y syncs → HoldsLine p stamp y)
    → lines_read log caller (map sync_piece syncs) ≡ map (λ k. keys_of (own_line p k)) (synced_colours syncs)
lines_are log caller p stamp same [] each = refl
lines_are log caller p stamp same (y ∷ syncs) each =
    ap (λ (l : List Key). l ∷ lines_read log caller (map sync_piece syncs))
    (ap (λ (f : ℕ → List Entry). line (take y.events (f y.snapshot.colour))) same ∙ sym (each y (inl refl)).1)
    ∙ ap (λ (ls : List (List Key)). keys_of (own_line p y.snapshot.colour) ∷ ls)
    (lines_are log caller p stamp same syncs (λ z i. each z (inr i)))

-- and the lines of which they are beginnings
looked_at : (p : Client) (stamp : ℕ) (syncs : List Synced) → ((y : Synced) → In y syncs → HoldsLine p stamp y)
    → map (λ (y : Synced). line (take y.events (home_seen p y.snapshot.colour))) syncs
    ≡ map (λ k. keys_of (own_line p k)) (synced_colours syncs)
looked_at p stamp [] each = refl
looked_at p stamp (y ∷ syncs) each =
    ap (λ (l : List Key). l ∷ map (λ (z : Synced). line (take z.events (home_seen p z.snapshot.colour))) syncs)
    (sym (each y (inl refl)).1)
    ∙ ap (λ (ls : List (List Key)). keys_of (own_line p y.snapshot.colour) ∷ ls)
    (looked_at p stamp syncs (λ z i. each z (inr i)))

whole_lines : (p : Client) (syncs : List Synced)
    → map (λ (y : Synced). line (home_seen p y.snapshot.colour)) syncs ≡ map (λ k. line (home_seen p k)) (synced_colours syncs)
whole_lines p [] = refl
whole_lines p (y ∷ syncs) = ap (λ (ls : List (List Key)). line (home_seen p y.snapshot.colour) ∷ ls) (whole_lines p syncs)

module _ (s : Store) (c b : Client) (colours : List ℕ) (stamp : ℕ) (on1 : RestsOn s c b) (k1 : KeepsAll s c b)
    (chosen : IsChosen c b colours stamp) (low : c.floor ≤ stamp)
    (above : All (λ k. clock (home_seen c k) ≤ stamp) colours) where
  -- a raise found no memory
  pub unraised : (r : Client) → RestsOn s b r → RaisesFirst s b r stamp colours → ReadRefused s c r colours sync_faults.NoMemory
  unraised r on2 first objects kept finished keeps =
      let same = rests_same s r on2.client in
      let raises = first.0 in
      let all2 = first.3 in
      let k4 : SyncsKeep s r r stamp [] = λ os kept0 f k. (k, λ rest fits. tt) in
      let x = reply.keeps_all s c b r r r colours stamp raises [] on1 k1 chosen low above on2 all2 same (keeps_same s r) same k4
      first.1 first.2 colours refl objects kept finished keeps in (
        reply.hidden s c b r r r colours stamp raises [] on1 k1 chosen low above on2 all2 same (keeps_same s r) same k4 first.1
            first.2 colours refl objects kept keeps,
        reply.keeps_hidden s c b r r r colours stamp raises [] on1 k1 chosen low above on2 all2 same (keeps_same s r) same k4
            first.1 first.2 colours refl objects kept keeps x.0,
        λ rest fits. let z = x.1 rest fits in
            reply.hides_read s c b r r r colours stamp raises [] on1 k1 chosen low above on2 all2 same (keeps_same s r) same k4
            first.1 first.2 colours refl objects kept keeps rest z.0.0.1 z.1 _ (inl refl),
      )

  module _ (r q : Client) (raises : List Raised) (on2 : RestsOn s b r) (all2 : RaisesAll s b r stamp raises)
      (raised : raised_colours raises ≡ colours) (on3 : RestsOn s r q) (k3 : KeepsAll s r q)
      (cleared : AreCleared q stamp colours) where
    all_raised : raised_colours raises ++ [] ≡ colours
    all_raised = append-nil (raised_colours raises) ∙ raised

    -- a sync was refused
    pub unsynced : (p : Client) (fault : SyncFault) → RestsOn s q p → SyncsFirst s q p colours fault
        → ReadRefused s c p colours fault
    unsynced p sync_faults.NoMemory on4 f = λ objects kept finished keeps.
        let k4 = f.all stamp cleared in
        let x = reply.keeps_all s c b r q p colours stamp raises f.played on1 k1 chosen low above on2 all2 on3 k3 on4 k4 []
        all_raised f.left f.apart objects kept finished keeps in (
          reply.hidden s c b r q p colours stamp raises f.played on1 k1 chosen low above on2 all2 on3 k3 on4 k4 [] all_raised
              f.left f.apart objects kept keeps,
          reply.keeps_hidden s c b r q p colours stamp raises f.played on1 k1 chosen low above on2 all2 on3 k3 on4 k4 []
              all_raised f.left f.apart objects kept keeps x.0,
          λ rest fits. let z = x.1 rest fits in
              reply.hides_read s c b r q p colours stamp raises f.played on1 k1 chosen low above on2 all2 on3 k3 on4 k4 []
              all_raised f.left f.apart objects kept keeps rest z.0.0.1 z.1 _ (inl refl),
        )
    unsynced p (sync_faults.Trimmed shown base) on4 f = λ objects kept finished keeps.
        let k4 = f.all stamp cleared in
        let why = f.why stamp cleared in
        let x = reply.keeps_all s c b r q p colours stamp raises f.played on1 k1 chosen low above on2 all2 on3 k3 on4 k4 []
        all_raised f.left f.apart objects kept finished keeps in (
          kept_synced p.region f.played (kept_raised p.region (map raise_piece raises) kept),
          x.0,
          λ rest fits. let z = x.1 rest fits in
              reply.refuses_read s c b r q p colours stamp raises f.played on1 k1 chosen low above on2 all2 on3 k3 on4 k4 []
              all_raised f.left f.apart objects kept keeps finished refl shown base why.0 why.1 why.2 rest fits z.0.0.1 z.1,
        )

    -- all were synced
    module _ (p : Client) (on4 : RestsOn s q p) (syncs : List Synced) (each : SyncsEach s q p colours syncs) (floor : ℕ)
        (up : floor ≡ max stamp p.floor) (in_range : stamp ≤ MAX_STAMP) where
      abbrev d : Client
      d = with_stamp s p stamp floor on4.client up in_range

      all4 : SyncsAll s q p stamp each.0
      all4 = each.3 stamp cleared

      all_synced : synced_colours (syncs_of each.0) ++ [] ≡ colours
      all_synced = append-nil (synced_colours (syncs_of each.0)) ∙ (ap synced_colours each.1 ∙ each.2)

      pub read_rests : RestsOn s c d
      read_rests = rests_then s c p d
          (reply.on_p s c b r q p colours stamp raises each.0 on1 k1 chosen low above on2 all2 on3 k3 on4 all4.keeps []
          all_raised [] all_synced) (floor_rests s p stamp floor on4.client up in_range)

      -- there was no memory for the items
      pub unanswered : ReadRefused s c d colours sync_faults.NoMemory
      unanswered objects kept finished keeps =
          let x = reply.keeps_all s c b r q p colours stamp raises each.0 on1 k1 chosen low above on2 all2 on3 k3 on4 all4.keeps
          [] all_raised [] all_synced objects kept finished keeps in
          let hid = reply.hidden s c b r q p colours stamp raises each.0 on1 k1 chosen low above on2 all2 on3 k3 on4 all4.keeps
          [] all_raised [] all_synced objects kept keeps in (
            with_floor hid stamp,
            floor_keeps s p stamp floor on4.client up in_range objects hid
                (reply.keeps_hidden s c b r q p colours stamp raises each.0 on1 k1 chosen low above on2 all2 on3 k3 on4
                all4.keeps [] all_raised [] all_synced objects kept keeps x.0),
            λ rest fits. let z = x.1 rest fits in
                reply.hides_read s c b r q p colours stamp raises each.0 on1 k1 chosen low above on2 all2 on3 k3 on4 all4.keeps
                [] all_raised [] all_synced objects kept keeps rest z.0.0.1 z.1 (with_floor hid stamp) (inr refl),
          )

      held : (y : Synced) → In y syncs → HoldsLine p stamp y
      held y i = All-contains (HoldsLine p stamp) (syncs_of each.0) y all4.lines
          (contains_in (syncs_of each.0) y (subst (In y) (sym each.1) i))

      abbrev seen_by : Synced → List Entry
      seen_by y = take y.events (home_seen p y.snapshot.colour)

      prefix_seen : (y : Synced) → IsPrefix (seen_by y) (home_seen p y.snapshot.colour)
      prefix_seen y = (
        drop y.events (home_seen p y.snapshot.colour),
        take-append-drop y.events (home_seen p y.snapshot.colour),
      )

      -- no node up to the stamp is lacking in the own lines
      pub lines_held : ReadItemsLast → All (HoldsUpTo d stamp) colours
      lines_held law = all_from (HoldsUpTo d stamp) colours (λ k i key low there.
          let y = synced_of syncs k (subst (In k) (sym each.2) i) in
          let h = held y.0 y.1 in
          let whole = (prefix_seen y.0).1 in
          subst (λ (m : ℕ). Contains (keys_of (own_line p m)) key) y.2
          (subst (λ (l : List Key). Contains l key) (sym h.1)
          (law p.region (length s.regions) (seen_by y.0) (prefix_seen y.0).0 stamp
          (subst (λ (l : List Entry). IsColumnHistory p.region (length s.regions) (dated p.region l)) (sym whole)
          (lawful s p on4.client y.0.snapshot.colour)) h.2.reached (clear_up_to stamp (seen_by y.0) h.2) key low
          (subst (λ (l : List Entry). Contains (line l) key) (sym whole)
          (subst (λ (m : ℕ). Contains (line (home_seen p m)) key) (sym y.2) there)))))

      -- the answer
      module _ (last : Option Key) (items : List PlacedNode)
          (are : AreMergedParts (are_parts (tracks_of p) last stamp colours) items) where
        abbrev answer : List Raised → List Synced → StampedRead
        answer rs ys = record { stamp = stamp; raises = rs; syncs = ys; items = items }

        abbrev keys : List Key
        keys = read_items.all_keys (tracks_of p) last stamp colours items (λ k i. line_rises s p on4.client k) are

        shown_lines : (rest : Rest) (objects : List Object)
            → AreKeysRead (log_seen (seen_of p) rest) (caller_of s p objects) stamp (map sync_piece syncs)
            (read_items.all_keys (tracks_of p) last stamp colours items (λ k i. line_rises s p on4.client k) are)
        shown_lines rest objects =
            subst (λ (ls : List (List Key)). IsRegionOrder ls stamp
            (read_items.all_keys (tracks_of p) last stamp colours items (λ k i. line_rises s p on4.client k) are))
            (sym (lines_are (log_seen (seen_of p) rest) (caller_of s p objects) p stamp refl syncs held
            ∙ ap (map (λ k. keys_of (own_line p k))) each.2))
            (read_items.all_read (tracks_of p) last stamp colours items (λ k i. line_rises s p on4.client k) are)

        -- the keys are those of all that it has then seen
        whole_order : ReadItemsLast → IsRegionOrder (map (λ k. line (home_seen p k)) colours) stamp keys
        whole_order law =
            subst (λ (ls : List (List Key)). IsRegionOrder ls stamp keys)
            (whole_lines p syncs ∙ ap (map (λ k. line (home_seen p k))) each.2)
            (order_longer law p.region (length s.regions) stamp syncs seen_by (λ y. home_seen p y.snapshot.colour)
            (λ y i. prefix_seen y) (λ y i. lawful s p on4.client y.snapshot.colour)
            (λ y i. let h = (held y i).2 in (h.reached, clear_up_to stamp (seen_by y) h)) keys
            (subst (λ (ls : List (List Key)). IsRegionOrder ls stamp keys)
            (sym (looked_at p stamp syncs held ∙ ap (map (λ k. keys_of (own_line p k))) each.2))
            (read_items.all_read (tracks_of p) last stamp colours items (λ k i. line_rises s p on4.client k) are)))

        cleared_now : (k : ℕ) → In k colours → IsCleared stamp (home_seen p k)
        cleared_now k i =
            let y = synced_of syncs k (subst (In k) (sym each.2) i) in
            subst (λ (m : ℕ). IsCleared stamp (home_seen p m)) y.2
            (cleared_longer p.region (length s.regions) stamp (seen_by y.0) (home_seen p y.0.snapshot.colour) (prefix_seen y.0)
            (lawful s p on4.client y.0.snapshot.colour) (held y.0 y.1).2)

        has_read : ReadItemsLast → HasRead d colours stamp keys
        has_read law = record {
          reached = all_from (λ k. stamp ≤ clock (home_seen p k)) colours (λ k i. (cleared_now k i).reached);
          clear = all_from (λ k. IsClearUpTo stamp (home_seen p k)) colours
              (λ k i. clear_up_to stamp (home_seen p k) (cleared_now k i));
          order = whole_order law;
        }

        items_shown : (rest : Rest) → FitsHolds (holds_of p) rest
            → AllZip (ShowsItem (log_seen (seen_of p) rest)) (filter (is_behind last) keys) items
        items_shown rest fits =
            read_items.items_shown (tracks_of p) last stamp colours items (λ k i. line_rises s p on4.client k) are
            (log_seen (seen_of p) rest)
            (λ i j. let y = read_items.item_there (tracks_of p) last stamp colours items
            (λ k i. line_rises s p on4.client k) are i j in as_appended s p on4.client rest fits y.0 i y.2)

        shows : ShowsItems d (filter (is_behind last) keys) items
        shows = (
          read_items.items_are (tracks_of p) last stamp colours items (λ k i. line_rises s p on4.client k) are,
          items_shown,
        )

        answered : IsExplained s c d (ReadsAs colours last (answer raises syncs) keys)
        answered objects kept finished keeps =
            let x = reply.keeps_all s c b r q p colours stamp raises each.0 on1 k1 chosen low above on2 all2 on3 k3 on4
            all4.keeps [] all_raised [] all_synced objects kept finished keeps in (
              with_floor (kept_synced p.region each.0 (kept_raised p.region (map raise_piece raises) kept)) stamp,
              floor_keeps s p stamp floor on4.client up in_range objects
                  (kept_synced p.region each.0 (kept_raised p.region (map raise_piece raises) kept)) x.0,
              λ rest fits. let z = x.1 rest fits in (
                subst (λ (l : List Synced). ReadsAt (log_seen (seen_of p) rest) (caller_of s p objects) kept colours stamp
                    (map raise_piece raises) (map sync_piece l)
                    (with_floor (kept_synced p.region each.0 (kept_raised p.region (map raise_piece raises) kept)) stamp))
                    each.1
                    (reply.reads_at s c b r q p colours stamp raises each.0 on1 k1 chosen low above on2 all2 on3 k3 on4
                    all4.keeps [] all_raised [] all_synced objects kept keeps rest refl refl z.0.0.1 z.1),
                shown_lines rest objects,
                items_shown rest fits,
              ),
            )

        -- as lists of their own
        pub read_answered : ReadItemsLast → (rs : List Raised) (ys : List Synced) → rs ≡ raises → ys ≡ syncs
            → ReadsOn s c d colours last (answer rs ys)
        read_answered law rs ys same_raises same_syncs = (
          keys,
          has_read law,
          shows,
          subst (λ (l : List Raised). IsExplained s c d (ReadsAs colours last (answer l ys) keys)) (sym same_raises)
              (subst (λ (l : List Synced). IsExplained s c d (ReadsAs colours last (answer raises l) keys)) (sym same_syncs)
              answered),
        )

-- with all its items
pub all_answered : (s : Store) (c d : Client) (colours : List ℕ) (read : StampedRead) → ReadsOn s c d colours None read
    → ReadsAll s c d colours read
all_answered s c d colours read is = (
  is.0,
  is.1,
  λ objects kept finished keeps.
      let x = is.3 objects kept finished keeps in (
        x.0,
        x.1,
        λ rest fits. let y = x.2 rest fits in (
          y.0,
          y.1,
          subst (λ (l : List Key). AllZip (ShowsItem (log_seen (seen_of d) rest)) l read.items) (none_behind is.0) y.2,
        ),
      ),
)
