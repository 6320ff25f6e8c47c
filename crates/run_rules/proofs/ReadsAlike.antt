-- What syncs, stamped reads, pulls and trims say of a log they say of one with the same histories in the shape.
use Rattle.std.proofs.Common.{◌≡◌, ◌∙◌, refl, ap, sym, subst, ℕ, ◌<◌, ◌≤◌, List, [], ◌∷◌, length, map, min, take, Some, inl, inr}
use Rattle.std.specs.Prelude.{◌+◌, IsFalse, slice_get}
use Rattle.std.specs.List.{AllZip}
use Rattle.std.proofs.lemmas.List.Elements.{All-contains}
use Rattle.log_node.specs.declared.ids.Counts.{Counts}
use Rattle.log_node.specs.declared.ids.Id.{Id}
use Rattle.log_node.specs.declared.ids.Key.{Key}
use Rattle.log_node.specs.declared.node.At.{At}
use Rattle.log_node.specs.declared.node.At.TheVariants.{Event, Look}
use Rattle.log_node.specs.Reach.{IsGreatestReachable}
use Rattle.log_node.specs.Seen.{PlacedNode}
use Rattle.log_node.specs.Vectors.{at, IsWithin, is_within}
use Rattle.col_core.specs.declared.Event.TheVariants as events
use Rattle.col_core.specs.declared.Entry.{Entry}
use Rattle.col_core.specs.Computed.{dated}
use Rattle.col_core.specs.Cuts.{base, chain}
use Rattle.col_core.specs.History.{clock, line}
use Rattle.col_core.specs.Keeping.{Kept, seen_after}
use Rattle.col_core.specs.Log.{Log, HasText}
use Rattle.col_core.specs.PlayOrder.{Place, IsPlayOrder, Stands}
use Rattle.col_core.specs.RegionOrder.{IsClearUpTo, IsRegionOrder}
use Rattle.col_core.proofs.CallerLemmas.{In, all_in, contains_in, in_contains, in_map}
use Rattle.script_text.specs.declared.script.Script.{Script}
use Rattle.report_text.specs.declared.report.RaisePiece.{RaisePiece}
use Rattle.report_text.specs.declared.report.SyncPiece.{SyncPiece}
use Rattle.lawful_run.specs.Callers.{Caller, caller_of}
use Rattle.lawful_run.specs.Columns.{row_report}
use Rattle.lawful_run.specs.Moves.{AsksFor, CarriesNodes, GivesFrom, GivesTooLow, Pulls, Trims}
use Rattle.lawful_run.specs.Reads.{AreKeysRead, ClearSyncs, IsAboveClocks, IsReadStamp, IsTrimmed, Raises, RaisesClock, ReadsAt, ShowsKey, ShowsNode, ShowsPlayed, Syncs, events_until, kept_after_place, lines_read}
use Rattle.run_rules.specs.Told.{kept_after_raises, kept_after_read, kept_after_syncs}
use Rattle.run_rules.specs.Agreeing.{HasColumn, KeepSame}
use Rattle.run_rules.proofs.TextsAlike.{AreKnown, ShownAlike, zip_mapped}
use Rattle.run_rules.proofs.SameKept.{piece_same, place_same, raises_same}

module _ (script : Script) (n : ℕ) (one two : Log)
    (histories : (r c : ℕ) → HasColumn script r c → one.histories r c ≡ two.histories r c)
    (home : (caller_of script n).own < script.shape.regions)
    (rows : map (row_report (caller_of script n).own) (one.rows (caller_of script n).own)
    ≡ map (row_report (caller_of script n).own) (two.rows (caller_of script n).own))
    (Known : Id → Type 0) (known : AreKnown script n one Known) where
  abbrev who : Caller
  who = caller_of script n

  abbrev own : ℕ
  own = who.own

  abbrev Low : ℕ → Type 0
  Low colour = colour < script.shape.colours

  -- what is said of an own column's history
  by_history : (P : List Entry → Type 0) (colour : ℕ) → Low colour → P (one.histories own colour)
      → P (two.histories own colour)
  by_history P colour lt p = subst P (histories own colour (home, lt)) p

  pub syncs_alike : {a b : Kept} → KeepSame script a b → (colour events : ℕ) (snapshot : Counts) → Low colour
      → Syncs one who a colour events snapshot → Syncs two who b colour events snapshot
  syncs_alike {a} {b} s colour events snapshot lt x = record {
    unseen = subst (λ (k : ℕ). k ≤ events) (s.seen own colour (home, lt)) x.unseen;
    there = by_history (λ (h : List Entry). events ≤ length h) colour lt x.there;
    cut = by_history (λ (h : List Entry). IsGreatestReachable (chain own (dated own (take events h))) snapshot) colour lt x.cut;
    not_trimmed = subst (IsWithin (base own who.regions (dated own (take events (two.histories own colour))))) (s.starts colour)
        (by_history (λ (h : List Entry). IsWithin (base own who.regions (dated own (take events h))) (a.starts colour)) colour
        lt x.not_trimmed);
    within = subst (λ (k : ℕ). k ≤ at snapshot own) (s.known colour) x.within;
  }

  -- a text that is shown under an id
  by_shown : (shown : List PlacedNode) → ShownAlike one two Known shown → (item : PlacedNode) → In item shown → (key : Key)
      → item.head.key ≡ key → Known key.id → HasText one key.id item.node.text → HasText two key.id item.node.text
  by_shown shown said item i key is has h =
      subst (λ (k : Key). HasText two k.id item.node.text) is
      (said item i (subst (λ (k : Key). Known k.id) (sym is) has)
      (subst (λ (k : Key). HasText one k.id item.node.text) (sym is) h))

  node_shown : (colour events : ℕ) → Low colour → (shown : List PlacedNode) → ShownAlike one two Known shown
      → (place : Place) (item : PlacedNode) → In item shown
      → ShowsNode one who colour events place item → ShowsNode two who colour events place item
  node_shown colour events lt shown said place item i x = record {
    head = x.head;
    stands = by_history (λ (h : List Entry). Stands (chain own (dated own (take events h))) place x.head) colour lt x.stands;
    key = x.key;
    text = by_shown shown said item i x.head.key x.key (known.of_chain colour lt events place x.head x.stands) x.text;
  }

  pub played_alike : {a b : Kept} → KeepSame script a b → (colour events : ℕ) (snapshot : Counts) (shown : List PlacedNode)
      → Low colour → ShownAlike one two Known shown → ShowsPlayed one who a colour events snapshot shown
      → ShowsPlayed two who b colour events snapshot shown
  played_alike {a} {b} s colour events snapshot shown lt said x = record {
    order = x.order;
    played = subst (λ (v : Counts). IsPlayOrder (chain own (dated own (take events (two.histories own colour)))) v snapshot
        x.order) (s.starts colour)
        (by_history (λ (h : List Entry). IsPlayOrder (chain own (dated own (take events h))) (a.starts colour) snapshot x.order)
        colour lt x.played);
    lines = zip_mapped (ShowsNode one who colour events) (ShowsNode two who colour events) x.order shown
        (λ place item i j. node_shown colour events lt shown said place item j) x.lines;
  }

  pub trimmed_alike : {a b : Kept} → KeepSame script a b → (colour : ℕ) (shown : Counts) → Low colour
      → IsTrimmed one who a colour shown → IsTrimmed two who b colour shown
  trimmed_alike {a} {b} s colour shown lt x = record {
    events = x.events;
    unseen = subst (λ (k : ℕ). k ≤ x.events) (s.seen own colour (home, lt)) x.unseen;
    there = by_history (λ (h : List Entry). x.events ≤ length h) colour lt x.there;
    is_base = by_history (λ (h : List Entry). shown ≡ base own who.regions (dated own (take x.events h))) colour lt x.is_base;
    below = subst (λ (v : Counts). IsFalse (is_within shown v)) (s.starts colour) x.below;
  }

  -- STAMPED READS

  raise_alike : {a b : Kept} → KeepSame script a b → (stamp colour : ℕ) (given : At) → Low colour
      → RaisesClock one who a stamp colour given → RaisesClock two who b stamp colour given
  raise_alike {a} {b} s stamp colour (Event place) lt x = (
    subst (λ (k : ℕ). k ≤ place) (s.seen own colour (home, lt)) x.0,
    subst (λ (k : ℕ). k ≤ length (line (take place (two.histories own colour)))) (s.known colour)
        (by_history (λ (h : List Entry). a.known colour ≤ length (line (take place h))) colour lt x.1),
    by_history (λ (h : List Entry). slice_get h place
        ≡ Some (record { by = who.client; event = events.Raise stamp; stamp = 0 })) colour lt x.2,
  )
  raise_alike {a} {b} s stamp colour (Look events) lt x = (
    subst (λ (k : ℕ). k ≤ events) (s.seen own colour (home, lt)) x.0,
    by_history (λ (h : List Entry). events ≤ length h) colour lt x.1,
    subst (λ (k : ℕ). k ≤ length (line (take events (two.histories own colour)))) (s.known colour)
        (by_history (λ (h : List Entry). a.known colour ≤ length (line (take events h))) colour lt x.2),
    by_history (λ (h : List Entry). stamp ≤ clock (take events h)) colour lt x.3,
  )

  abbrev AreLow : List RaisePiece → Type 0
  AreLow raises = (x : RaisePiece) → In x raises → Low x.colour

  abbrev AreSyncsLow : List SyncPiece → Type 0
  AreSyncsLow syncs = (x : SyncPiece) → In x syncs → Low x.colour

  raises_are : (stamp : ℕ) (raises : List RaisePiece) (a after : Kept) → Raises one who stamp a raises after
      → after ≡ kept_after_raises who a raises
  raises_are stamp [] a after x = x
  raises_are stamp (r ∷ rs) a after x = raises_are stamp rs (kept_after_place a own r.colour r.at) after x.1

  raises_alike : (stamp : ℕ) (raises : List RaisePiece) → AreLow raises → {a b : Kept} → KeepSame script a b → (after : Kept)
      → Raises one who stamp a raises after → Raises two who stamp b raises (kept_after_raises who b raises)
  raises_alike stamp [] low s after x = refl
  raises_alike stamp (r ∷ rs) low s after x = (
    raise_alike s stamp r.colour r.at (low r (inl refl)) x.0,
    raises_alike stamp rs (λ y i. low y (inr i)) (place_same script s own r.colour r.at) after x.1,
  )

  clear_alike : (stamp : ℕ) (syncs : List SyncPiece) → AreSyncsLow syncs → {a b : Kept} → KeepSame script a b → (after : Kept)
      → ClearSyncs one who stamp a syncs after → ClearSyncs two who stamp b syncs (kept_after_syncs two who b syncs)
  clear_alike stamp [] low s after x = refl
  clear_alike stamp (y ∷ ys) low s after x = (
    syncs_alike s y.colour y.events y.counts (low y (inl refl)) x.0,
    by_history (λ (h : List Entry). IsClearUpTo stamp (take y.events h)) y.colour (low y (inl refl)) x.1,
    clear_alike stamp ys (λ z i. low z (inr i))
        (piece_same script who one two histories home rows s y (low y (inl refl))) after x.2,
  )

  clocks_alike : {a b : Kept} → KeepSame script a b → (colours : List ℕ) (stamp : ℕ)
      → ((c : ℕ) → In c colours → Low c) → IsAboveClocks one who a colours stamp → IsAboveClocks two who b colours stamp
  clocks_alike {a} {b} s colours stamp low x = all_in _ colours (λ c i.
      let y = All-contains (λ (colour : ℕ). (a.seen own colour ≤ length (one.histories own colour))
      × (clock (take (a.seen own colour) (one.histories own colour)) ≤ stamp)) colours c x (contains_in colours c i) in
      subst (λ (k : ℕ). (k ≤ length (two.histories own c)) × (clock (take k (two.histories own c)) ≤ stamp))
      (s.seen own c (home, low c i))
      (by_history (λ (h : List Entry). (a.seen own c ≤ length h) × (clock (take (a.seen own c) h) ≤ stamp)) c (low c i) y))

  chosen_alike : {a b : Kept} → KeepSame script a b → (raises : List RaisePiece) (stamp : ℕ) → AreLow raises
      → IsReadStamp one who a raises stamp → IsReadStamp two who b raises stamp
  chosen_alike s raises stamp low (inl e) = inl (e ∙ s.floor)
  chosen_alike {a} {b} s raises stamp low (inr x) =
      let lt = low x.0 (in_contains raises x.0 x.1) in
      inr (
        x.0,
        x.1,
        x.2,
        subst (λ (k : ℕ). k ≤ x.2) (s.seen own x.0.colour (home, lt)) x.3,
        x.4,
        by_history (λ (h : List Entry). stamp ≡ clock (take x.2 h)) x.0.colour lt x.5,
      )

  pub read_alike : {a b : Kept} → KeepSame script a b → (colours : List ℕ) (stamp : ℕ) (raises : List RaisePiece)
      (syncs : List SyncPiece) → ((c : ℕ) → In c colours → Low c) → AreLow raises → AreSyncsLow syncs → (after : Kept)
      → ReadsAt one who a colours stamp raises syncs after
      → ReadsAt two who b colours stamp raises syncs (kept_after_read two who b stamp raises syncs)
  read_alike {a} {b} s colours stamp raises syncs low raised synced after x = record {
    raised_colours = x.raised_colours;
    synced_colours = x.synced_colours;
    above_floor = subst (λ (k : ℕ). k ≤ stamp) s.floor x.above_floor;
    above_clocks = clocks_alike s colours stamp low x.above_clocks;
    chosen = chosen_alike s raises stamp raised x.chosen;
    raised = kept_after_raises who b raises;
    raising = raises_alike stamp raises raised s x.raised x.raising;
    synced = kept_after_syncs two who (kept_after_raises who b raises) syncs;
    syncing = clear_alike stamp syncs synced
        (subst (λ (k : Kept). KeepSame script k (kept_after_raises who b raises))
        (sym (raises_are stamp raises a x.raised x.raising)) (raises_same script who raises s)) x.synced x.syncing;
    after_is = refl;
  }

  pub lines_alike : (syncs : List SyncPiece) → AreSyncsLow syncs → lines_read one who syncs ≡ lines_read two who syncs
  lines_alike [] low = refl
  lines_alike (x ∷ xs) low =
      ap (λ (h : List Entry). line (take x.events h) ∷ lines_read one who xs)
      (histories own x.colour (home, low x (inl refl)))
      ∙ ap (λ (l : List (List Key)). line (take x.events (two.histories own x.colour)) ∷ l)
      (lines_alike xs (λ y i. low y (inr i)))

  pub keys_alike : (stamp : ℕ) (syncs : List SyncPiece) (keys : List Key) → AreSyncsLow syncs
      → AreKeysRead one who stamp syncs keys → AreKeysRead two who stamp syncs keys
  keys_alike stamp syncs keys low x =
      subst (λ (l : List (List Key)). IsRegionOrder l stamp keys) (lines_alike syncs low) x

  -- the keys that were read are known
  pub keys_known : (stamp : ℕ) (syncs : List SyncPiece) (keys : List Key) → AreSyncsLow syncs
      → AreKeysRead one who stamp syncs keys → (key : Key) → In key keys → Known key.id
  keys_known stamp syncs keys low x key i =
      let o = x.no_other key (contains_in keys key i) in
      let l = in_map (λ (s : SyncPiece). line (take s.events (one.histories own s.colour))) syncs o.1
      (in_contains (lines_read one who syncs) o.1 o.2) in
      known.of_line l.0.colour (low l.0 l.1) l.0.events key
      (subst (In key) (sym l.2) (in_contains o.1 key o.3))

  pub shown_alike : (keys : List Key) (shown : List PlacedNode) → ((key : Key) → In key keys → Known key.id)
      → ShownAlike one two Known shown → AllZip (ShowsKey one) keys shown → AllZip (ShowsKey two) keys shown
  shown_alike keys shown of_keys said x = zip_mapped (ShowsKey one) (ShowsKey two) keys shown
      (λ k item i j y. (y.0, by_shown shown said item j k y.0 (of_keys k i) y.1)) x

  -- MOVES

  module _ (region colour : ℕ) (has : HasColumn script region colour) where
    by_other : (P : List Entry → Type 0) → P (one.histories region colour) → P (two.histories region colour)
    by_other P p = subst P (histories region colour has) p

    asks_alike : {a b : Kept} → KeepSame script a b → (until place from : ℕ)
        → AsksFor one who region colour (a.seen own colour) until place from
        → AsksFor two who region colour (b.seen own colour) until place from
    asks_alike {a} {b} s until place from x = (
      x.0,
      subst (λ (k : ℕ). k ≤ x.0) (s.seen own colour (home, has.1)) x.1,
      x.2,
      by_other (λ (h : List Entry). from ≡ min (length (line (take place h)))
          (length (chain own (dated own (take x.0 (two.histories own colour))) region)))
          (by_history (λ (h : List Entry). from ≡ min (length (line (take place (one.histories region colour))))
          (length (chain own (dated own (take x.0 h)) region))) colour has.1 x.3),
    )

    gives_alike : (place from : ℕ) → GivesFrom one who region colour place from → GivesFrom two who region colour place from
    gives_alike place from x = by_other (λ (h : List Entry). slice_get h place
        ≡ Some (record { by = who.client; event = events.Give own from; stamp = 0 })) x

    too_low_alike : {a b : Kept} → KeepSame script a b → (until place : ℕ)
        → GivesTooLow one who region colour (a.seen own colour) until place
        → GivesTooLow two who region colour (b.seen own colour) until place
    too_low_alike s until place x = (
      x.0,
      gives_alike place x.0 x.1,
      asks_alike s until place x.0 x.2,
      by_other (λ (h : List Entry). x.0 < at (base region who.regions (dated region (take place h))) region) x.3,
    )

    carries_alike : {a b : Kept} → KeepSame script a b → (count : ℕ) (carry : At)
        → CarriesNodes one who a region colour count carry → CarriesNodes two who b region colour count carry
    carries_alike {a} {b} s count (Event place) x = (
      subst (λ (k : ℕ). k ≤ place) (s.seen own colour (home, has.1)) x.0,
      x.1,
      x.2,
      by_history (λ (h : List Entry). slice_get h place
          ≡ Some (record { by = who.client; event = events.Carry region x.1 x.2; stamp = 0 })) colour has.1 x.3,
      x.4,
    )
    carries_alike {a} {b} s count (Look events) x = (
      subst (λ (k : ℕ). k ≤ events) (s.seen own colour (home, has.1)) x.0,
      by_history (λ (h : List Entry). events ≤ length h) colour has.1 x.1,
      x.2,
    )

    pub pulls_alike : {a b : Kept} → KeepSame script a b → (count place : ℕ) (carry : At) (low : List ℕ)
        → Pulls one who a region colour count place carry low → Pulls two who b region colour count place carry low
    pulls_alike {a} {b} s count place carry low x = record {
      another = x.another;
      made_again = all_in (GivesTooLow two who region colour (b.seen own colour) (events_until carry)) low (λ p i.
          too_low_alike s (events_until carry) p
          (All-contains (GivesTooLow one who region colour (a.seen own colour) (events_until carry)) low p x.made_again
          (contains_in low p i)));
      unseen = subst (λ (k : ℕ). k ≤ place) (s.seen region colour has) x.unseen;
      from = x.from;
      gives = gives_alike place x.from x.gives;
      asks = asks_alike s (events_until carry) place x.from x.asks;
      carries = carries_alike s count carry x.carries;
      holds = by_other (λ (h : List Entry). length (line (take place h))
          ≤ length (chain own (dated own (take (seen_after carry) (two.histories own colour))) region))
          (by_history (λ (h : List Entry). length (line (take place (one.histories region colour)))
          ≤ length (chain own (dated own (take (seen_after carry) h)) region)) colour has.1 x.holds);
    }

  pub trims_alike : {a b : Kept} → KeepSame script a b → (colour place : ℕ) (shown : Counts) → Low colour
      → Trims one who a colour place shown → Trims two who b colour place shown
  trims_alike {a} {b} s colour place shown lt x = record {
    unseen = subst (λ (k : ℕ). k ≤ place) (s.seen own colour (home, lt)) x.unseen;
    trimmed = by_history (λ (h : List Entry). slice_get h place
        ≡ Some (record { by = who.client; event = events.Trim (b.starts colour); stamp = 0 })) colour lt
        (x.trimmed ∙ ap (λ (v : Counts). Some (record { by = who.client; event = events.Trim v; stamp = 0 })) (s.starts colour));
    is_base = by_history (λ (h : List Entry). shown ≡ base own who.regions (dated own (take (place + 1) h))) colour lt x.is_base;
  }
