-- What a stamped read of a client leaves, and what explains its answer.
use Rattle.std.proofs.Common.{◌≡◌, ◌⊎◌, ℕ, zero, suc, ◌+◌, ◌<◌, ◌≤◌, List, [], ◌∷◌, ◌++◌, length, map, take, drop, Some, slice_get, refl, ap, sym, subst, ◌∙◌, inl, inr, arith, eq-eqb, append-nil, take-append-drop}
use Rattle.std.specs.Prelude.{◌==◌}
use Rattle.std.specs.List.{All, Contains}
use Rattle.std.proofs.lemmas.Bool.{cases_eq, ne_eqb}
use Rattle.std.proofs.lemmas.List.{map-append}
use Rattle.std.proofs.lemmas.List.Elements.{All-contains}
use mathlib.Core.List.{IsPrefix}
use Rattle.log_node.specs.declared.ids.Counts.{Counts}
use Rattle.log_node.specs.declared.node.At.{At}
use Rattle.col_core.specs.declared.Entry.{Entry}
use Rattle.col_core.specs.History.{clock, line}
use Rattle.col_core.specs.Computed.{dated}
use Rattle.col_core.specs.Legal.{IsColumnHistory}
use Rattle.col_core.specs.Log.{Log}
use Rattle.col_core.specs.Keeping.{Kept, seen_past, seen_after, with_floor, with_made}
use Rattle.col_core.proofs.CallerLemmas.{In, contains_in, in_append, in_contains, in_left, if_true, if_false, lawful_beginning}
use Rattle.script_text.specs.declared.script.Object.{Object}
use Rattle.report_text.specs.declared.report.RaisePiece.{RaisePiece}
use Rattle.lawful_run.specs.Callers.{Caller}
use Rattle.report_text.specs.declared.report.SyncPiece.{SyncPiece}
use Rattle.lawful_run.specs.Reads.{IsTrimmed, RaisesClock, Raises, kept_after_place, HidesSyncs, HidesRead, RefusesRead, ReadsAt, IsAboveClocks, IsReadStamp, events_until}
use Rattle.lawful_run.proofs.CallerLemmas.{hides_more, hides_none, prefix_length, prefix_take, raises_later}
use Rattle.client_law.specs.Knowing.{Rest, log_seen, SeesOn}
use Rattle.client_law.specs.Kept.{IsKeptBy}
use Rattle.log_client.specs.declared.store.Store.{Store}
use Rattle.log_client.specs.declared.client.Client.{Client}
use Rattle.log_client.specs.declared.answers.Raised.{Raised}
use Rattle.log_client.specs.declared.answers.Synced.{Synced}
use Rattle.log_client.specs.Fits.{FitsHolds}
use Rattle.log_client.specs.Clients.{holds_of, seen_of, caller_of, Keeps, Finished}
use Rattle.log_client.specs.StampedReads.{raise_piece, sync_piece}
use Rattle.log_client.specs.Reading.{RestsOn, KeepsWith, KeepsAll, IsChosen, RaisesOne, RaisesAll, kept_raised, raised_colours, Playing, AreSyncs, SyncsKeep, kept_synced, syncs_of, synced_colours, home_seen}
use Rattle.log_client.proofs.Going.GoingOn.{same_caller}
use Rattle.log_client.proofs.Going.Explaining.{keeps_less, log_then, rests_then, sees_then, keeps_then}
use Rattle.log_client.proofs.Read.HiddenReads.{all_from, clear_syncs, events_at, hidden_raises, hides_syncs, past_within, place_in, raised_away, raised_here, raised_less, raised_more, raised_same, raises_more, synced_same}
use Rattle.log_client.proofs.Read.ClearedHolds.{clock_grows}
use Rattle.log_client.proofs.Read.ReadStamps.{home_clock, home_lawful, home_more}

-- an item of the beginning of a longer list
prefix_back : {A : Type 0} (xs ys : List A) (i : ℕ) (x : A) → IsPrefix xs ys → i < length xs → slice_get ys i ≡ Some x
    → slice_get xs i ≡ Some x
prefix_back {A} xs ys i x p lt at = go xs i lt (ap (λ (l : List A). slice_get l i) p.1 ∙ at) where
  go : (zs : List A) (j : ℕ) → j < length zs → slice_get (zs ++ p.0) j ≡ Some x → slice_get zs j ≡ Some x
  go [] j less e = absurd (let f : ⊥ = omega (arith, less) in f)
  go (z ∷ zs) zero less e = e
  go (z ∷ zs) (suc j) less e = go zs j (omega (arith, less)) e

-- RAISES, ONE AFTER ANOTHER

pub none_raised : (s : Store) (c : Client) (stamp : ℕ) → RaisesAll s c c stamp []
none_raised s c stamp = record {
  keeps = λ objects kept finished keeps. (keeps, λ rest fits. refl);
  since = λ k d lt. absurd (let f : ⊥ = omega (arith, lt) in f);
  within = λ k d lt. absurd (let f : ⊥ = omega (arith, lt) in f);
  reached = λ k d lt. absurd (let f : ⊥ = omega (arith, lt) in f);
}

all_more : {A : Type 0} (P : A → Type 0) (xs : List A) (x : A) → ((y : A) → In y xs → P y) → P x → All P (xs ++ x ∷ [])
all_more {A} P xs x each last =
    all_from P (xs ++ x ∷ [])
    (λ y i. elim (in_append y xs (x ∷ []) i) [
      | inl early ↦ each y early
      | inr late ↦ elim late [ inl same ↦ subst P same last | inr none ↦ absurd none ]
    ])

-- where what is kept stays
pub raises_stay : (s : Store) (c d e : Client) (stamp : ℕ) (raises : List Raised) → RestsOn s c d → RestsOn s d e
    → RaisesAll s c d stamp raises → KeepsAll s d e → RaisesAll s c e stamp raises
raises_stay s c d e stamp raises far near before same = record {
  keeps = keeps_less s c e (kept_raised c.region (map raise_piece raises))
      (λ log caller kept. Raises log caller stamp kept (map raise_piece raises)
      (kept_raised c.region (map raise_piece raises) kept) × Unit {0})
      (λ log caller kept. Raises log caller stamp kept (map raise_piece raises)
      (kept_raised c.region (map raise_piece raises) kept)) (λ log caller kept both. both.0)
      (keeps_then s c d e (kept_raised c.region (map raise_piece raises)) (λ kept. kept)
      (λ log caller kept. Raises log caller stamp kept (map raise_piece raises)
      (kept_raised c.region (map raise_piece raises) kept)) (λ log caller kept. Unit {0}) far near
      (λ old new caller kept later. raises_later old new later caller stamp kept (map raise_piece raises)
      (kept_raised c.region (map raise_piece raises) kept)) before.keeps same);
  since = before.since;
  within = all_from (λ (r : Raised). seen_after r.at ≤ length (home_seen e r.colour)) raises
      (λ y i.
      let was = All-contains (λ (r : Raised). seen_after r.at ≤ length (home_seen d r.colour)) raises y before.within
      (contains_in raises y i) in
      let long = prefix_length (home_seen d y.colour) (home_seen e y.colour) (home_more s d e near y.colour) in
      omega (arith, was, long));
  reached = all_from (λ (r : Raised). stamp ≤ clock (home_seen e r.colour)) raises
      (λ y i.
      let was = All-contains (λ (r : Raised). stamp ≤ clock (home_seen d r.colour)) raises y before.reached
      (contains_in raises y i) in
      let up = home_clock s d e near y.colour in
      omega (arith, was, up));
}

abbrev pub pieces_of : List Raised → List RaisePiece
pieces_of raises = map raise_piece raises

abbrev one_raised : ℕ → At → Raised
one_raised k place = record { colour = k; at = place }

-- what is kept of one raise more
raised_keeps : (s : Store) (c d e : Client) (stamp : ℕ) (raises : List Raised) (k : ℕ) (place : At)
    → RestsOn s c d → RestsOn s d e → RaisesAll s c d stamp raises → RaisesOne s d e stamp k place
    → (l : List RaisePiece) → l ≡ pieces_of raises ++ raise_piece (one_raised k place) ∷ []
    → KeepsWith s c e (kept_raised c.region l) (λ log caller kept. Raises log caller stamp kept l (kept_raised c.region l kept))
raised_keeps s c d e stamp raises k place far near before one l is_l =
    subst (λ (l : List RaisePiece). KeepsWith s c e (kept_raised c.region l)
    (λ log caller kept. Raises log caller stamp kept l (kept_raised c.region l kept))) (sym is_l)
    (λ objects kept finished k0.
    let pieces = pieces_of raises in
    let piece = raise_piece (one_raised k place) in
    let r = keeps_then s c d e (kept_raised c.region pieces) (λ x. kept_after_place x d.region k place)
    (λ log caller x. Raises log caller stamp x pieces (kept_raised c.region pieces x))
    (λ log caller x. RaisesClock log caller x stamp k place) far near
    (λ old new caller x later. raises_later old new later caller stamp x pieces (kept_raised c.region pieces x))
    before.keeps one.keeps objects kept finished k0 in
    let is : kept_after_place (kept_raised c.region pieces kept) d.region k place
    ≡ kept_raised c.region (pieces ++ piece ∷ []) kept =
    ap (λ (n : ℕ). kept_after_place (kept_raised c.region pieces kept) n k place) far.same.1
    ∙ sym (raised_more c.region kept pieces piece) in (
      subst (Keeps s e objects) is r.0,
      λ rest fits.
          let q = r.1 rest fits in
          let log = log_seen (seen_of e) rest in
          let caller = caller_of s e objects in
          let own : e.region ≡ c.region = near.same.1 ∙ far.same.1 in
          subst (λ (n : ℕ). Raises log caller stamp kept (pieces ++ piece ∷ []) (kept_raised n (pieces ++ piece ∷ []) kept))
          own
          (raises_more log caller stamp kept pieces piece
          (subst (λ (n : ℕ). Raises log caller stamp kept pieces (kept_raised n pieces kept)) (sym own) q.0)
          (subst (λ (n : ℕ). RaisesClock log caller (kept_raised n pieces kept) stamp k place) (sym own) q.1)),
    ))

-- one more
pub raised_next : (s : Store) (c d e : Client) (stamp : ℕ) (raises : List Raised) (k : ℕ) (place : At)
    → RestsOn s c d → RestsOn s d e → RaisesAll s c d stamp raises → RaisesOne s d e stamp k place
    → RaisesAll s c e stamp (raises ++ record { colour = k; at = place } ∷ [])
raised_next s c d e stamp raises k place far near before one = record {
  keeps = raised_keeps s c d e stamp raises k place far near before one
      (pieces_of (raises ++ one_raised k place ∷ [])) (map-append raise_piece raises (one_raised k place ∷ []));
  since = all_more (λ (r : Raised). length (home_seen c r.colour) ≤ events_until r.at) raises (one_raised k place)
      (λ y i. All-contains (λ (r : Raised). length (home_seen c r.colour) ≤ events_until r.at) raises y before.since
      (contains_in raises y i))
      (let long = prefix_length (home_seen c k) (home_seen d k) (home_more s c d far k) in
      let since = one.since in
      omega (arith, long, since));
  within = all_more (λ (r : Raised). seen_after r.at ≤ length (home_seen e r.colour)) raises (one_raised k place)
      (λ y i.
      let was = All-contains (λ (r : Raised). seen_after r.at ≤ length (home_seen d r.colour)) raises y before.within
      (contains_in raises y i) in
      let long = prefix_length (home_seen d y.colour) (home_seen e y.colour) (home_more s d e near y.colour) in
      omega (arith, was, long)) one.within;
  reached = all_more (λ (r : Raised). stamp ≤ clock (home_seen e r.colour)) raises (one_raised k place)
      (λ y i.
      let was = All-contains (λ (r : Raised). stamp ≤ clock (home_seen d r.colour)) raises y before.reached
      (contains_in raises y i) in
      let up = home_clock s d e near y.colour in
      omega (arith, was, up)) one.reached;
}

-- THE WHOLE

colours_of_pieces : (raises : List Raised) → map (λ (r : RaisePiece). r.colour) (map raise_piece raises) ≡ raised_colours raises
colours_of_pieces [] = refl
colours_of_pieces (r ∷ raises) = ap (λ (l : List ℕ). r.colour ∷ l) (colours_of_pieces raises)

colours_of_syncs : (syncs : List Synced) → map (λ (y : SyncPiece). y.colour) (map sync_piece syncs) ≡ synced_colours syncs
colours_of_syncs [] = refl
colours_of_syncs (y ∷ syncs) = ap (λ (l : List ℕ). y.snapshot.colour ∷ l) (colours_of_syncs syncs)

piece_in : (raises : List Raised) (p : RaisePiece) → In p (map raise_piece raises)
    → (r : Raised) × In r raises × (raise_piece r ≡ p)
piece_in [] p i = absurd i
piece_in (r ∷ raises) p (inl e) = (r, inl refl, e)
piece_in (r ∷ raises) p (inr i) = let x = piece_in raises p i in (x.0, inr x.1, x.2)

in_pieces : (raises : List Raised) (r : Raised) → In r raises → In (raise_piece r) (map raise_piece raises)
in_pieces [] r i = absurd i
in_pieces (x ∷ raises) r (inl e) = inl (ap raise_piece e)
in_pieces (x ∷ raises) r (inr i) = inr (in_pieces raises r i)

pub of_colour : (raises : List Raised) (k : ℕ) → In k (raised_colours raises) → (r : Raised) × In r raises × (r.colour ≡ k)
of_colour [] k i = absurd i
of_colour (r ∷ raises) k (inl e) = (r, inl refl, e)
of_colour (r ∷ raises) k (inr i) = let x = of_colour raises k i in (x.0, inr x.1, x.2)

in_colours : (raises : List Raised) (r : Raised) → In r raises → In r.colour (raised_colours raises)
in_colours [] r i = absurd i
in_colours (x ∷ raises) r (inl e) = inl (ap (λ (z : Raised). z.colour) e)
in_colours (x ∷ raises) r (inr i) = inr (in_colours raises r i)

-- From c the clocks were looked at (b), some colours raised (r), cleared (q) and some synced (p).
module _ (s : Store) (c b r q p : Client) (colours : List ℕ) (stamp : ℕ) (raises : List Raised) (played : List Playing)
    (on1 : RestsOn s c b) (k1 : KeepsAll s c b) (chosen : IsChosen c b colours stamp) (low : c.floor ≤ stamp)
    (above : All (λ k. clock (home_seen c k) ≤ stamp) colours)
    (on2 : RestsOn s b r) (all2 : RaisesAll s b r stamp raises) (on3 : RestsOn s r q) (k3 : KeepsAll s r q)
    (on4 : RestsOn s q p) (k4 : SyncsKeep s q p stamp played)
    (raise_left : List ℕ) (raise_apart : raised_colours raises ++ raise_left ≡ colours)
    (sync_left : List ℕ) (sync_apart : synced_colours (syncs_of played) ++ sync_left ≡ colours) where
  abbrev own : ℕ
  own = p.region

  abbrev pieces : List RaisePiece
  pieces = map raise_piece raises

  abbrev raised : Kept → Kept
  raised kept = kept_raised own pieces kept

  abbrev synced : Kept → Kept
  synced kept = kept_synced own played (raised kept)

  on_b : RestsOn s b p
  on_b = rests_then s b r p on2 (rests_then s r q p on3 on4)

  pub on_p : RestsOn s c p
  on_p = rests_then s c b p on1 on_b

  at_b : b.region ≡ own
  at_b = sym on_b.same.1

  at_c : c.region ≡ own
  at_c = sym on_p.same.1

  at_q : q.region ≡ own
  at_q = sym on4.same.1

  abbrev Before : Log → Caller → Kept → Type 0
  Before log caller kept = Raises log caller stamp kept pieces (raised kept)

  pub keeps_q : KeepsWith s c q raised (λ log caller kept. (Unit {0} × Before log caller kept) × Unit {0})
  keeps_q =
      let raises_here = subst (λ (n : ℕ). KeepsWith s b r (kept_raised n pieces)
      (λ log caller kept. Raises log caller stamp kept pieces (kept_raised n pieces kept))) at_b all2.keeps in
      let one = keeps_then s c b r (λ kept. kept) raised (λ log caller kept. Unit {0}) Before on1 on2
      (λ old new caller kept later x. tt) k1 raises_here in
      keeps_then s c r q raised (λ kept. kept) (λ log caller kept. Unit {0} × Before log caller kept)
      (λ log caller kept. Unit {0}) (rests_then s c b r on1 on2) on3
      (λ old new caller kept later x. (tt, raises_later old new later caller stamp kept pieces (raised kept) x.1)) one k3

  pub keeps_all : KeepsWith s c p synced (λ log caller kept.
      ((Unit {0} × Before log caller kept) × Unit {0}) × AreSyncs log caller stamp (raised kept) played)
  keeps_all =
      let syncs_here = subst (λ (n : ℕ). KeepsWith s q p (kept_synced n played)
      (λ log caller kept. AreSyncs log caller stamp kept played)) at_q k4 in
      keeps_then s c q p raised (λ kept. kept_synced own played kept)
      (λ log caller kept. (Unit {0} × Before log caller kept) × Unit {0})
      (λ log caller kept. AreSyncs log caller stamp kept played)
      (rests_then s c r q (rests_then s c b r on1 on2) on3) on4
      (λ old new caller kept later x.
      ((tt, raises_later old new later caller stamp kept pieces (raised kept) x.0.1), tt)) keeps_q syncs_here

  among : (piece : RaisePiece) → In piece pieces → Contains colours piece.colour
  among piece i =
      let x = piece_in raises piece i in
      subst (λ (z : RaisePiece). Contains colours z.colour) x.2
      (contains_in colours x.0.colour (subst (In x.0.colour) raise_apart
      (in_left x.0.colour (raised_colours raises) raise_left (in_colours raises x.0 x.1))))

  -- what was seen at each time of the region's colours
  seen_c : (k : ℕ) → seen_of c own k ≡ home_seen c k
  seen_c k = ap (λ (n : ℕ). seen_of c n k) (sym at_c)

  b_more : (k : ℕ) → IsPrefix (home_seen b k) (home_seen p k)
  b_more k = home_more s b p on_b k

  c_more : (k : ℕ) → IsPrefix (home_seen c k) (home_seen p k)
  c_more k = home_more s c p on_p k

  -- a clock that was looked at before a colour's raise
  since_b : (raise : Raised) → In raise raises → length (home_seen b raise.colour) ≤ events_until raise.at
  since_b raise i = All-contains (λ (x : Raised). length (home_seen b x.colour) ≤ events_until x.at) raises raise all2.since
      (contains_in raises raise i)

  module _ (objects : List Object) (kept : Kept) (keeps : Keeps s c objects kept) where
    abbrev caller : Caller
    caller = caller_of s p objects

    by_c : IsKeptBy (seen_of c) caller kept
    by_c = subst (λ (z : Caller). IsKeptBy (seen_of c) z kept) (same_caller s c p objects on_p.same) keeps.by

    on : SeesOn caller (seen_of c) (seen_of p)
    on = sees_then s c p on_p objects

    seen_low : (k : ℕ) → kept.seen own k ≤ length (home_seen c k)
    seen_low k =
        let a = by_c.seen_within own k in
        let same = ap length (seen_c k) in
        omega (arith, a, same)

    above_floor : kept.floor ≤ stamp
    above_floor = let e = keeps.floor in let l = low in omega (arith, e, l)

    above_clocks : (rest : Rest) → IsAboveClocks (log_seen (seen_of p) rest) caller kept colours stamp
    above_clocks rest = all_from (λ k. (kept.seen own k ≤ length (home_seen p k))
        × (clock (take (kept.seen own k) (home_seen p k)) ≤ stamp)) colours
        (λ k i.
        let long = prefix_length (home_seen c k) (home_seen p k) (c_more k) in
        let fit = seen_low k in
        let top = All-contains (λ m. clock (home_seen c m) ≤ stamp) colours k above (contains_in colours k i) in
        let less = clock_then (home_seen c k) (home_lawful_c k) (kept.seen own k) in (
          omega (arith, long, fit),
          subst (λ (l : List Entry). clock l ≤ stamp)
              (sym (prefix_take (home_seen c k) (home_seen p k) (kept.seen own k) (c_more k) fit)) (omega (arith, less, top)),
        )) where
          home_lawful_c : (k : ℕ) → IsColumnHistory own (length s.regions) (dated own (home_seen c k))
          home_lawful_c k =
              lawful_beginning own (length s.regions) (home_seen c k) (c_more k).0
              (subst (λ (l : List Entry). IsColumnHistory own (length s.regions) (dated own l)) (sym (c_more k).1)
              (home_lawful s c p on_p k))

          clock_then : (h : List Entry) → IsColumnHistory own (length s.regions) (dated own h) → (n : ℕ)
              → clock (take n h) ≤ clock h
          clock_then h lawful n = clock_grows own (length s.regions) (take n h) h (drop n h, take-append-drop n h) lawful

    -- THE ANSWER

    chosen_there : (rest : Rest) → raise_left ≡ [] → IsReadStamp (log_seen (seen_of p) rest) caller kept pieces stamp
    chosen_there rest whole = elim chosen [
      | inl is ↦ inl (is ∙ sym keeps.floor)
      | inr looked ↦
          (let k = looked.0 in
          let x = of_colour raises k (subst (In k)
          (sym raise_apart ∙ (ap (λ (l : List ℕ). raised_colours raises ++ l) whole ∙ append-nil (raised_colours raises)))
          (in_contains colours k looked.1)) in
          let events = looked.2 in
          let fit = seen_low k in
          let since = looked.3 in
          let there = looked.4 in
          let until = since_b x.0 x.1 in
          let same = ap (λ (n : ℕ). length (home_seen b n)) x.2 in
          inr (
            raise_piece x.0,
            contains_in pieces (raise_piece x.0) (in_pieces raises x.0 x.1),
            events,
            subst (λ (n : ℕ). kept.seen own n ≤ events) (sym x.2) (omega (arith, fit, since)),
            omega (arith, there, same, until),
            looked.5 ∙ (ap clock (sym (prefix_take (home_seen b k) (home_seen p k) events (b_more k) there))
                ∙ ap (λ (n : ℕ). clock (take events (home_seen p n))) (sym x.2)),
          ))
    ]

    whole_colours : raise_left ≡ [] → map (λ (r : RaisePiece). r.colour) pieces ≡ colours
    whole_colours all_raised =
        colours_of_pieces raises
        ∙ (sym (append-nil (raised_colours raises))
        ∙ (ap (λ (l : List ℕ). raised_colours raises ++ l) (sym all_raised) ∙ raise_apart))

    pub reads_at : (rest : Rest) → raise_left ≡ [] → sync_left ≡ [] → Before (log_seen (seen_of p) rest) caller kept
        → AreSyncs (log_seen (seen_of p) rest) caller stamp (raised kept) played
        → ReadsAt (log_seen (seen_of p) rest) caller kept colours stamp pieces (map sync_piece (syncs_of played))
        (with_floor (synced kept) stamp)
    reads_at rest all_raised all_synced raising syncing = record {
      raised_colours = whole_colours all_raised;
      synced_colours = colours_of_syncs (syncs_of played)
          ∙ (sym (append-nil (synced_colours (syncs_of played)))
          ∙ (ap (λ (l : List ℕ). synced_colours (syncs_of played) ++ l) (sym all_synced) ∙ sync_apart));
      above_floor = above_floor;
      above_clocks = above_clocks rest;
      chosen = chosen_there rest all_raised;
      raised = raised kept;
      raising = raising;
      synced = synced kept;
      syncing = clear_syncs (log_seen (seen_of p) rest) caller stamp (raised kept) played syncing;
      after_is = refl;
    }

    -- NO ANSWER

    abbrev places : ℕ → List ℕ
    places k = events_at k pieces

    abbrev pub unshown : Kept
    unshown = record kept { floor = (synced kept).floor; starts = (synced kept).starts }

    abbrev pub hidden : Kept
    hidden = with_made unshown own places

    chosen_so : (rest : Rest) → (stamp ≡ kept.floor)
        ⊎ ((k : ℕ) × Contains colours k × (events : ℕ) × (kept.seen own k ≤ events) × (events ≤ length (home_seen p k))
        × All (λ place. events ≤ place) (places k) × (stamp ≡ clock (take events (home_seen p k))))
    chosen_so rest = elim chosen [
      | inl is ↦ inl (is ∙ sym keeps.floor)
      | inr looked ↦
          (let k = looked.0 in
          let events = looked.2 in
          let fit = seen_low k in
          let since = looked.3 in
          let there = looked.4 in
          let long = prefix_length (home_seen b k) (home_seen p k) (b_more k) in
          inr (
            k,
            looked.1,
            events,
            omega (arith, fit, since),
            omega (arith, there, long),
            all_from (λ place. events ≤ place) (places k)
                (λ place i.
                let x = place_in k pieces place i in
                let z = piece_in raises x.0 x.1 in
                let until = since_b z.0 z.1 in
                let colour = ap (λ (y : RaisePiece). y.colour) z.2 ∙ x.2 in
                let at = ap (λ (y : RaisePiece). events_until y.at) z.2 ∙ ap events_until x.3 in
                let same = ap (λ (n : ℕ). length (home_seen b n)) colour in
                omega (arith, there, same, until, at)),
            looked.5 ∙ ap clock (sym (prefix_take (home_seen b k) (home_seen p k) events (b_more k) there)),
          ))
    ]

    pub hides_read : (rest : Rest) → Before (log_seen (seen_of p) rest) caller kept
        → AreSyncs (log_seen (seen_of p) rest) caller stamp (raised kept) played
        → (end : Kept) → (end ≡ hidden) ⊎ (end ≡ with_made (with_floor unshown stamp) own places)
        → HidesRead (log_seen (seen_of p) rest) caller kept colours end
    hides_read rest raising syncing end is = record {
      stamp = stamp;
      places = places;
      raises = hidden_raises (log_seen (seen_of p) rest) caller stamp kept (raised kept) pieces colours among raising;
      above_floor = above_floor;
      above_clocks = above_clocks rest;
      chosen = chosen_so rest;
      synced = unshown;
      syncing = subst (λ (l : List ℕ). HidesSyncs (log_seen (seen_of p) rest) caller kept l unshown) sync_apart
          (hides_more (log_seen (seen_of p) rest) caller kept unshown unshown (synced_colours (syncs_of played)) sync_left
          (hides_syncs (log_seen (seen_of p) rest) caller stamp kept (raised kept) played
          (raised_less (log_seen (seen_of p) rest) caller stamp kept kept pieces (raised kept)
          (record { floor = refl; starts = refl; seen = λ m. omega arith; known = λ m. omega arith }) raising) syncing)
          (hides_none (log_seen (seen_of p) rest) caller unshown sync_left));
      after_is = is;
    }

    -- the play of the next colour was refused
    pub refuses_read : Finished c → raise_left ≡ [] → (shown : ℕ) (base : Counts) (behind : List ℕ)
        → sync_left ≡ shown ∷ behind
        → KeepsWith s q p (kept_synced q.region played) (λ log caller x.
        IsTrimmed log caller (kept_synced caller.own played x) shown base) → (rest : Rest) → FitsHolds (holds_of p) rest
        → Before (log_seen (seen_of p) rest) caller kept → AreSyncs (log_seen (seen_of p) rest) caller stamp (raised kept) played
        → RefusesRead (log_seen (seen_of p) rest) caller kept colours shown base (synced kept)
    refuses_read finished all_raised shown base behind next w rest fits raising syncing = record {
      stamp = stamp;
      raises = pieces;
      syncs = map sync_piece (syncs_of played);
      behind = behind;
      raised_colours = whole_colours all_raised;
      synced_before = ap (λ (l : List ℕ). l ++ shown ∷ behind) (colours_of_syncs (syncs_of played))
          ∙ (ap (λ (l : List ℕ). synced_colours (syncs_of played) ++ l) (sym next) ∙ sync_apart);
      above_floor = above_floor;
      above_clocks = above_clocks rest;
      chosen = chosen_there rest all_raised;
      raised = raised kept;
      raising = raising;
      syncing = clear_syncs (log_seen (seen_of p) rest) caller stamp (raised kept) played syncing;
      trimmed = (w objects (raised kept) ((rests_then s c r q (rests_then s c b r on1 on2) on3).finished finished)
          (keeps_q objects kept finished keeps).0).1 rest fits;
    }

    -- it keeps what is kept of it
    place_seen : (k place : ℕ) → In place (places k) → place + 1 ≤ length (home_seen p k)
    place_seen k place i =
        let x = place_in k pieces place i in
        let z = piece_in raises x.0 x.1 in
        let w = All-contains (λ (y : Raised). seen_after y.at ≤ length (home_seen r y.colour)) raises z.0 all2.within
        (contains_in raises z.0 z.1) in
        let colour = ap (λ (y : RaisePiece). y.colour) z.2 ∙ x.2 in
        let at = ap (λ (y : RaisePiece). seen_after y.at) z.2 ∙ ap seen_after x.3 in
        let on_r = rests_then s r q p on3 on4 in
        let long = prefix_length (home_seen r z.0.colour) (home_seen p z.0.colour) (home_more s r p on_r z.0.colour) in
        let same = ap (λ (n : ℕ). length (home_seen p n)) colour in
        omega (arith, w, at, long, same)

    module _ (after : Keeps s p objects (synced kept)) where
      made_is : (m k : ℕ) → (synced kept).made m k ≡ hidden.made m k
      made_is m k = elim (cases_eq m own) [
        | inl same ↦
            ap (λ (f : ℕ → ℕ → List ℕ). f m k) (synced_same own played (raised kept)).made
            ∙ (ap (λ (n : ℕ). (raised kept).made n k) same
            ∙ (raised_here own pieces kept k
            ∙ ap (λ (f : ℕ → List ℕ). f k) (sym (if_true (m == own) (λ colour. kept.made own colour ++ places colour)
            (kept.made m) (eq-eqb m own same)))))
        | inr ne ↦
            ap (λ (f : ℕ → ℕ → List ℕ). f m k) (synced_same own played (raised kept)).made
            ∙ (raised_away own pieces kept m k ne
            ∙ ap (λ (f : ℕ → List ℕ). f k) (sym (if_false (m == own) (λ colour. kept.made own colour ++ places colour)
            (kept.made m) (ne_eqb m own ne))))
      ]

      seen_fit : (m k : ℕ) → hidden.seen m k ≤ length (seen_of p m k)
      seen_fit m k = elim (cases_eq m own) [
        | inl same ↦
            subst (λ (n : ℕ). n ≤ length (seen_of p m k))
            (ap (λ (f : ℕ → ℕ). f k) (sym (if_true (m == own) (λ colour. seen_past (kept.seen own colour) (places colour))
            (kept.seen m) (eq-eqb m own same))))
            (subst (λ (n : ℕ). seen_past (kept.seen own k) (places k) ≤ length (seen_of p n k)) (sym same)
            (past_within (kept.seen own k) (length (home_seen p k)) (places k)
            (let fit = seen_low k in let long = prefix_length (home_seen c k) (home_seen p k) (c_more k) in
            omega (arith, fit, long)) (place_seen k)))
        | inr ne ↦
            subst (λ (n : ℕ). n ≤ length (seen_of p m k))
            (ap (λ (f : ℕ → ℕ). f k) (sym (if_false (m == own) (λ colour. seen_past (kept.seen own colour) (places colour))
            (kept.seen m) (ne_eqb m own ne))))
            (let fit = by_c.seen_within m k in
            let long = prefix_length (seen_of c m k) (seen_of p m k) (on.more m k) in
            omega (arith, fit, long))
      ]

      lines : (k : ℕ) → IsPrefix (line (seen_of c own k)) (line (seen_of p own k))
      lines k = (log_then s c p on_p (record { nodes = λ n. []; rows = λ n. [] })).lines own k

      risen : kept.floor ≤ (synced kept).floor
      risen =
          let a = (synced_same own played (raised kept)).floor in
          let b0 = (raised_same own pieces kept).floor in
          omega (arith, a, b0)

      pub keeps_hidden : Keeps s p objects hidden
      keeps_hidden = record {
        by = record {
          seen_within = seen_fit;
          known_within = λ k.
              let a = by_c.known_within k in
              let l = prefix_length (line (seen_of c own k)) (line (seen_of p own k)) (lines k) in
              omega (arith, a, l);
          known_under = λ k i key lt there.
              let a = by_c.known_within k in
              let was = by_c.known_under k i key lt (prefix_back (line (seen_of c own k)) (line (seen_of p own k)) i key (lines k)
              (omega (arith, lt, a)) there) in
              let up = risen in
              omega (arith, was, up);
          starts_under = after.by.starts_under;
          starts_reached = after.by.starts_reached;
          steps_made = λ m k. after.by.steps_made m k ∙ made_is m k;
        };
        floor = after.floor;
        ids = sym ((synced_same own played (raised kept)).ids ∙ (raised_same own pieces kept).ids) ∙ after.ids;
        rows = sym ((synced_same own played (raised kept)).rows ∙ (raised_same own pieces kept).rows) ∙ after.rows;
        starts = after.starts;
      }
