-- Syncs of several colours, one after another.
use Rattle.std.proofs.Common.{◌≡◌, ◌≢◌, ℕ, ◌<◌, ◌≤◌, false, List, [], ◌∷◌, ◌++◌, length, take, Option, Some, refl, ap, sym, subst, ◌∙◌, inl, inr, arith, append_assoc, append-nil}
use Rattle.std.specs.Prelude.{not, slice_get}
use Rattle.std.proofs.lemmas.Bool.{and_from, cases_lt}
use Rattle.std.proofs.lemmas.List.{take_all, map-append}
use Rattle.std.proofs.lemmas.List.Elements.{All-contains}
use Rattle.std.proofs.lemmas.Option.{slice_get_within}
use Rattle.log_node.specs.declared.ids.Colours.{Colours}
use Rattle.log_node.specs.Order.{key_below}
use Rattle.log_node.specs.Sets.{members}
use Rattle.log_node.specs.Standings.{Standing}
use Rattle.log_node.proofs.CallerLemmas.{stamp-key}
use Rattle.col_core.specs.declared.Entry.{Entry}
use Rattle.col_core.specs.History.{entries, line}
use Rattle.col_core.specs.Ids.{is_open_below}
use Rattle.col_core.specs.Keeping.{Kept, kept_after_sync}
use Rattle.col_core.specs.Log.{Log}
use Rattle.col_core.specs.RegionOrder.{IsClearUpTo}
use Rattle.col_core.proofs.CallerLemmas.{In, contains_in, in_append, in_filter-back, in_right, in_slice}
use Rattle.lawful_run.specs.Callers.{Caller}
use Rattle.lawful_run.specs.Reads.{Syncs, ShowsPlayed, greatest_stamp, greatest_played, IsTrimmed}
use Rattle.lawful_run.proofs.CallerLemmas.{prefix_get, prefix_length, prefix_take, stamps_played}
use Rattle.log_client.specs.declared.store.Store.{Store}
use Rattle.log_client.specs.declared.client.Client.{Client}
use Rattle.log_client.specs.declared.track.Track.{Track}
use Rattle.log_client.specs.declared.answers.Synced.{Synced}
use Rattle.log_client.specs.declared.faults.SyncFault.{SyncFault}
use Rattle.log_client.specs.declared.faults.SyncFault.TheVariants as sync_faults
use Rattle.client_law.specs.Knowing.{log_seen}
use Rattle.log_client.specs.Clients.{seen_of, line_in, own_line, caller_of, Keeps}
use Rattle.log_client.specs.Calls.{nodes_played}
use Rattle.log_client.specs.Reading.{RestsOn, KeepsWith, IsCleared, key_above, home_seen, keys_of, kept_after_playing, PlaysColour, RefusesColour, Playing, AreSyncs, AreCleared, HoldsLine, SyncsKeep, SyncsAll, SyncsEach, SyncsFirst, kept_synced, syncs_of, synced_colours}
use Rattle.log_client.proofs.Going.Explaining.{rests_then, keeps_less, keeps_then}
use Rattle.log_client.proofs.Read.HiddenReads.{all_from, are_syncs_later, synced_more, syncs_more}
use Rattle.log_client.proofs.Read.ClearedHolds.{cleared_longer}
use Rattle.log_client.proofs.Read.ReadStamps.{home_more, home_lawful}
use Rattle.log_client.proofs.Append.Several.{member_once}

-- CLEARED

-- what is cleared has no open entry up to the stamp
pub clear_up_to : (stamp : ℕ) (history : List Entry) → IsCleared stamp history → IsClearUpTo stamp history
clear_up_to stamp history is =
    all_from (λ (e : Standing). e.settled ≡ false → stamp < e.key.stamp) (entries history) each where
      each : (e : Standing) → In e (entries history) → e.settled ≡ false → stamp < e.key.stamp
      each e i opened = elim (cases_lt stamp e.key.stamp) [
        | inl less ↦ less
        | inr more ↦
            absurd (subst (In e) is.clear (in_filter-back (is_open_below (key_above stamp)) e (entries history) i
            (and_from (not e.settled) (key_below e.key (key_above stamp)) (ap not opened)
            (stamp-key e.key (key_above stamp) (omega (arith, more))))))
      ]

-- MEMBERS

at_end : (xs : List ℕ) (k : ℕ) (ys : List ℕ) → slice_get (xs ++ k ∷ ys) (length xs) ≡ Some k
at_end [] k ys = refl
at_end (x ∷ xs) k ys = at_end xs k ys

pub apart_from : (xs : List ℕ) (k : ℕ) (ys : List ℕ) (set : Colours) → xs ++ k ∷ ys ≡ members set → (m : ℕ) → In m xs → m ≢ k
apart_from xs k ys set is m i same =
    let n = in_slice xs m i in
    let lt = slice_get_within xs n.0 m n.1 in
    let early : slice_get (members set) n.0 ≡ Some k =
    ap (λ (l : List ℕ). slice_get l n.0) (sym is)
    ∙ (prefix_get xs (xs ++ k ∷ ys) n.0 m (k ∷ ys, refl) n.1 ∙ ap (λ (x : ℕ). let o : Option ℕ = Some x in o) same) in
    let late : slice_get (members set) (length xs) ≡ Some k =
    ap (λ (l : List ℕ). slice_get l (length xs)) (sym is) ∙ at_end xs k ys in
    let e = member_once set n.0 (length xs) k early late in
    let f : ⊥ = omega (arith, lt, e) in f

-- the colour of a sync is one of those that were synced
pub synced_in : (z : Synced) (zs : List Synced) → In z zs → In z.snapshot.colour (synced_colours zs)
synced_in z [] i = absurd i
synced_in z (w ∷ zs) (inl same) = inl (ap (λ (v : Synced). v.snapshot.colour) same)
synced_in z (w ∷ zs) (inr i) = inr (synced_in z zs i)

-- THE SYNCS

-- The first of these colours were synced.
pub record SyncedFirst (s : Store) (c d : Client) (left colours : List ℕ) (syncs : List Synced) : Type 0 where
  pub played : List Playing
  pub answered : syncs_of played ≡ syncs
  pub apart : synced_colours syncs ++ left ≡ colours
  pub all : (stamp : ℕ) → AreCleared c stamp colours → SyncsAll s c d stamp played

pub none_synced : (s : Store) (c : Client) (colours : List ℕ) → SyncedFirst s c c colours colours []
none_synced s c colours = record {
  played = [];
  answered = refl;
  apart = refl;
  all = λ stamp cleared. record {
    keeps = λ objects kept finished keeps. (keeps, λ rest fits. tt);
    lines = λ k d lt. absurd (let f : ⊥ = omega (arith, lt) in f);
  };
}

module _ (s : Store) (c d e : Client) (k : ℕ) (y : Synced) (far : RestsOn s c d) (near : RestsOn s d e)
    (p : PlaysColour s d e k y) where
  abbrev playing : Playing
  playing = record { sync = y; stamp = greatest_stamp (nodes_played e y.snapshot.colour y) }

  -- the sync, of the log that is then seen
  one_sync : (stamp : ℕ) → IsCleared stamp (home_seen e k) → (log : Log) (caller : Caller) (kept : Kept)
      → log.histories caller.own k ≡ home_seen e k
      → Syncs log caller kept k y.events y.snapshot.counts
      → ShowsPlayed log caller kept k y.events y.snapshot.counts (nodes_played e k y)
      → AreSyncs log caller stamp kept (playing ∷ [])
  one_sync stamp cleared log caller kept histories syncs shows =
      let whole : take y.events (log.histories caller.own k) ≡ home_seen e k =
      ap (take y.events) histories ∙ take_all y.events (home_seen e k) (let l = p.looked in omega (arith, l)) in
      let c_is = sym p.of_colour in (
        subst (λ (m : ℕ). Syncs log caller kept m y.events y.snapshot.counts) c_is syncs,
        subst (λ (m : ℕ). IsClearUpTo stamp (take y.events (log.histories caller.own m))) c_is
            (subst (IsClearUpTo stamp) (sym whole) (clear_up_to stamp (home_seen e k) cleared)),
        subst (λ (m : ℕ). greatest_stamp (nodes_played e m y)
            ≡ greatest_played log caller kept m y.events y.snapshot.counts) c_is
            (stamps_played log caller kept k y.events y.snapshot.counts (nodes_played e k y) shows),
        tt,
      )

  -- the lines that were held are held still
  line_on : (stamp : ℕ) (z : Synced) → z.snapshot.colour ≢ k → HoldsLine d stamp z → HoldsLine e stamp z
  line_on stamp z ne was =
      let m = z.snapshot.colour in
      let more = home_more s d e near m in
      let long = prefix_length (home_seen d m) (home_seen e m) more in
      let there = was.0 in (
        omega (arith, long, there),
        ap (λ (o : Option Track). keys_of (line_in o)) (p.others m ne)
            ∙ (was.1 ∙ ap line (sym (prefix_take (home_seen d m) (home_seen e m) z.events more was.0))),
        subst (IsCleared stamp) (sym (prefix_take (home_seen d m) (home_seen e m) z.events more was.0)) was.2,
      )

  line_here : (stamp : ℕ) → IsCleared stamp (home_seen e k) → HoldsLine e stamp y
  line_here stamp cleared =
      let looked = p.looked in
      let whole = take_all y.events (home_seen e k) (omega (arith, looked)) in
      subst (λ (m : ℕ). (y.events ≤ length (home_seen e m))
      × (keys_of (own_line e m) ≡ line (take y.events (home_seen e m)))
      × IsCleared stamp (take y.events (home_seen e m))) (sym p.of_colour) (
        omega (arith, looked),
        p.line ∙ ap line (sym whole),
        subst (IsCleared stamp) (sym whole) cleared,
      )

  pub synced_next : (left : List ℕ) (set : Colours) (syncs : List Synced)
      → SyncedFirst s c d (k ∷ left) (members set) syncs
      → SyncedFirst s c e left (members set) (syncs ++ y ∷ [])
  synced_next left set syncs before = record {
    played = before.played ++ playing ∷ [];
    answered = map-append (λ (q : Playing). q.sync) before.played (playing ∷ [])
        ∙ ap (λ (l : List Synced). l ++ y ∷ []) before.answered;
    apart = ap (λ (l : List ℕ). l ++ left) (map-append (λ (z : Synced). z.snapshot.colour) syncs (y ∷ []))
        ∙ (ap (λ (m : ℕ). (synced_colours syncs ++ m ∷ []) ++ left) p.of_colour
        ∙ (append_assoc (synced_colours syncs) (k ∷ []) left ∙ before.apart));
    all = λ stamp cleared. record {
      keeps = keeps_all stamp (cleared_there stamp cleared) (before.all stamp cleared);
      lines = all_from (HoldsLine e stamp) (syncs_of (before.played ++ playing ∷ []))
          (λ z i. elim (in_append z (syncs_of before.played) (y ∷ [])
          (subst (In z) (map-append (λ (q : Playing). q.sync) before.played (playing ∷ [])) i)) [
            | inl early ↦
                line_on stamp z
                (apart_from (synced_colours syncs) k left set before.apart z.snapshot.colour
                (synced_in z syncs (subst (In z) before.answered early)))
                (All-contains (HoldsLine d stamp) (syncs_of before.played) z (before.all stamp cleared).lines
                (contains_in (syncs_of before.played) z early))
            | inr late ↦ elim late [ inl same ↦ subst (HoldsLine e stamp) same (line_here stamp (cleared_there stamp cleared)) | inr none ↦ absurd none ]
          ]);
    };
  } where
    cleared_there : (stamp : ℕ) → AreCleared c stamp (members set) → IsCleared stamp (home_seen e k)
    cleared_there stamp cleared =
        let all = rests_then s c d e far near in
        cleared_longer e.region (length s.regions) stamp (home_seen c k) (home_seen e k) (home_more s c e all k)
        (home_lawful s c e all k)
        (All-contains (λ m. IsCleared stamp (home_seen c m)) (members set) k cleared
        (contains_in (members set) k (subst (In k) before.apart (in_right k (synced_colours syncs) (k ∷ left) (inl refl)))))

    keeps_all : (stamp : ℕ) → IsCleared stamp (home_seen e k) → SyncsAll s c d stamp before.played
        → KeepsWith s c e (kept_synced c.region (before.played ++ playing ∷ [])) (λ log caller kept.
        AreSyncs log caller stamp kept (before.played ++ playing ∷ []))
    keeps_all stamp cleared all objects kept finished keeps =
        let r = keeps_then s c d e (kept_synced c.region before.played) (kept_after_playing e y)
        (λ log caller kept. AreSyncs log caller stamp kept before.played)
        (λ log caller kept. Syncs log caller kept k y.events y.snapshot.counts
        × ShowsPlayed log caller kept k y.events y.snapshot.counts (nodes_played e k y)) far near
        (λ old new caller kept later. are_syncs_later old new later caller stamp kept before.played) all.keeps p.keeps objects
        kept finished keeps in
        let region = near.same.1 ∙ far.same.1 in
        let is : kept_after_playing e y (kept_synced c.region before.played kept)
        ≡ kept_synced c.region (before.played ++ playing ∷ []) kept =
        ap (λ (n : ℕ). kept_after_sync (kept_synced c.region before.played kept) n y.snapshot.colour y.events y.snapshot.counts
        (greatest_stamp (nodes_played e y.snapshot.colour y))) region
        ∙ sym (synced_more c.region kept before.played playing) in (
          subst (Keeps s e objects) is r.0,
          λ rest fits.
              let q = r.1 rest fits in
              let caller = caller_of s e objects in
              let log = log_seen (seen_of e) rest in
              syncs_more log caller stamp kept before.played playing q.0
              (subst (λ (n : ℕ). AreSyncs log caller stamp (kept_synced n before.played kept) (playing ∷ [])) (sym region)
              (one_sync stamp cleared log caller (kept_synced c.region before.played kept) refl q.1.0 q.1.1)),
        )

-- ALL OF THEM

pub each_synced : (s : Store) (c d : Client) (colours : List ℕ) (syncs : List Synced)
    → SyncedFirst s c d [] colours syncs → SyncsEach s c d colours syncs
each_synced s c d colours syncs f =
    (f.played, f.answered, sym (append-nil (synced_colours syncs)) ∙ f.apart, f.all)

-- one was refused
module _ (s : Store) (c d e : Client) (k : ℕ) (left colours : List ℕ) (syncs : List Synced) (far : RestsOn s c d)
    (near : RestsOn s d e) (before : SyncedFirst s c d (k ∷ left) colours syncs) where
  -- what is kept then, where what is kept stays
  stay : (Q : Log → Caller → Kept → Type 0) → KeepsWith s d e (λ kept. kept) Q → (stamp : ℕ) → AreCleared c stamp colours
      → KeepsWith s c e (kept_synced c.region before.played) (λ log caller kept.
      AreSyncs log caller stamp kept before.played × Q log caller (kept_synced c.region before.played kept))
  stay Q same stamp cleared =
      keeps_then s c d e (kept_synced c.region before.played) (λ kept. kept)
      (λ log caller kept. AreSyncs log caller stamp kept before.played) Q far near
      (λ old new caller kept later. are_syncs_later old new later caller stamp kept before.played)
      (before.all stamp cleared).keeps same

  less : (Q : Log → Caller → Kept → Type 0) → KeepsWith s d e (λ kept. kept) Q → (stamp : ℕ) → AreCleared c stamp colours
      → SyncsKeep s c e stamp before.played
  less Q same stamp cleared =
      keeps_less s c e (kept_synced c.region before.played) (λ log caller kept.
      AreSyncs log caller stamp kept before.played × Q log caller (kept_synced c.region before.played kept))
      (λ log caller kept. AreSyncs log caller stamp kept before.played) (λ log caller kept both. both.0)
      (stay Q same stamp cleared)

  apart : synced_colours (syncs_of before.played) ++ (k ∷ left) ≡ colours
  apart = ap (λ (l : List Synced). synced_colours l ++ (k ∷ left)) before.answered ∙ before.apart

  pub first_synced : (fault : SyncFault) → RefusesColour s d e k fault → SyncsFirst s c e colours fault
  first_synced (sync_faults.Trimmed shown base) why = record {
    played = before.played;
    left = k ∷ left;
    apart = apart;
    all = less (λ log caller kept. IsTrimmed log caller kept k base) why.1;
    why = λ stamp cleared. (
      left,
      ap (λ (n : ℕ). n ∷ left) (sym why.0),
      λ objects kept finished keeps.
          let r = stay (λ log caller kept. IsTrimmed log caller kept k base) why.1 stamp cleared objects kept finished keeps in (
            r.0,
            λ rest fits.
                let q = r.1 rest fits in
                subst (λ (n : ℕ). IsTrimmed (log_seen (seen_of e) rest) (caller_of s e objects)
                (kept_synced n before.played kept) shown base) (sym (near.same.1 ∙ far.same.1))
                (subst (λ (n : ℕ). IsTrimmed (log_seen (seen_of e) rest) (caller_of s e objects)
                (kept_synced c.region before.played kept) n base) (sym why.0) q.1),
          ),
    );
  }
  first_synced sync_faults.NoMemory why = record {
    played = before.played;
    left = k ∷ left;
    apart = apart;
    all = less (λ log caller kept. Unit {0}) why;
    why = λ stamp cleared. tt;
  }

-- or there was no memory for the answer
pub first_answered : (s : Store) (c d : Client) (left colours : List ℕ) (syncs : List Synced)
    → SyncedFirst s c d left colours syncs → SyncsFirst s c d colours sync_faults.NoMemory
first_answered s c d left colours syncs f = record {
  played = f.played;
  left = left;
  apart = ap (λ (l : List Synced). synced_colours l ++ left) f.answered ∙ f.apart;
  all = λ stamp cleared. (f.all stamp cleared).keeps;
  why = λ stamp cleared. tt;
}
