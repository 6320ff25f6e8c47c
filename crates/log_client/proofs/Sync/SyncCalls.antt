-- A sync as the client's call leaves it.
use Rattle.std.proofs.Common.{◌≡◌, ℕ, zero, suc, ◌<◌, List, [], ◌∷◌, ◌++◌, length, Some, refl, ap, sym, subst, ◌∙◌, arith}
use Rattle.std.specs.Prelude.{slice_get, slice_set, slice_index_or, max}
use Rattle.std.specs.Vec.{with_item}
use Rattle.std.proofs.lemmas.Option.{slice_get_read}
use Rattle.log_node.specs.Seen.{PlacedNode}
use Rattle.chain_store.specs.declared.hold.Hold.{Hold}
use Rattle.chain_store.specs.declared.region.Region.{Region}
use Rattle.chain_store.specs.Holds.{IsHold, SameBut, SeesMoreIn, seen_in}
use Rattle.log_client.specs.declared.store.Store.{Store}
use Rattle.log_client.specs.declared.client.Client.{Client}
use Rattle.log_client.specs.declared.track.Track.{Track}
use Rattle.log_client.specs.declared.answers.Synced.{Synced}
use Rattle.log_client.specs.declared.faults.SyncFault.{SyncFault}
use Rattle.log_client.specs.declared.faults.SyncFault.TheVariants as sync_faults
use Rattle.col_core.specs.Keeping.{kept_after_sync}
use Rattle.lawful_run.specs.Reads.{greatest_stamp}
use Rattle.log_client.specs.Fits.{HaveGoneOn}
use Rattle.log_client.specs.Clients.{holds_of, tracks_of, IsClient, IsTrack, Finished, Helps}
use Rattle.log_client.proofs.Lists.{got}
use Rattle.log_client.specs.Inside.{PlaysOn, IsRefusedOn}
use Rattle.log_client.specs.Calls.{IsExplained, IsOfColumn, SyncsAs, SyncRefused, AnswersSync, nodes_played}
use Rattle.log_client.specs.Reading.{PlaysColour, RefusesColour, kept_after_playing}
use Rattle.log_client.specs.Growing.{HasGrown}
use Rattle.log_client.proofs.Going.Growing.{grown_at, grown_same}
use Rattle.log_client.proofs.Going.AtHome.{ChangesHome, gone_looked, have_gone_on, are_regions}
use Rattle.log_client.proofs.Going.Looked.{finished_stays, made_looked}
use Rattle.log_client.proofs.Going.Helping.{helped_at_home, idle_looked}
use Rattle.log_client.proofs.Sync.SyncReplies.{synced_client, synced_plays, synced_answer, synced_nodes, refused_client, refused_plays}

set_same : {A : Type 0} (xs : List A) (n : ℕ) (x : A) → slice_get xs n ≡ Some x → slice_set xs n x ≡ xs
set_same [] n x e = absurd (let f : ⊥ = cc (e) in f)
set_same (y ∷ ys) zero x e = let is : x ≡ y = cc (e) in ap (λ z. z ∷ ys) is
set_same (y ∷ ys) (suc n) x e = ap (λ l. y ∷ l) (set_same ys n x e)

-- as a call of its own
pub explained_by_plays : (s : Store) (c d : Client) (k : ℕ) (y : Synced) → PlaysColour s c d k y
    → IsExplained s c d (SyncsAs d k y)
explained_by_plays s c d k y p objects kept finished keeps =
    let r = p.keeps objects kept finished keeps in (
      kept_after_playing d y kept,
      r.0,
      λ rest fits. let q = r.1 rest fits in (
        q.0,
        q.1,
        ap (λ (m : ℕ). kept_after_sync kept d.region m y.events y.snapshot.counts (greatest_stamp (nodes_played d m y)))
            p.of_colour,
      ),
    )

pub refused_by_plays : (s : Store) (c d : Client) (k : ℕ) (fault : SyncFault) → RefusesColour s c d k fault
    → SyncRefused s c d k fault
refused_by_plays s c d k (sync_faults.Trimmed shown base) why = (
  why.0,
  λ objects kept finished keeps. let r = why.1 objects kept finished keeps in (kept, r.0, λ rest fits. (r.1 rest fits, refl)),
)
refused_by_plays s c d k sync_faults.NoMemory why = λ objects kept finished keeps. (
  kept,
  (why objects kept finished keeps).0,
  λ rest fits. refl,
)

-- the snapshot of a client's track is of its column
pub snapshot_there : (s : Store) (c : Client) (k : ℕ) (track : Track) → IsClient s c → k < length (tracks_of c)
    → track ≡ slice_index_or c.tracks.items k track → IsOfColumn c k track.snapshot
snapshot_there s c k track is lt there =
    let many = is.holds.0 in
    let within = is.region in
    let home = got (holds_of c) c.region (omega (arith, many, within)) in
    let t = (is.home home.0 home.1).tracks k track (slice_get_read (tracks_of c) (length (tracks_of c)) k track refl lt there) in
    (t.region, t.of_colour)

-- the client's hold and its track of a colour
module _ (s : Store) (c : Client) (r : Region) (g : Hold) (k : ℕ) (old : Track) (is : IsClient s c)
    (lt : k < s.size.colours) (there : slice_get s.regions c.region ≡ Some r)
    (hold : g ≡ slice_index_or c.holds.items c.region g) (track : old ≡ slice_index_or c.tracks.items k old) where
  at_g : slice_get (holds_of c) c.region ≡ Some g
  at_g =
      let many = is.holds.0 in
      let within = is.region in
      slice_get_read (holds_of c) (length (holds_of c)) c.region g refl (omega (arith, many, within)) hold

  at_old : slice_get (tracks_of c) k ≡ Some old
  at_old =
      let many = is.colours in
      slice_get_read (tracks_of c) (length (tracks_of c)) k old refl (omega (arith, many, lt)) track

  pub track_there : IsTrack c.region k (seen_in g k) old
  track_there = (is.home g at_g).tracks k old at_old

  pub colour_there : old.snapshot.colour ≡ k
  colour_there = track_there.of_colour

  pub few_there : r.number < 4
  few_there =
      let lt = is.region in
      let low = s.fit.few in
      let number = (are_regions s c.region r there).0 in
      omega (arith, lt, low, number)

  pub rests_there : IsHold r g
  rests_there = is.holds.1 c.region r g there at_g

  -- what play_on asks
  pub plays_from : IsTrack r.number old.snapshot.colour (seen_in g old.snapshot.colour) old
  plays_from =
      subst (λ (n : ℕ). IsTrack n old.snapshot.colour (seen_in g old.snapshot.colour) old)
      (sym (are_regions s c.region r there).0)
      (subst (λ (m : ℕ). IsTrack c.region m (seen_in g m) old) (sym colour_there) track_there)

  module _ (h : Hold) (new : Track) (floor : ℕ) (rests : IsHold r h) (but : SameBut old.snapshot.colour g h)
      (same : (h.seat ≡ g.seat) × (h.next ≡ g.next)) (sees : SeesMoreIn old.snapshot.colour g h) where
    abbrev after : Client
    after = record c {
      holds = with_item c.holds c.region h;
      floor = floor;
      tracks = with_item c.tracks k new;
    }

    changed : ChangesHome s c after r g h
    changed = record {
      number = refl;
      region = refl;
      there = there;
      before = at_g;
      changed = refl;
      rests = rests;
      on = gone_looked old.snapshot.colour g h but sees.more same.0;
    }

    at_colour : slice_get (tracks_of c) old.snapshot.colour ≡ Some old
    at_colour = ap (slice_get (tracks_of c)) colour_there ∙ at_old

    pub sync_goes : HaveGoneOn (holds_of c) (holds_of after)
    sync_goes = have_gone_on s c after r g h is changed

    pub sync_finished : Finished c → Finished after
    sync_finished = finished_stays s c after r g h is changed refl

    pub sync_idle : Helps after → Helps c
    sync_idle = helped_at_home s c after r g h is changed
        (idle_looked c.number g h changed.on (made_looked old.snapshot.colour g h but sees))

    module _ (y : Synced) (stamp : ℕ) (raised : floor ≡ max stamp c.floor) (p : PlaysOn r h old new y stamp) where
      tracks : tracks_of after ≡ slice_set (tracks_of c) old.snapshot.colour new
      tracks = ap (λ (n : ℕ). slice_set (tracks_of c) n new) (sym colour_there)

      pub sync_grows : HasGrown c after
      sync_grows = grown_at c after k old new at_old refl
          (p.nodes, ap (λ (t : Track). t.nodes) (sym p.track)) (p.line, ap (λ (t : Track). t.line) (sym p.track))

      pub sync_client : IsClient s after
      sync_client = synced_client s c after r g h old is changed at_colour but same.0 same.1 sees refl refl new y stamp tracks
          raised p

      pub sync_answer : AnswersSync c after k y
      sync_answer = subst (λ (m : ℕ). AnswersSync c after m y) colour_there
          (synced_answer s c after r g h old is changed at_colour but same.0 same.1 sees refl refl new y stamp tracks raised p)

      pub sync_plays : PlaysColour s c after k y
      sync_plays = subst (λ (m : ℕ). PlaysColour s c after m y) colour_there
          (synced_plays s c after r g h old is changed at_colour but same.0 same.1 sees refl refl new y stamp tracks raised
          p)

      pub sync_nodes : (nodes : List PlacedNode) → new.nodes ≡ old.nodes ++ nodes → nodes ≡ nodes_played after k y
      sync_nodes nodes is_end = subst (λ (m : ℕ). nodes ≡ nodes_played after m y) colour_there
          (synced_nodes s c after r g h old is changed at_colour but same.0 same.1 sees refl refl new y stamp tracks raised p
          nodes is_end)

    module _ (raised : floor ≡ c.floor) (unplayed : new ≡ old) where
      tracks_same : tracks_of after ≡ tracks_of c
      tracks_same = ap (λ (t : Track). slice_set (tracks_of c) k t) unplayed ∙ set_same (tracks_of c) k old at_old

      pub sync_refused_grows : HasGrown c after
      sync_refused_grows = grown_same c after tracks_same

      pub sync_refused_client : IsClient s after
      sync_refused_client =
          refused_client s c after r g h old is changed at_colour but same.0 same.1 sees refl refl raised tracks_same

      pub sync_refused : (fault : SyncFault) → IsRefusedOn r h old fault → RefusesColour s c after k fault
      sync_refused fault why = subst (λ (m : ℕ). RefusesColour s c after m fault) colour_there
          (refused_plays s c after r g h old is changed at_colour but same.0 same.1 sees refl refl raised tracks_same fault
          why)
