-- The nodes of an own line that a client has played, as objects read them.
use Rattle.std.proofs.Common.{◌≡◌, ℕ, zero, suc, ◌+◌, ◌<◌, ◌≤◌, List, [], ◌∷◌, length, map, take, drop, Some, refl, ap, sym, subst, ◌∙◌, arith, take-append-drop}
use Rattle.std.specs.Prelude.{slice_get}
use Rattle.std.specs.List.{AllZip}
use Rattle.std.proofs.lemmas.List.{take_all}
use mathlib.Core.List.{IsPrefix}
use Rattle.log_node.specs.declared.ids.Counts.{Counts}
use Rattle.log_node.specs.declared.ids.Key.{Key}
use Rattle.log_node.specs.Seen.{PlacedNode}
use Rattle.log_node.specs.Vectors.{at}
use Rattle.log_node.specs.Reach.{Reachable}
use Rattle.log_node.proofs.CallerLemmas.{reached_within}
use Rattle.object_fold.specs.Nodes.{ObjectNode, object_node, object_nodes}
use Rattle.col_core.specs.declared.Entry.{Entry}
use Rattle.col_core.specs.History.{line}
use Rattle.col_core.specs.Cuts.{chain}
use Rattle.col_core.specs.Computed.{dated}
use Rattle.col_core.specs.Log.{Log}
use Rattle.col_core.specs.Keeping.{Kept}
use Rattle.script_text.specs.declared.script.Object.{Object}
use Rattle.report_text.specs.declared.report.SyncPiece.{SyncPiece}
use Rattle.chain_store.specs.declared.hold.Hold.{Hold}
use Rattle.chain_store.specs.Holds.{seen_in, entries_seen}
use Rattle.lawful_run.specs.Reads.{Syncs}
use Rattle.lawful_run.specs.Objects.{IsObjectNode, AreObjectNodes, own_played}
use Rattle.lawful_run.proofs.CallerLemmas.{prefix_length, prefix_take}
use Rattle.client_law.specs.Knowing.{Rest, log_seen}
use Rattle.client_law.proofs.CallerLemmas.{seen_later}
use Rattle.log_client.specs.declared.store.Store.{Store}
use Rattle.log_client.specs.declared.client.Client.{Client}
use Rattle.log_client.specs.declared.track.Track.{Track}
use Rattle.log_client.specs.Fits.{FitsHolds}
use Rattle.log_client.specs.Clients.{holds_of, seen_of, tracks_of, starts_of, own_line, counts_in, line_in, caller_of, IsClient, IsTrack}
use Rattle.log_client.specs.Reading.{keys_of}
use Rattle.log_client.proofs.Lists.{got}
use Rattle.log_client.proofs.Known.Seeing.{seen_there, are_lawful}
use Rattle.log_client.proofs.Known.Fitting.{listed}
use Rattle.log_client.proofs.Going.AtHome.{are_regions}
use Rattle.log_client.proofs.Read.Lines.{chain_long, keys_prefix}

taken_get : {A : Type 0} (xs : List A) (n m : ℕ) (x : A) → slice_get (take n xs) m ≡ Some x → slice_get xs m ≡ Some x
taken_get xs zero m x e = absurd (let f : ⊥ = cc (e) in f)
taken_get [] (suc n) m x e = absurd (let f : ⊥ = cc (e) in f)
taken_get (y ∷ xs) (suc n) zero x e = e
taken_get (y ∷ xs) (suc n) (suc m) x e = taken_get xs n m x e

keys_taken : (nodes : List PlacedNode) (n : ℕ) → keys_of (take n nodes) ≡ take n (keys_of nodes)
keys_taken nodes zero = refl
keys_taken [] (suc n) = refl
keys_taken (x ∷ nodes) (suc n) = ap (λ (l : List Key). x.head.key ∷ l) (keys_taken nodes n)

keys_long : (nodes : List PlacedNode) → length (keys_of nodes) ≡ length nodes
keys_long [] = refl
keys_long (x ∷ nodes) = ap suc (keys_long nodes)

-- nodes that are each as it was appended
each_so : (log : Log) (nodes : List PlacedNode)
    → ((n : ℕ) (item : PlacedNode) → slice_get nodes n ≡ Some item → IsObjectNode log item.head.key (object_node item))
    → AreObjectNodes log (keys_of nodes) (object_nodes nodes)
each_so log [] each = tt
each_so log (x ∷ nodes) each = (each 0 x refl, each_so log nodes (λ n item at. each (suc n) item at))

-- a snapshot over what was seen counts no more own nodes than stand
pub counted_within : (own : ℕ) (history : List Entry) (v : Counts) → own < 4
    → Reachable (chain own (dated own history)) v → at v own ≤ length (line history)
counted_within own history v few reached =
    let a = reached_within (chain own (dated own history)) reached own few in
    let b = chain_long own history in
    omega (arith, a, b)

module _ (s : Store) (d : Client) (colour : ℕ) (is : IsClient s d) (lt : colour < length (tracks_of d)) where
  pub track_at : (t : Track) × (slice_get (tracks_of d) colour ≡ Some t)
  track_at = got (tracks_of d) colour lt

  pub hold_at : (h : Hold) × (slice_get (holds_of d) d.region ≡ Some h)
  hold_at =
      let many = is.holds.0 in
      let within = is.region in
      got (holds_of d) d.region (omega (arith, many, within))

  pub tracked : IsTrack d.region colour (seen_in hold_at.0 colour) track_at.0
  tracked = (is.home hold_at.0 hold_at.1).tracks colour track_at.0 track_at.1

  pub seen_is : seen_of d d.region colour ≡ entries_seen hold_at.0 colour
  seen_is = seen_there (holds_of d) d.region hold_at.0 hold_at.1 colour

  line_is : own_line d colour ≡ track_at.0.line
  line_is = ap line_in track_at.1

  -- the own line that was played is as long as the snapshot counts
  pub line_counted : length (own_line d colour) ≡ at (starts_of d colour) d.region
  line_counted =
      ap length line_is ∙ (tracked.line_long ∙ ap (λ (v : Counts). at v d.region) (sym (ap counts_in track_at.1)))

  -- and its keys are the first of the line that the client has seen
  pub line_first : IsPrefix (keys_of (own_line d colour)) (line (seen_of d d.region colour))
  line_first =
      subst (λ (l : List PlacedNode). IsPrefix (keys_of l) (line (seen_of d d.region colour))) (sym line_is)
      (subst (λ (h : List Entry). IsPrefix (keys_of track_at.0.line) (line h)) (sym seen_is)
      (keys_prefix d.region (entries_seen hold_at.0 colour) track_at.0.line tracked.line))

  module _ (rest : Rest) (fits : FitsHolds (holds_of d) rest) where
    is_own : (n : ℕ) (item : PlacedNode) → slice_get (own_line d colour) n ≡ Some item
        → IsObjectNode (log_seen (seen_of d) rest) item.head.key (object_node item)
    is_own n item there =
        let named = tracked.named n item (ap (λ (l : List PlacedNode). slice_get l n) (sym line_is) ∙ there) in record {
          appended = item.node;
          there = listed (holds_of d) rest d.region hold_at.0 hold_at.1 fits colour item.head.key.id item.node named;
          same = named.of_id;
          key_is = refl;
          colours = refl;
          text = refl;
        }

    -- The first nodes of the line, as far as the client has played it, are each as it was appended.
    pub first_are_own : (n : ℕ) → n ≤ length (own_line d colour)
        → AreObjectNodes (log_seen (seen_of d) rest) (take n (line (seen_of d d.region colour)))
        (object_nodes (take n (own_line d colour)))
    first_are_own n le =
        let long = keys_long (own_line d colour) in
        subst (λ (keys : List Key). AreObjectNodes (log_seen (seen_of d) rest) keys (object_nodes (take n (own_line d colour))))
        (keys_taken (own_line d colour) n
        ∙ sym (prefix_take (keys_of (own_line d colour)) (line (seen_of d d.region colour)) n line_first
        (omega (arith, le, long))))
        (each_so (log_seen (seen_of d) rest) (take n (own_line d colour))
        (λ m item there. is_own m item (taken_get (own_line d colour) n m item there)))

    module _ (objects : List Object) (kept : Kept) (y : SyncPiece) (of : y.colour ≡ colour)
        (syncs : Syncs (log_seen (seen_of d) rest) (caller_of s d objects) kept y.colour y.events y.counts)
        (started : y.counts ≡ starts_of d colour) where
      abbrev looked : List Entry
      looked = take y.events (seen_of d d.region y.colour)

      beginning : IsPrefix (line looked) (line (seen_of d d.region y.colour))
      beginning =
          let few = s.fit.few in
          let within = is.region in
          (seen_later (caller_of s d objects) (λ r c. take y.events (seen_of d r c)) (seen_of d) rest (record {
            more = λ r c. (drop y.events (seen_of d r c), take-append-drop y.events (seen_of d r c));
            lawful = are_lawful (length s.regions) s.regions (holds_of d) (are_regions s) is.holds;
            home = omega (arith, few, within);
          })).lines d.region y.colour

      counts_are : at y.counts d.region ≡ length (own_line d colour)
      counts_are = ap (λ (v : Counts). at v d.region) started ∙ sym line_counted

      there_yet : at y.counts d.region ≤ length (line looked)
      there_yet =
          let few = s.fit.few in
          let within = is.region in
          counted_within d.region looked y.counts (omega (arith, few, within)) syncs.cut.reached

      -- After a sync the own nodes of its snapshot are those of the line that the client has played.
      pub snapshot_is_own : AreObjectNodes (log_seen (seen_of d) rest)
          (own_played (log_seen (seen_of d) rest) (caller_of s d objects) y) (object_nodes (own_line d colour))
      snapshot_is_own =
          let n = at y.counts d.region in
          let whole : take n (own_line d colour) ≡ own_line d colour =
          take_all n (own_line d colour) (let e = counts_are in omega (arith, e)) in
          subst (λ (nodes : List PlacedNode). AreObjectNodes (log_seen (seen_of d) rest) (take n (line looked))
          (object_nodes nodes)) whole
          (subst (λ (keys : List Key). AreObjectNodes (log_seen (seen_of d) rest) keys (object_nodes (take n (own_line d colour))))
          (ap (λ (c : ℕ). take n (line (seen_of d d.region c))) (sym of)
          ∙ prefix_take (line looked) (line (seen_of d d.region y.colour)) n beginning there_yet)
          (first_are_own n (let e = counts_are in omega (arith, e))))
