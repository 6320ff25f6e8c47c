-- What a causal map keeps while its client goes on, and what explains a get's answer.
use Rattle.std.proofs.Common.{◌≡◌, ℕ, zero, suc, ◌<◌, ◌≤◌, List, [], ◌∷◌, ◌++◌, length, take, Some, refl, ap, sym, subst, ◌∙◌, arith}
use Rattle.std.specs.Prelude.{slice_get}
use Rattle.std.specs.List.{AllZip, count_by}
use Rattle.std.specs.List.Sorted.{IsPermutation}
use mathlib.Core.List.{IsPrefix}
use Rattle.log_node.specs.declared.ids.Counts.{Counts}
use Rattle.log_node.specs.Seen.{PlacedNode}
use Rattle.log_node.specs.Reach.{Chains}
use Rattle.log_node.specs.Vectors.{at}
use Rattle.col_core.specs.Cuts.{chain}
use Rattle.col_core.specs.Keeping.{Kept, kept_after_sync}
use Rattle.col_core.specs.Log.{Log, first}
use Rattle.col_core.specs.PlayOrder.{Place}
use Rattle.object_fold.specs.Causal.{ChainNode, IsCausalAnswer}
use Rattle.object_fold.specs.declared.causal_map.CausalMap.{CausalMap as Folded}
use Rattle.object_fold.specs.CausalStates.{IsCausalMap}
use Rattle.playback.specs.declared.player.Snapshot.{Snapshot}
use Rattle.script_text.specs.declared.script.Object.{Object}
use Rattle.lawful_run.specs.Reads.{Syncs, greatest_stamp, greatest_played}
use Rattle.lawful_run.specs.Objects.{IsChainNode, GetsValues, places_within}
use Rattle.lawful_run.proofs.CallerLemmas.{prefix_length}
use Rattle.client_law.specs.Knowing.{Rest, log_seen}
use Rattle.log_client.specs.declared.store.Store.{Store}
use Rattle.log_client.specs.declared.client.Client.{Client}
use Rattle.log_client.specs.declared.answers.Synced.{Synced}
use Rattle.log_client.specs.Fits.{FitsHolds}
use Rattle.log_client.specs.Clients.{holds_of, seen_of, tracks_of, starts_of, played_of, caller_of, IsClient}
use Rattle.log_client.specs.Calls.{IsExplained, SyncsAs, AnswersSync, nodes_played}
use Rattle.log_client.specs.Reading.{RestsOn}
use Rattle.log_client.specs.StampedReads.{sync_piece}
use Rattle.log_client.proofs.CallerLemmas.{IsPlacedIn, PlayedIn, played_in, stood_there, one_started, stamps_played, tracks_long, zip_at, zip_long}
use Rattle.causal_map.specs.declared.causal.CausalMap.{CausalMap}
use Rattle.causal_map.specs.Played.{KeepsFirst, chain_node, chain_nodes, chain_nodes_after}
use Rattle.causal_map.specs.CausalMaps.{IsCausalMapOf, GetsMany}
use Rattle.causal_map.proofs.CausalAnswers.{answer_in}
use Rattle.causal_map.proofs.PlacesPlayed.{all_places}
use Rattle.causal_map.proofs.PlayedNodes.{chain_at, node_of_region, nodes_long, place_counts}
use Rattle.causal_map.proofs.Shuffles.{beside_others}

-- LISTS

zip_from : {A B : Type 0} (R : A → B → Type 0) (xs : List A) (ys : List B) → length xs ≡ length ys
    → ((j : ℕ) (x : A) (y : B) → slice_get xs j ≡ Some x → slice_get ys j ≡ Some y → R x y) → AllZip R xs ys
zip_from R [] [] same each = tt
zip_from R [] (y ∷ ys) same each = absurd (let f : ⊥ = omega (arith, same) in f)
zip_from R (x ∷ xs) [] same each = absurd (let f : ⊥ = omega (arith, same) in f)
zip_from R (x ∷ xs) (y ∷ ys) same each =
    (each 0 x y refl refl, zip_from R xs ys (omega (arith, same)) (λ j a b e f. each (suc j) a b e f))

-- the first of a longer list are read alike
first_alike : (earlier old more : List PlacedNode) (n : ℕ) → n ≤ length old
    → take n (chain_nodes_after earlier (old ++ more)) ≡ take n (chain_nodes_after earlier old)
first_alike earlier old more zero le = refl
first_alike earlier [] more (suc n) le = absurd (let f : ⊥ = omega (arith, le) in f)
first_alike earlier (i ∷ old) more (suc n) le =
    ap (λ (l : List ChainNode). chain_node earlier i ∷ l) (first_alike (earlier ++ i ∷ []) old more n (omega (arith, le)))

-- WHILE THE CLIENT GOES ON

keeps_on : (old new : List PlacedNode) (map : Folded) → IsPrefix old new → KeepsFirst old map → KeepsFirst new map
keeps_on old new map p k =
    let within = k.1 in
    let long = prefix_length old new p in (
      k.0,
      omega (arith, within, long),
      subst (λ (l : List PlacedNode). IsCausalMap map (take k.0 (chain_nodes l))) p.1
          (subst (IsCausalMap map) (sym (first_alike [] old p.0 k.0 within)) k.2),
    )

pub causal_later : (s : Store) (c d : Client) (m : CausalMap) → IsClient s c → RestsOn s c d → IsCausalMapOf c m
    → IsCausalMapOf d m
causal_later s c d m is on of = record {
  colour = let lt = of.colour in let same = tracks_long s c d is on.client in omega (arith, lt, same);
  few = of.few;
  folds = keeps_on (played_of c m.colour) (played_of d m.colour) m.map (on.grows m.colour).0 of.folds;
}

-- WHAT EXPLAINS A GET

module _ (s : Store) (c d : Client) (key : List ℕ) (colour : ℕ) (values : List (List ℕ)) (y : Synced) (is : IsClient s d)
    (lt : colour < length (tracks_of d)) (answers : AnswersSync c d colour y) (e : IsExplained s c d (SyncsAs d colour y))
    (says : IsCausalAnswer (chain_nodes (played_of d colour)) key values) where
  all : PlayedIn d colour
  all = played_in s d colour is lt

  abbrev items : List PlacedNode
  items = played_of d colour

  synced : y.snapshot.colour ≡ colour
  synced = ap (λ (q : Snapshot). q.colour) answers.snapshot

  module _ (objects : List Object) (kept : Kept) (rest : Rest) (fits : FitsHolds (holds_of d) rest)
      (here : Syncs (log_seen (seen_of d) rest) (caller_of s d objects) kept y.snapshot.colour y.events y.snapshot.counts)
      (started : y.snapshot.counts ≡ starts_of d colour) where
    abbrev log : Log
    log = log_seen (seen_of d) rest

    abbrev looked : Chains
    looked = chain d.region (first log d.region y.snapshot.colour y.events)

    read_as : (j : ℕ) (p : Place) (node : ChainNode) → slice_get all.order j ≡ Some p
        → slice_get (chain_nodes items) j ≡ Some node → IsChainNode log looked p node
    read_as j p node at_p at_node =
        let r = chain_at [] items j node at_node in
        let item = r.0 in
        let a = zip_at (IsPlacedIn d colour) all.order items j p item all.shown at_p r.1 in
        let placed = all.placed j p at_p in
        subst (IsChainNode log looked p) (sym r.2) (record {
          head = item.head;
          stands = stood_there s d colour is lt rest objects kept (sync_piece y) synced here started p item.head placed.0
              placed.2 a.0;
          region_is = a.1;
          position_is = ap (λ (q : ℕ). count_by (node_of_region q) (take j items)) a.1
              ∙ (place_counts d colour p.region all.order items j all.shown ∙ sym placed.1);
          needs_are = refl;
          text = a.2 rest fits;
        })

    shown : AllZip (IsChainNode log looked) all.order (chain_nodes items)
    shown =
        zip_from (IsChainNode log looked) all.order (chain_nodes items)
        (zip_long (IsPlacedIn d colour) all.order items all.shown ∙ sym (nodes_long [] items)) read_as

    places : IsPermutation all.order (places_within y.snapshot.counts)
    places =
        all_places all.order (λ j p at. ((all.placed j p at).0, (all.placed j p at).1)) y.snapshot.counts
        (λ r few. all.whole r few ∙ ap (λ (v : Counts). at v r) (sym started))

    pub gets_values : GetsValues log (caller_of s d objects) (sync_piece y) key values
    gets_values =
        let r = beside_others (IsChainNode log looked) all.order (places_within y.snapshot.counts) places (chain_nodes items) shown in record {
          nodes = r.0;
          played = r.1;
          answer = answer_in (chain_nodes items) r.0 key values r.2 says;
        }

  pub gets_many : GetsMany s c d colour key values y
  gets_many = record {
    synced = synced;
    explained = λ objects kept finished keeps.
        let r = e objects kept finished keeps in (
          r.0,
          r.1,
          λ rest fits.
              let syncs = r.2 rest fits in
              let own = (caller_of s d objects).own in
              let log = log_seen (seen_of d) rest in
              let caller = caller_of s d objects in
              let here : Syncs log caller kept y.snapshot.colour y.events y.snapshot.counts =
              subst (λ (k : ℕ). Syncs log caller kept k y.events y.snapshot.counts) (sym synced) syncs.0 in
              let started : y.snapshot.counts ≡ starts_of d colour =
              one_started kept own colour y.events y.snapshot.counts (greatest_stamp (nodes_played d colour y)) r.0 syncs.2
              ∙ r.1.starts colour in
              let stamps = stamps_played log caller kept colour y.events y.snapshot.counts (nodes_played d colour y) syncs.1 in (
                here,
                gets_values objects kept rest fits here started,
                syncs.2
                    ∙ (ap (kept_after_sync kept own colour y.events y.snapshot.counts) stamps
                    ∙ ap (λ (k : ℕ). kept_after_sync kept own k y.events y.snapshot.counts
                    (greatest_played log caller kept k y.events y.snapshot.counts)) (sym synced)),
              ),
        );
  }
