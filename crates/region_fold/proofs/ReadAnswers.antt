-- What an object keeps while its client goes on, and what explains the answers to its reads.
use Rattle.std.proofs.Common.{◌≡◌, inl, inr, ℕ, ◌<◌, Bool, true, false, List, [], ◌++◌, length, take, drop, Option, Some, None, Result, Ok, Err, IfOk, refl, ap, sym, subst, ◌∙◌, take-append-drop}
use Rattle.std.specs.Prelude.{IsTrue}
use Rattle.std.specs.List.{All}
use Rattle.std.proofs.lemmas.Bool.{cases_Bool}
use Rattle.std.proofs.lemmas.List.Elements.{All-append, All-map, All-nil, All-take}
use Rattle.log_node.specs.declared.ids.Colours.{Colours}
use Rattle.log_node.specs.declared.ids.Key.{Key}
use Rattle.log_node.specs.Seen.{PlacedNode}
use Rattle.log_node.specs.Order.{key_below, same_key}
use Rattle.log_node.specs.Sets.{members, set_of}
use Rattle.log_node.proofs.CallerLemmas.{key-irrefl, same_key-is}
use Rattle.object_form.specs.Forms.{is_writer}
use Rattle.object_fold.specs.declared.kept_fold.KeptFold.{KeptFold}
use Rattle.object_fold.specs.Nodes.{ObjectNode, object_node, object_nodes}
use Rattle.object_fold.specs.Folds.{FeedsAll, FeedsFirst, IsAbsent, is_behind, last_before, told_of}
use Rattle.object_fold.proofs.CallerLemmas.{found_cond, passed_cond}
use Rattle.playback.specs.Merging.{AreRising}
use Rattle.col_core.proofs.CallerLemmas.{contains_in, in_contains}
use Rattle.lawful_run.specs.Asks.{rising, shards}
use Rattle.lawful_run.specs.Objects.{AreObjectNodes}
use Rattle.client_law.specs.Knowing.{Rest, log_seen}
use Rattle.log_client.specs.declared.store.Store.{Store}
use Rattle.log_client.specs.declared.client.Client.{Client}
use Rattle.log_client.specs.declared.answers.StampedRead.{StampedRead}
use Rattle.log_client.specs.declared.faults.SyncFault.{SyncFault}
use Rattle.log_client.specs.Appends.{AreColoursOf}
use Rattle.log_client.specs.Calls.{AnswersEach, IsExplained}
use Rattle.log_client.specs.Clients.{IsClient, caller_of, holds_of, seen_of}
use Rattle.log_client.specs.Fits.{FitsHolds}
use Rattle.log_client.specs.Reading.{RestsOn, raised_colours, synced_colours}
use Rattle.log_client.specs.StampedReads.{CanBeNamed, IsAboveSeen, ReadsAs, ReadsGoOn, ReadsOn}
use Rattle.log_client.specs.Objects.{HasColoursOf, KeepsRead}
use Rattle.log_client.proofs.CallerLemmas.{all_appended, all_explained, behind_all, explained_less, first_kept, fits_less, listed_of_store, reads_later, rising_front, shard_rising, tracks_long}
use Rattle.region_fold.specs.Reads.{AnswersOwnNode, AreOfObject, AreWriters, Fetches, HasNodesRead, KeepsFold, ShowsEach}
use Rattle.region_fold.proofs.OwnNodes.{others_absent}

-- the set of all colours is of the store
pub all_of_store : (s : Store) (c : Client) (colours : List ℕ) → IsClient s c → HasColoursOf c colours
    → AreColoursOf s (set_of colours)
all_of_store s c colours is are =
    listed_of_store s colours are.some (subst (λ (n : ℕ). All (λ k. k < n) colours) is.colours are.within) are.few

-- a read of that set is one of all colours
pub fetches : (s : Store) (c d : Client) (colours : List ℕ) (set : Colours) → AreColoursOf s set → members set ≡ rising colours
    → (last : Option Key) (read : StampedRead) → IsAboveSeen c (members set) read.stamp
    → ReadsOn s c d (members set) last read → CanBeNamed read.items → Fetches s c d (rising colours) last read
fetches s c d colours set of same last read above reads named = record {
  some = subst (λ (l : List ℕ). 0 < length l) same of.some;
  above = subst (λ (l : List ℕ). IsAboveSeen c l read.stamp) same above;
  reads = subst (λ (l : List ℕ). ReadsOn s c d l last read) same reads;
  named = named;
}

pub fetched : (s : Store) (c d : Client) (colours : List ℕ) (set : Colours) → AreColoursOf s set → members set ≡ rising colours
    → (last : Option Key) (r : Result StampedRead SyncFault) → IfOk r (λ read. IsAboveSeen c (members set) read.stamp)
    → IfOk r (ReadsOn s c d (members set) last) → IfOk r (λ read. CanBeNamed read.items)
    → IfOk r (Fetches s c d (rising colours) last)
fetched s c d colours set of same last (Ok read) above reads named =
    fetches s c d colours set of same last read above reads named
fetched s c d colours set of same last (Err fault) above reads named = tt

-- and what it tells of each
pub shows_each : (c d : Client) (colours all : List ℕ) → all ≡ rising colours → (r : Result StampedRead SyncFault)
    → IfOk r (λ read. raised_colours read.raises ≡ all) → IfOk r (λ read. synced_colours read.syncs ≡ all)
    → IfOk r (λ read. AnswersEach c d read.syncs) → IfOk r (ShowsEach c d colours)
shows_each c d colours all same (Ok read) raises syncs played =
    record { raises = raises ∙ same; syncs = syncs ∙ same; played = played }
shows_each c d colours all same (Err fault) raises syncs played = tt

-- the shards of keys are colours of the object
pub shards_own : (colours : List ℕ) → 0 < length colours → (keys : List (List ℕ)) → AreOfObject colours (shards colours keys)
shards_own colours some keys c i =
    contains_in (rising colours) c (shard_rising colours some keys c (in_contains (shards colours keys) c i))

no_writers : AreWriters []
no_writers = All-nil (λ (node : ObjectNode). IsTrue (is_writer (Some node.key)))

-- nodes that were folded, and those of items
pub more_writers : (nodes : List ObjectNode) (items : List PlacedNode) → AreWriters nodes → CanBeNamed items
    → AreWriters (nodes ++ object_nodes items)
more_writers nodes items before named =
    let Is : ObjectNode → Type 0 = λ node. IsTrue (is_writer (Some node.key)) in
    All-append Is nodes (object_nodes items) before (All-map Is object_node items named)

pub colours_later : (s : Store) (c d : Client) → RestsOn s c d → (colours : List ℕ) → IsClient s c → HasColoursOf c colours
    → HasColoursOf d colours
colours_later s c d on colours is are = record {
  some = are.some;
  within = subst (λ (n : ℕ). All (λ k. k < n) colours) (sym (tracks_long s c d is on.client)) are.within;
  few = are.few;
}

module _ {F : Type 0} (Holds : F → List ObjectNode → Type 0) where
  -- WHAT IS KEPT

  module _ (law : ReadsGoOn) (s : Store) (c d : Client) (on : RestsOn s c d) where
    pub kept_later : (colours : List ℕ) (kept : KeptFold F) → KeepsFold Holds c colours kept → KeepsFold Holds d colours kept
    kept_later colours kept k = (k.0, k.1, reads_later law s c d colours kept.last k.0 on k.2, k.3)

  -- nothing is folded
  pub none_kept : (c : Client) (colours : List ℕ) (kept : KeptFold F) → kept.last ≡ None → Holds kept.state []
      → KeepsFold Holds c colours kept
  none_kept c colours kept none empty = ([], empty, inl (none, refl), no_writers)

  -- where it stays before a key or begins anew
  pub stays : (c : Client) (colours : List ℕ) (old new : KeptFold F) (own : Key)
      → (is_behind old.last own ≡ true → new ≡ old)
      → (is_behind old.last own ≡ false → (new.last ≡ None) × Holds new.state []) → KeepsFold Holds c colours old
      → KeepsFold Holds c colours new
  stays c colours old new own same anew k = elim (cases_Bool (is_behind old.last own)) [
    | inl t ↦ subst (KeepsFold Holds c colours) (sym (same t)) k
    | inr f ↦ (let a = anew f in ([], a.1, inl (a.0, refl), no_writers))
  ]

  -- and the key behind which it goes on
  pub last_stays : (old new : KeptFold F) (own : Key) → (is_behind old.last own ≡ true → new ≡ old)
      → (is_behind old.last own ≡ false → (new.last ≡ None) × Holds new.state []) → new.last ≡ last_before old.last own
  last_stays old new own same anew = elim (cases_Bool (is_behind old.last own)) [
    | inl t ↦ ap (λ (k : KeptFold F). k.last) (same t) ∙ sym (found_cond (is_behind old.last own) old.last None t)
    | inr f ↦ (anew f).0 ∙ sym (passed_cond (is_behind old.last own) old.last None f)
  ]

  -- READS

  module _ (law : ReadsGoOn) (s : Store) (c d : Client) (colours : List ℕ) (on : RestsOn s c d) (kept : KeptFold F)
      (k : KeepsFold Holds c colours kept) (read : StampedRead) (f : Fetches s c d colours kept.last read) where
    -- what is folded then, by some of its nodes
    pub kept_on : (new : KeptFold F) → FeedsFirst Holds kept new read.items → KeepsFold Holds d colours new
    kept_on new first = (
      k.0 ++ object_nodes (take first.0 read.items),
      first.2.1 k.0 k.1,
      subst (λ (l : Option Key). KeepsRead d colours l (k.0 ++ object_nodes (take first.0 read.items))) (sym first.2.0)
          (first_kept law s c d colours kept.last k.0 read f.some on f.above f.reads k.2 first.0),
      more_writers k.0 (take first.0 read.items) k.3
          (All-take (λ (item : PlacedNode). IsTrue (is_writer (Some item.head.key))) first.0 read.items f.named),
    )

    -- and after all of them
    pub has_nodes : (new : KeptFold F) → FeedsAll Holds kept new read.items
        → IsExplained s c d (HasNodesRead colours kept.last read (λ nodes. Holds new.state nodes × AreWriters nodes))
    has_nodes new all =
        let Has : List ObjectNode → Type 0 = λ nodes. Holds new.state nodes × AreWriters nodes in
        explained_less s c d
        (λ log caller before after. ReadsAs colours kept.last read f.reads.0 log caller before after
        × (ns : List ObjectNode) × AreObjectNodes log f.reads.0 ns × Has ns)
        (HasNodesRead colours kept.last read Has) (λ log caller before after r. (f.reads.0, r.0, r.1, r.2, r.3))
        (all_explained law s c d colours kept.last k.0 read f.some on f.above f.reads k.2 Has
        (all.1 k.0 k.1, more_writers k.0 read.items k.3 f.named))

    -- The own node comes behind all that was folded.
    module _ (own : Key) (later : is_behind kept.last own ≡ true) where
      not_folded : KeepsRead c colours kept.last k.0 → (rest : Rest) → FitsHolds (holds_of d) rest → IsAbsent own k.0
      not_folded (inl none) rest fits = subst (IsAbsent own) (sym none.1) tt
      not_folded (inr r) rest fits =
          let front = take r.count r.keys in
          let rises : AreRising front =
          rising_front front (drop r.count r.keys)
          (subst AreRising (sym (take-append-drop r.count r.keys)) r.has.order.rising) in
          others_absent (log_seen (seen_of c) rest) own front k.0
          (r.appended rest (fits_less (holds_of c) (holds_of d) rest on.goes fits))
          (λ x i. another x (behind_all front rises x own i (subst (λ (l : Option Key). is_behind l own ≡ true) r.last_is later))
          (same_key x own) refl) where
            another : (x : Key) → key_below x own ≡ true → (b : Bool) → same_key x own ≡ b → same_key x own ≡ false
            another x low true e =
                absurd (key-irrefl own (subst (λ (y : Key). key_below y own ≡ true) (same_key-is x own e) low))
            another x low false e = e

      pub answers : {T : Type 0} (told : List ObjectNode → ObjectNode → Option T) (answer : Option T)
          → ((nodes : List ObjectNode) → Holds kept.state nodes → IsAbsent own nodes
          → answer ≡ told_of told (nodes ++ object_nodes read.items) own)
          → (last : Option Key) → kept.last ≡ last_before last own → AnswersOwnNode told s c d colours last own answer read
      answers told answer tells last same = (
        f.reads.0,
        f.reads.1,
        λ objects before finished keeps.
            let x = f.reads.3 objects before finished keeps in (
              x.0,
              x.1,
              λ rest fits. (
                subst (λ (l : Option Key). ReadsAs colours l read f.reads.0 (log_seen (seen_of d) rest) (caller_of s d objects) before x.0)
                    same (x.2 rest fits),
                k.0 ++ object_nodes read.items,
                all_appended law s c d colours kept.last k.0 read f.some on f.above f.reads k.2 rest fits,
                tells k.0 k.1 (not_folded k.2 rest fits),
              ),
            ),
      )
