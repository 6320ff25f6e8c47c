-- What a map keeps while its client goes on, and what explains a get's answer.
use Rattle.std.proofs.Common.{◌≡◌, ◌⊎◌, inl, inr, ℕ, zero, suc, ◌+◌, ◌<◌, List, [], ◌∷◌, length, Some, set, length-set, length-append, get_or, ◌++◌, refl, ap, sym, subst, ◌∙◌, arith}
use Rattle.std.specs.Prelude.{slice_get, slice_index_or, IfOk, Result}
use Rattle.std.specs.declared.alloc.AllocError.{AllocError}
use Rattle.std.specs.Vec.{with_item}
use Rattle.std.proofs.lemmas.Option.{slice_get_read}
use Rattle.log_node.specs.Seen.{PlacedNode}
use Rattle.lawful_run.proofs.CallerLemmas.{get_within}
use Rattle.std.specs.List.{All, Contains}
use Rattle.std.proofs.lemmas.List.Elements.{All-contains}
use Rattle.log_node.specs.Vectors.{at}
use Rattle.object_fold.specs.declared.kept_line.KeptLine.{KeptLine}
use Rattle.object_fold.specs.declared.shard_map.ShardMap.{ShardMap}
use Rattle.object_fold.specs.Maps.{Value, shard_value}
use Rattle.object_fold.specs.States.{IsShardMap, HasShardOf}
use Rattle.object_fold.specs.Nodes.{object_nodes}
use Rattle.object_fold.specs.Folds.{FoldsFirst}
use Rattle.col_core.specs.Keeping.{kept_after_sync}
use Rattle.playback.specs.declared.player.Snapshot.{Snapshot}
use Rattle.lawful_run.specs.Reads.{Syncs, greatest_stamp, greatest_played}
use Rattle.log_client.specs.declared.store.Store.{Store}
use Rattle.log_client.specs.declared.client.Client.{Client}
use Rattle.log_client.specs.declared.answers.Synced.{Synced}
use Rattle.client_law.specs.Knowing.{log_seen}
use Rattle.log_client.specs.Clients.{IsClient, caller_of, own_line, seen_of, starts_of, tracks_of}
use Rattle.log_client.specs.Calls.{AnswersSync, IsExplained, SyncsAs, nodes_played}
use Rattle.log_client.specs.Reading.{RestsOn}
use Rattle.log_client.specs.StampedReads.{sync_piece}
use Rattle.log_client.specs.Objects.{HasColoursOf, FoldsLine}
use Rattle.log_client.proofs.CallerLemmas.{folds_none, follows_later, one_started, snapshot_is_own, stamps_played, tracks_long}
use Rattle.log_map.specs.declared.map.LogMap.{LogMap}
use Rattle.log_map.specs.Maps.{AreFresh, AreOpen, Gets, IsMapOf, IsShardOf}

module _ (c : Client) (colours : List ℕ) (are : HasColoursOf c colours) where
  pub within : (colour : ℕ) → Contains colours colour → colour < length (tracks_of c)
  within colour has = All-contains (λ k. k < length (tracks_of c)) colours colour are.within has

-- WHAT IS KEPT

-- what is kept stays right
pub map_later : (s : Store) (c d : Client) (m : LogMap) → IsClient s c → RestsOn s c d → IsMapOf c m → IsMapOf d m
map_later s c d m is on of = record {
  colours = record {
    some = of.colours.some;
    within = subst (λ (n : ℕ). All (λ k. k < n) m.colours) (sym (tracks_long s c d is on.client)) of.colours.within;
    few = of.colours.few;
  };
  many = of.many;
  shards = λ n colour shard there at. let f = of.shards n colour shard there at in record {
    colours_are = f.colours_are;
    shard_is = f.shard_is;
    folds = follows_later c d colour shard.count (IsShardMap shard.state) on.grows f.folds;
  };
}

set_cases : (xs : List (KeptLine ShardMap)) (n j : ℕ) (x y : KeptLine ShardMap) → slice_get (set xs n x) j ≡ Some y
    → ((j ≡ n) × (x ≡ y)) ⊎ (slice_get xs j ≡ Some y)
set_cases [] n j x y e = absurd (let f : ⊥ = cc in f)
set_cases (z ∷ xs) zero zero x y e = inl (refl, let f : x ≡ y = cc in f)
set_cases (z ∷ xs) zero (suc j) x y e = inr e
set_cases (z ∷ xs) (suc n) zero x y e = inr e
set_cases (z ∷ xs) (suc n) (suc j) x y e = elim (set_cases xs n j x y e) [
  | inl p ↦ inl (ap suc p.0, p.1)
  | inr q ↦ inr q
]

-- where one shard's fold went on
pub map_folded : (c : Client) (m : LogMap) (place colour : ℕ) (old new : KeptLine ShardMap) (shards : List (KeptLine ShardMap))
    → IsMapOf c m → AreOpen m → slice_get m.colours place ≡ Some colour → slice_get m.shards.items place ≡ Some old
    → shards ≡ set m.shards.items place new → HasShardOf old.state new.state
    → FoldsLine c colour new.count (IsShardMap new.state)
    → (n : LogMap) → n.home ≡ m.home → n.colours ≡ m.colours → n.shards.items ≡ shards → IsMapOf c n
map_folded c m place colour old new shards of every there at is same folds n home colours items = record {
  colours = subst (HasColoursOf c) (sym colours) of.colours;
  many = inr (ap length items ∙ (ap length is ∙ (length-set m.shards.items place new ∙ (every ∙ ap length (sym colours)))));
  shards = λ k other shard here found.
      let here_then = ap (λ (l : List ℕ). slice_get l k) (sym colours) ∙ here in
      subst (λ (l : List ℕ). IsShardOf c l other shard) (sym colours)
      (elim (set_cases m.shards.items place k new shard
      (ap (λ (l : List (KeptLine ShardMap)). slice_get l k) (sym (items ∙ is)) ∙ found)) [
        | inl p ↦
            (let same_colour : other ≡ colour =
            let e : Some other ≡ Some colour = sym here_then ∙ (ap (slice_get m.colours) p.0 ∙ there) in cc (e) in
            subst (λ (x : KeptLine ShardMap). IsShardOf c m.colours other x) p.1 (record {
              colours_are = same.colours ∙ (of.shards place colour old there at).colours_are;
              shard_is = same.shard ∙ ((of.shards place colour old there at).shard_is ∙ sym same_colour);
              folds = subst (λ (q : ℕ). FoldsLine c q new.count (IsShardMap new.state)) (sym same_colour) folds;
            }))
        | inr q ↦ of.shards k other shard here_then q
      ]);
}

-- WHAT EXPLAINS A GET

module _ (s : Store) (c d : Client) (colours key : List ℕ) (colour : ℕ) (value : Value) (y : Synced) (is : IsClient s d)
    (lt : colour < length (tracks_of d)) (answers : AnswersSync c d colour y) (e : IsExplained s c d (SyncsAs d colour y))
    (value_is : value ≡ shard_value colours colour (object_nodes (own_line d colour)) key) where
  synced : y.snapshot.colour ≡ colour
  synced = ap (λ (q : Snapshot). q.colour) answers.snapshot

  pub gets : Gets s c d colours colour key value y
  gets = record {
    synced = synced;
    explained = λ objects kept finished keeps.
        let r = e objects kept finished keeps in (
          r.0,
          r.1,
          λ rest fits.
              let syncs = r.2 rest fits in
              let own = (caller_of s d objects).own in
              let log = log_seen (seen_of d) rest in
              let caller = caller_of s d objects in
              let here : Syncs log caller kept y.snapshot.colour y.events y.snapshot.counts =
              subst (λ (k : ℕ). Syncs log caller kept k y.events y.snapshot.counts) (sym synced) syncs.0 in
              let started : y.snapshot.counts ≡ starts_of d colour =
              one_started kept own colour y.events y.snapshot.counts (greatest_stamp (nodes_played d colour y)) r.0 syncs.2
              ∙ r.1.starts colour in
              let stamps = stamps_played log caller kept colour y.events y.snapshot.counts (nodes_played d colour y) syncs.1 in (
                here,
                record {
                  nodes = object_nodes (own_line d colour);
                  played = snapshot_is_own s d colour is lt rest fits objects kept (sync_piece y) synced here started;
                  value_is = value_is ∙ ap (λ (k : ℕ). shard_value colours k (object_nodes (own_line d colour)) key) (sym synced);
                },
                syncs.2
                    ∙ (ap (kept_after_sync kept own colour y.events y.snapshot.counts) stamps
                    ∙ ap (λ (k : ℕ). kept_after_sync kept own k y.events y.snapshot.counts
                    (greatest_played log caller kept k y.events y.snapshot.counts)) (sym synced)),
              ),
        );
  }

-- WITHIN THE MAP

-- the shard of a colour
pub shard_at : (c : Client) (m : LogMap) (place colour : ℕ) (old : KeptLine ShardMap) → AreOpen m
    → slice_get m.colours place ≡ Some colour → old ≡ slice_index_or m.shards.items place old
    → slice_get m.shards.items place ≡ Some old
shard_at c m place colour old every there is =
    let lt = get_within m.colours place colour there in
    slice_get_read m.shards.items (length m.shards.items) place old refl (omega (arith, lt, every)) is

-- what is folded of it
pub shard_folds : (c : Client) (m : LogMap) (place colour : ℕ) (old : KeptLine ShardMap) (line : List PlacedNode) → IsMapOf c m
    → AreOpen m → slice_get m.colours place ≡ Some colour → old ≡ slice_index_or m.shards.items place old → line ≡ own_line c colour
    → FoldsFirst line old.count (IsShardMap old.state)
shard_folds c m place colour old line of every there is here =
    subst (λ (l : List PlacedNode). FoldsFirst l old.count (IsShardMap old.state)) (sym here)
    (of.shards place colour old there (shard_at c m place colour old every there is)).folds

-- and its value of a key
pub shard_value_is : (c : Client) (m : LogMap) (place colour : ℕ) (old : KeptLine ShardMap) (line : List PlacedNode)
    (key : List ℕ) (r : Result Value AllocError) → IsMapOf c m → AreOpen m → slice_get m.colours place ≡ Some colour
    → old ≡ slice_index_or m.shards.items place old → line ≡ own_line c colour
    → IfOk r (λ value. value ≡ shard_value old.state.colours old.state.shard (object_nodes line) key)
    → IfOk r (λ value. value ≡ shard_value m.colours colour (object_nodes (own_line c colour)) key)
shard_value_is c m place colour old line key r of every there is here ok =
    let f = of.shards place colour old there (shard_at c m place colour old every there is) in
    subst (λ (l : List PlacedNode). IfOk r (λ value. value ≡ shard_value m.colours colour (object_nodes l) key)) here
    (subst (λ (k : ℕ). IfOk r (λ value. value ≡ shard_value m.colours k (object_nodes line) key)) f.shard_is
    (subst (λ (cs : List ℕ). IfOk r (λ value. value ≡ shard_value cs old.state.shard (object_nodes line) key)) f.colours_are ok))

-- the map with the shard that went on
pub map_with : (c : Client) (m : LogMap) (place colour : ℕ) (old new : KeptLine ShardMap) (line : List PlacedNode) → IsMapOf c m
    → AreOpen m → slice_get m.colours place ≡ Some colour → old ≡ slice_index_or m.shards.items place old → line ≡ own_line c colour
    → HasShardOf old.state new.state → FoldsFirst line new.count (IsShardMap new.state)
    → IsMapOf c (record m { shards = with_item m.shards place new })
map_with c m place colour old new line of every there is here same folds =
    map_folded c m place colour old new (set m.shards.items place new) of every there (shard_at c m place colour old every there is) refl
    same (subst (λ (l : List PlacedNode). FoldsFirst l new.count (IsShardMap new.state)) here folds)
    (record m { shards = with_item m.shards place new }) refl refl refl

-- OPENED

-- one shard more
pub fresh_more : (colours : List ℕ) (n colour d : ℕ) (shards : List (KeptLine ShardMap)) (shard : KeptLine ShardMap) → n < length colours
    → get_or colours n d ≡ colour → shard.state.colours ≡ colours → shard.state.shard ≡ colour → shard.count ≡ 0
    → IsShardMap shard.state [] → AreFresh colours n shards → AreFresh colours (n + 1) (shards ++ shard ∷ [])
fresh_more colours n colour d shards shard lt is of_colours of_colour none empty f = record {
  many = let long = f.many in let more = length-append shards (shard ∷ []) in omega (arith, long, more);
  each = λ k other one there at. elim (split shards shard k one at) [
    | inl early ↦ f.each k other one there early
    | inr late ↦
        (let here : k ≡ n = late.0 ∙ f.many in
        let same : other ≡ colour =
        let e : Some other ≡ Some colour = sym there ∙ (ap (slice_get colours) here ∙ (at_get colours n d lt ∙ ap (λ (x : ℕ). Some x) is)) in
        cc (e) in
        subst (λ (x : KeptLine ShardMap). (x.state.colours ≡ colours) × (x.state.shard ≡ other) × (x.count ≡ 0) × IsShardMap x.state []) late.1
        (of_colours, of_colour ∙ sym same, none, empty))
  ];
} where
  at_get : (xs : List ℕ) (k e : ℕ) → k < length xs → slice_get xs k ≡ Some (get_or xs k e)
  at_get [] k e less = absurd (let f : ⊥ = omega (arith, less) in f)
  at_get (x ∷ xs) zero e less = refl
  at_get (x ∷ xs) (suc k) e less = at_get xs k e (omega (arith, less))

  split : (xs : List (KeptLine ShardMap)) (x : KeptLine ShardMap) (k : ℕ) (y : KeptLine ShardMap) → slice_get (xs ++ x ∷ []) k ≡ Some y
      → (slice_get xs k ≡ Some y) ⊎ ((k ≡ length xs) × (x ≡ y))
  split [] x zero y e = inr (refl, cc (e))
  split [] x (suc k) y e = absurd (let f : ⊥ = cc (e) in f)
  split (z ∷ xs) x zero y e = inl e
  split (z ∷ xs) x (suc k) y e = elim (split xs x k y e) [
    | inl early ↦ inl early
    | inr late ↦ inr (ap suc late.0, late.1)
  ]

pub opened : (c : Client) (m : LogMap) → HasColoursOf c m.colours → AreFresh m.colours (length m.colours) m.shards.items
    → IsMapOf c m
opened c m are fresh = record {
  colours = are;
  many = inr fresh.many;
  shards = λ n colour shard there at. let f = fresh.each n colour shard there at in record {
    colours_are = f.0;
    shard_is = f.1;
    folds = folds_none (own_line c colour) shard.count (IsShardMap shard.state) f.2 f.3;
  };
}

-- with no shard
pub unopened : (c : Client) (m : LogMap) → HasColoursOf c m.colours → m.shards.items ≡ [] → IsMapOf c m
unopened c m are none = record {
  colours = are;
  many = inl none;
  shards = λ n colour shard there at.
      let e : slice_get [] n ≡ Some shard = ap (λ (l : List (KeptLine ShardMap)). slice_get l n) (sym none) ∙ at in
      absurd (let f : ⊥ = cc (e) in f);
}
