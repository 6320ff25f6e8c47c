-- What a causal map keeps beside its client, and what its gets answer.
use Rattle.std.specs.Prelude.{◌≡◌, ℕ, ◌<◌, List, length}
use Rattle.log_node.specs.declared.limits.TheConstants.{MAX_COLOURS}
use Rattle.col_core.specs.Log.{Log}
use Rattle.col_core.specs.Keeping.{Kept}
use Rattle.lawful_run.specs.Callers.{Caller}
use Rattle.lawful_run.specs.Reads.{Syncs, kept_after_piece}
use Rattle.lawful_run.specs.Objects.{GetsValues}
use Rattle.log_client.specs.declared.store.Store.{Store}
use Rattle.log_client.specs.declared.client.Client.{Client}
use Rattle.log_client.specs.declared.answers.Synced.{Synced}
use Rattle.log_client.specs.Clients.{tracks_of, played_of}
use Rattle.log_client.specs.Calls.{IsExplained}
use Rattle.log_client.specs.StampedReads.{sync_piece}
use Rattle.causal_map.specs.declared.causal.CausalMap.{CausalMap}
use Rattle.causal_map.specs.Played.{KeepsFirst}

-- The map is kept beside the client: its colour is one of the client's, and what is folded are the first nodes that the client
-- has played of it, as many as the map was fed.
pub record IsCausalMapOf (c : Client) (m : CausalMap) : Type 0 where
  pub colour : m.colour < length (tracks_of c)
  pub few : m.colour < MAX_COLOURS
  pub folds : KeepsFirst (played_of c m.colour) m.map

-- The colour was synced, and the values are those of the key's writes, among all nodes of the snapshot, that no other follows.
abbrev pub GetsManyAs : List ℕ → Synced → List (List ℕ) → Log → Caller → Kept → Kept → Type 0
GetsManyAs key y values log caller kept after =
    Syncs log caller kept y.snapshot.colour y.events y.snapshot.counts
    × GetsValues log caller (sync_piece y) key values
    × (after ≡ kept_after_piece log caller kept (sync_piece y))

-- a get of a key of a causal map on this colour answered with this
pub record GetsMany (s : Store) (c d : Client) (colour : ℕ) (key : List ℕ) (values : List (List ℕ)) (y : Synced) : Type 0 where
  pub synced : y.snapshot.colour ≡ colour
  pub explained : IsExplained s c d (GetsManyAs key y values)
