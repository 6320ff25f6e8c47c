-- What a player keeps beside its client, and what its peeks answer.
use Rattle.std.specs.Prelude.{◌≡◌, ℕ, List, Some, slice_get}
use Rattle.object_fold.specs.Nodes.{ObjectNode}
use Rattle.part_fold.specs.Agreement.{part_at}
use Rattle.part_fold.specs.Parts.{Part}
use Rattle.part_fold.specs.PartStates.{IsPart}
use Rattle.part_fold.specs.Ruled.{IsRuled}
use Rattle.col_core.specs.Log.{Log}
use Rattle.col_core.specs.Keeping.{Kept}
use Rattle.lawful_run.specs.Asks.{rising}
use Rattle.lawful_run.specs.Callers.{Caller}
use Rattle.lawful_run.specs.Objects.{AreObjectNodes, own_played}
use Rattle.lawful_run.specs.Parts.{HasPartValue, WaitsFor}
use Rattle.lawful_run.specs.Reads.{Syncs, kept_after_piece}
use Rattle.log_client.specs.declared.store.Store.{Store}
use Rattle.log_client.specs.declared.client.Client.{Client}
use Rattle.log_client.specs.declared.answers.Synced.{Synced}
use Rattle.log_client.specs.Calls.{IsExplained}
use Rattle.log_client.specs.Objects.{FoldsLine, HasColoursOf}
use Rattle.log_client.specs.StampedReads.{sync_piece}
use Rattle.region_fold.specs.Reads.{KeepsFold}
use Rattle.tx_parts.specs.declared.answers.Peek.{Peek}
use Rattle.tx_parts.specs.declared.answers.Peek.TheVariants as peeks
use Rattle.tx_parts.specs.declared.player.PartPlayer.{PartPlayer}

-- WHAT IS KEPT

-- the part of the map that the player plays
abbrev pub own_part : PartPlayer → Part
own_part p = part_at p.colours p.place

-- The player is kept beside the client: the map's colours are the client's, and one of them is the player's. What is folded of it
-- are the first nodes of the own line that the client has played, and of all colours such as the client has read.
pub record IsPlayerOf (c : Client) (p : PartPlayer) : Type 0 where
  pub colours : HasColoursOf c p.colours
  pub own : slice_get p.colours p.place ≡ Some p.colour
  pub part : p.part.state.part ≡ own_part p
  pub plays : FoldsLine c p.colour p.part.count (IsPart p.part.state)
  pub reads : KeepsFold IsRuled c (rising p.colours) p.map.kept

-- the one player is the other one, and what is folded may differ
abbrev pub IsSamePlayer : PartPlayer → PartPlayer → Type 0
IsSamePlayer p q = (q.home ≡ p.home) × (q.colours ≡ p.colours) × (q.colour ≡ p.colour) × (q.place ≡ p.place)

-- PLAYS

-- The colour was synced, and this is so of the own nodes of the snapshot.
abbrev pub PlaysAs : Synced → (List ObjectNode → Type 0) → Log → Caller → Kept → Kept → Type 0
PlaysAs y Has log caller kept after =
    Syncs log caller kept y.snapshot.colour y.events y.snapshot.counts
    × (nodes : List ObjectNode) × AreObjectNodes log (own_played log caller (sync_piece y)) nodes × Has nodes
    × (after ≡ kept_after_piece log caller kept (sync_piece y))

-- the player's colour was synced, and this is so of the nodes of its line
pub record Plays (s : Store) (c d : Client) (p : PartPlayer) (y : Synced) (Has : List ObjectNode → Type 0) : Type 0 where
  pub synced : y.snapshot.colour ≡ p.colour
  pub explained : IsExplained s c d (PlaysAs y Has)

-- what the part's line tells of a key: that transaction, and where there is none the key's value
abbrev pub Shows : Part → List ℕ → Peek → List ObjectNode → Type 0
Shows part key (peeks.Undecided waits) nodes = WaitsFor (Some waits) part nodes
Shows part key (peeks.Value value) nodes = HasPartValue key value part nodes

-- a peek at a key showed this
abbrev pub Peeks : Store → Client → Client → PartPlayer → List ℕ → Peek → Synced → Type 0
Peeks s c d p key peek y = Plays s c d p y (Shows (own_part p) key peek)
