-- What the functions of this crate say of each other: appends, and plays on a track.
use Rattle.std.specs.Prelude.{◌≡◌, ◌≢◌, ◌⊎◌, ◌↔◌, ℕ, false, ◌≤◌, List, ◌++◌, length, map, Option, Some, None, slice_get, Result, Err, IfOk, MatchResult}
use Rattle.log_node.specs.declared.ids.Colours.{Colours}
use Rattle.log_node.specs.declared.limits.TheConstants.{MAX_STAMP}
use Rattle.log_node.specs.Seen.{PlacedNode}
use Rattle.log_node.specs.Sets.{members}
use Rattle.log_node.specs.Vectors.{IsWithin, is_within}
use Rattle.col_core.specs.Cuts.{Dated, base, chain}
use Rattle.col_core.specs.Computed.{cut, dated}
use Rattle.col_core.specs.PlayOrder.{nodes_between}
use Rattle.chain_store.specs.Histories.{Names}
use Rattle.chain_store.specs.declared.hold.Hold.{Hold}
use Rattle.chain_store.specs.declared.region.Region.{Region}
use Rattle.chain_store.specs.Holds.{seen_in, entries_seen}
use Rattle.lawful_run.specs.Reads.{greatest_stamp}
use Rattle.append_core.specs.declared.several.MultiFault.{MultiFault}
use Rattle.append_core.specs.declared.stood.Point.{Point}
use Rattle.append_core.specs.declared.several.MultiFault.TheVariants as append_faults
use Rattle.playback.specs.declared.player.Played.{Played}
use Rattle.log_client.specs.declared.store.Store.{Store}
use Rattle.log_client.specs.declared.client.Client.{Client}
use Rattle.log_client.specs.declared.track.Track.{Track}
use Rattle.log_client.specs.declared.answers.Appended.{Appended}
use Rattle.log_client.specs.declared.answers.Synced.{Synced}
use Rattle.log_client.specs.declared.faults.SyncFault.{SyncFault}
use Rattle.log_client.specs.declared.faults.SyncFault.TheVariants.{Trimmed, NoMemory}
use Rattle.log_client.specs.Fits.{HaveGoneOn}
use Rattle.log_client.specs.Clients.{IsClient, Finished, Helps, PlaysNodes, holds_of, tracks_of}
use Rattle.log_client.specs.Growing.{HasGrown}
use Rattle.log_client.specs.Calls.{IsExplained, IsSame}
use Rattle.log_client.specs.Appends.{AppendsAs, AppendRefused, HasNoRow, AppendStopped}

-- An append of a client that was called with colours, a text and a stop: what it left of the client, and why it answered so.
pub record CallsAppend (s : Store) (c d : Client) (colours : Colours) (text : List ℕ) (stop : Option ℕ)
    (result : Result Appended MultiFault) : Type 0 where
  pub client : IsClient s d
  pub same : IsSame c d
  pub goes : HaveGoneOn (holds_of c) (holds_of d)
  pub grows : HasGrown c d
  pub plays : tracks_of d ≡ tracks_of c
  pub finished : Finished c → Finished d ⊎ AppendStopped result
  pub idle : stop ≢ None → Helps d → Helps c
  pub answer : MatchResult result
      (λ a. (stop ≡ None) × IsExplained s c d (AppendsAs colours text a))
      (AppendRefused s c d colours text stop)
  pub points : IfOk result (λ a. map (λ (p : Point). p.colour) a.stood.points ≡ members colours)
  pub full : (used : ℕ) → (result ≡ Err (append_faults.Full used)) ↔ HasNoRow s c colours stop used

-- the column of a colour, as the hold has seen it, with its cuts
abbrev pub dated_seen : Region → Hold → ℕ → List Dated
dated_seen r h colour = dated r.number (entries_seen h colour)

-- what was played, and the own line of it, is put at the end of a track, after a look at so many events; the greatest
-- stamp of it
pub record Extends (old new : Track) (events : ℕ) (played : Played) (line : List PlacedNode) (y : Synced)
    (stamp : ℕ) : Type 0 where
  pub track : new
      ≡ record { snapshot = played.snapshot; nodes = old.nodes ++ played.items; line = old.line ++ line }
  pub answer : y ≡ record {
    events = events;
    snapshot = played.snapshot;
    first = length old.nodes;
    count = length played.items;
  }
  pub greatest : stamp ≡ greatest_stamp played.items

-- A sync looked at all that the hold has then seen of the track's colour, and played on the track what was not played
-- before, up to the cut.
pub record PlaysOn (r : Region) (h : Hold) (old new : Track) (y : Synced) (stamp : ℕ) : Type 0 where
  pub nodes : List PlacedNode
  -- the own line of what was played
  pub line : List PlacedNode
  pub heads : map (λ (item : PlacedNode). item.head) line
      ≡ nodes_between (chain r.number (dated_seen r h old.snapshot.colour)) old.snapshot.counts y.snapshot.counts r.number
  pub named : (n : ℕ) (item : PlacedNode) → slice_get line n ≡ Some item
      → Names (seen_in h old.snapshot.colour) item.head.key.id item.node
  pub plays : PlaysNodes r.number (seen_in h old.snapshot.colour) old.snapshot.counts y.snapshot.counts nodes
  pub looked : y.events ≡ length (seen_in h old.snapshot.colour)
  pub is_cut : y.snapshot.counts ≡ cut r.number (dated_seen r h old.snapshot.colour)
  pub not_trimmed : IsWithin (base r.number r.regions (dated_seen r h old.snapshot.colour)) old.snapshot.counts
  pub of_column : y.snapshot
      ≡ record { region = r.number; colour = old.snapshot.colour; counts = y.snapshot.counts }
  pub track : new ≡ record { snapshot = y.snapshot; nodes = old.nodes ++ nodes; line = old.line ++ line }
  pub first : y.first ≡ length old.nodes
  pub count : y.count ≡ length nodes
  pub greatest : stamp ≡ greatest_stamp nodes
  pub in_range : stamp ≤ MAX_STAMP

-- why nothing was played on a track
abbrev pub IsRefusedOn : Region → Hold → Track → SyncFault → Type 0
IsRefusedOn r h old (Trimmed colour shown) =
    (colour ≡ old.snapshot.colour) × (shown ≡ base r.number r.regions (dated_seen r h old.snapshot.colour))
    × (is_within shown old.snapshot.counts ≡ false)
IsRefusedOn r h old NoMemory = Unit {0}
