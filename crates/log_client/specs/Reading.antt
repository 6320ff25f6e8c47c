-- What the functions within a stamped read say of each other.
use Rattle.std.specs.Prelude.{◌≡◌, ◌≢◌, ◌⊎◌, ℕ, ◌≤◌, List, [], ◌∷◌, ◌++◌, ◌+◌, length, map, take, slice_get}
use Rattle.std.specs.List.{All, Contains}
use Rattle.log_node.specs.declared.ids.Key.{Key}
use Rattle.log_node.specs.declared.node.At.{At}
use Rattle.log_node.specs.Seen.{PlacedNode}
use Rattle.col_core.specs.declared.Entry.{Entry}
use Rattle.col_core.specs.History.{clock, line, entry_key}
use Rattle.col_core.specs.Ids.{open_below}
use Rattle.col_core.specs.Log.{Log}
use Rattle.col_core.specs.Keeping.{Kept, kept_after_sync, seen_after}
use Rattle.script_text.specs.declared.script.Object.{Object}
use Rattle.report_text.specs.declared.report.RaisePiece.{RaisePiece}
use Rattle.lawful_run.specs.Callers.{Caller}
use Rattle.lawful_run.specs.Reads.{Syncs, ShowsPlayed, RaisesClock, kept_after_place, Raises, IsTrimmed, events_until, greatest_stamp, greatest_played}
use Rattle.col_core.specs.RegionOrder.{IsClearUpTo}
use Rattle.client_law.specs.Knowing.{Rest, log_seen}
use Rattle.log_client.specs.declared.store.Store.{Store}
use Rattle.log_client.specs.declared.client.Client.{Client}
use Rattle.log_client.specs.declared.answers.Raised.{Raised}
use Rattle.log_client.specs.declared.answers.Synced.{Synced}
use Rattle.log_client.specs.declared.faults.SyncFault.{SyncFault}
use Rattle.log_client.specs.declared.faults.SyncFault.TheVariants as sync_faults
use Rattle.log_client.specs.Fits.{FitsHolds, HaveGoneOn}
use Rattle.log_client.specs.Clients.{holds_of, seen_of, tracks_of, own_line, caller_of, IsClient, Keeps, Finished}
use Rattle.log_client.specs.Growing.{HasGrown}
use Rattle.log_client.specs.Calls.{IsSame, nodes_played}
use Rattle.log_client.specs.StampedReads.{raise_piece}

-- the client d is c at rest at a later time
pub record RestsOn (s : Store) (c d : Client) : Type 0 where
  pub client : IsClient s d
  pub same : IsSame c d
  pub goes : HaveGoneOn (holds_of c) (holds_of d)
  pub grows : HasGrown c d
  pub finished : Finished c → Finished d

-- the history of a colour of its region that the client has seen
abbrev pub home_seen : Client → ℕ → List Entry
home_seen c colour = seen_of c c.region colour

-- Of whatever a finished client kept before the call it keeps the result of the function after it, and the record holds of
-- the log that it has then seen, beside whatever fits what it knows.
abbrev pub KeepsWith : Store → Client → Client → (Kept → Kept) → (Log → Caller → Kept → Type 0) → Type 0
KeepsWith s c d after Record =
    (objects : List Object) (kept : Kept) → Finished c → Keeps s c objects kept
    → Keeps s d objects (after kept)
    × ((rest : Rest) → FitsHolds (holds_of d) rest → Record (log_seen (seen_of d) rest) (caller_of s d objects) kept)

-- it keeps what it kept
abbrev pub KeepsAll : Store → Client → Client → Type 0
KeepsAll s c d = KeepsWith s c d (λ kept. kept) (λ log caller kept. Unit {0})

-- THE STAMP

-- the stamp is the client's floor, or a clock that it has looked at since
abbrev pub IsChosen : Client → Client → List ℕ → ℕ → Type 0
IsChosen c d colours stamp =
    (stamp ≡ c.floor)
    ⊎ ((colour : ℕ) × Contains colours colour
    × (events : ℕ) × (length (home_seen c colour) ≤ events) × (events ≤ length (home_seen d colour))
    × (stamp ≡ clock (take events (home_seen d colour))))

-- RAISES

-- The clock of the colour's column was raised to the stamp, as the answer says.
pub record RaisesOne (s : Store) (c d : Client) (stamp colour : ℕ) (at : At) : Type 0 where
  pub keeps : KeepsWith s c d (λ kept. kept_after_place kept c.region colour at) (λ log caller kept.
      RaisesClock log caller kept stamp colour at)
  pub since : length (home_seen c colour) ≤ events_until at
  pub within : seen_after at ≤ length (home_seen d colour)
  pub reached : stamp ≤ clock (home_seen d colour)

-- what is kept after raises, one after another
abbrev pub kept_raised : ℕ → List RaisePiece → Kept → Kept
kept_raised own [] kept = kept
kept_raised own (raise ∷ raises) kept = kept_raised own raises (kept_after_place kept own raise.colour raise.at)

-- The clocks of some colours' columns were raised to the stamp, as the answers say.
pub record RaisesAll (s : Store) (c d : Client) (stamp : ℕ) (raises : List Raised) : Type 0 where
  pub keeps : KeepsWith s c d (kept_raised c.region (map raise_piece raises)) (λ log caller kept.
      Raises log caller stamp kept (map raise_piece raises) (kept_raised c.region (map raise_piece raises) kept))
  pub since : All (λ (r : Raised). length (home_seen c r.colour) ≤ events_until r.at) raises
  pub within : All (λ (r : Raised). seen_after r.at ≤ length (home_seen d r.colour)) raises
  pub reached : All (λ (r : Raised). stamp ≤ clock (home_seen d r.colour)) raises

-- the colours of raises
abbrev pub raised_colours : List Raised → List ℕ
raised_colours raises = map (λ (r : Raised). r.colour) raises

-- the first of these colours were raised
abbrev pub RaisesFirst : Store → Client → Client → ℕ → List ℕ → Type 0
RaisesFirst s c d stamp colours =
    (raises : List Raised) × (left : List ℕ) × (raised_colours raises ++ left ≡ colours) × RaisesAll s c d stamp raises

-- CLEARED

-- the least key above a stamp
abbrev pub key_above : ℕ → Key
key_above stamp = entry_key (stamp + 1) (record { client = 0; count = 0 })

-- the history's clock is at the stamp, and nothing up to it is open
pub record IsCleared (stamp : ℕ) (history : List Entry) : Type 0 where
  pub reached : stamp ≤ clock history
  pub clear : open_below (key_above stamp) history ≡ []

-- SYNCS

-- the keys of nodes
abbrev pub keys_of : List PlacedNode → List Key
keys_of nodes = map (λ (item : PlacedNode). item.head.key) nodes

-- what a client keeps after a sync that played what it names
abbrev pub kept_after_playing : Client → Synced → Kept → Kept
kept_after_playing d y kept =
    kept_after_sync kept d.region y.snapshot.colour y.events y.snapshot.counts
    (greatest_stamp (nodes_played d y.snapshot.colour y))

-- the colour was synced, as the answer says
pub record PlaysColour (s : Store) (c d : Client) (colour : ℕ) (y : Synced) : Type 0 where
  pub of_colour : y.snapshot.colour ≡ colour
  pub looked : y.events ≡ length (home_seen d colour)
  pub keeps : KeepsWith s c d (kept_after_playing d y) (λ log caller kept.
      Syncs log caller kept colour y.events y.snapshot.counts
      × ShowsPlayed log caller kept colour y.events y.snapshot.counts (nodes_played d colour y))
  -- the own line that the client then holds is that of the column
  pub line : keys_of (own_line d colour) ≡ line (home_seen d colour)
  pub others : (m : ℕ) → m ≢ colour → slice_get (tracks_of d) m ≡ slice_get (tracks_of c) m

-- a play of the colour was refused, and what is kept stays
abbrev pub RefusesColour : Store → Client → Client → ℕ → SyncFault → Type 0
RefusesColour s c d colour (sync_faults.Trimmed shown base) =
    (shown ≡ colour) × KeepsWith s c d (λ kept. kept) (λ log caller kept. IsTrimmed log caller kept colour base)
RefusesColour s c d colour sync_faults.NoMemory = KeepsAll s c d

-- a sync, and the greatest stamp that it played
pub record Playing : Type 0 where
  pub sync : Synced
  pub stamp : ℕ

-- what is kept after syncs, one after another
abbrev pub kept_synced : ℕ → List Playing → Kept → Kept
kept_synced own [] kept = kept
kept_synced own (p ∷ ps) kept =
    kept_synced own ps
    (kept_after_sync kept own p.sync.snapshot.colour p.sync.events p.sync.snapshot.counts p.stamp)

-- the syncs stand one after another, no open entry up to the stamp is left after each, and each played as it says
abbrev pub AreSyncs : Log → Caller → ℕ → Kept → List Playing → Type 0
AreSyncs log caller stamp kept [] = Unit {0}
AreSyncs log caller stamp kept (p ∷ ps) =
    Syncs log caller kept p.sync.snapshot.colour p.sync.events p.sync.snapshot.counts
    × IsClearUpTo stamp (take p.sync.events (log.histories caller.own p.sync.snapshot.colour))
    × (p.stamp ≡ greatest_played log caller kept p.sync.snapshot.colour p.sync.events p.sync.snapshot.counts)
    × AreSyncs log caller stamp
    (kept_after_sync kept caller.own p.sync.snapshot.colour p.sync.events p.sync.snapshot.counts p.stamp) ps

-- the syncs of plays, and their colours
abbrev pub syncs_of : List Playing → List Synced
syncs_of played = map (λ (p : Playing). p.sync) played

abbrev pub synced_colours : List Synced → List ℕ
synced_colours syncs = map (λ (y : Synced). y.snapshot.colour) syncs

-- the own line that the client holds is that of what the sync looked at, which is cleared up to the stamp
abbrev pub HoldsLine : Client → ℕ → Synced → Type 0
HoldsLine d stamp y =
    (y.events ≤ length (home_seen d y.snapshot.colour))
    × (keys_of (own_line d y.snapshot.colour) ≡ line (take y.events (home_seen d y.snapshot.colour)))
    × IsCleared stamp (take y.events (home_seen d y.snapshot.colour))

-- what is kept after syncs of colours that are cleared up to the stamp, and what explains them
abbrev pub SyncsKeep : Store → Client → Client → ℕ → List Playing → Type 0
SyncsKeep s c d stamp played =
    KeepsWith s c d (kept_synced c.region played) (λ log caller kept. AreSyncs log caller stamp kept played)

-- Some colours, each cleared up to the stamp, were synced, as the answers say.
pub record SyncsAll (s : Store) (c d : Client) (stamp : ℕ) (played : List Playing) : Type 0 where
  pub keeps : SyncsKeep s c d stamp played
  pub lines : All (HoldsLine d stamp) (syncs_of played)

-- each of these colours is cleared up to the stamp, as far as the client has seen
abbrev pub AreCleared : Client → ℕ → List ℕ → Type 0
AreCleared c stamp colours = All (λ colour. IsCleared stamp (home_seen c colour)) colours

-- These colours were synced, whatever stamp they were cleared up to.
abbrev pub SyncsEach : Store → Client → Client → List ℕ → List Synced → Type 0
SyncsEach s c d colours syncs =
    (played : List Playing) × (syncs_of played ≡ syncs) × (synced_colours syncs ≡ colours)
    × ((stamp : ℕ) → AreCleared c stamp colours → SyncsAll s c d stamp played)

-- the play of the first colour that is left was refused, after these
abbrev pub RefusesLeft : Store → Client → Client → List Playing → List ℕ → SyncFault → Type 0
RefusesLeft s c d played left (sync_faults.Trimmed shown base) =
    (behind : List ℕ) × (left ≡ shown ∷ behind)
    × KeepsWith s c d (kept_synced c.region played) (λ log caller kept.
    IsTrimmed log caller (kept_synced caller.own played kept) shown base)
RefusesLeft s c d played left sync_faults.NoMemory = Unit {0}

-- The first of these colours were synced, and the play of the next was refused, or memory.
pub record SyncsFirst (s : Store) (c d : Client) (colours : List ℕ) (fault : SyncFault) : Type 0 where
  pub played : List Playing
  pub left : List ℕ
  pub apart : synced_colours (syncs_of played) ++ left ≡ colours
  pub all : (stamp : ℕ) → AreCleared c stamp colours → SyncsKeep s c d stamp played
  pub why : (stamp : ℕ) → AreCleared c stamp colours → RefusesLeft s c d played left fault
