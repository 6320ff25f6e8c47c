-- What a store opens with.
use Rattle.std.specs.Prelude.{◌≡◌, ℕ, ◌<◌, ◌≤◌, List, [], ◌∷◌, ◌++◌, length, Some, slice_get}
use Rattle.log_node.specs.declared.node.Shape.{Shape}
use Rattle.log_node.specs.Vectors.{zeros}
use Rattle.chain_store.specs.declared.hold.Hold.{Hold}
use Rattle.chain_store.specs.declared.region.Region.{Region}
use Rattle.chain_store.specs.Holds.{IsHold}
use Rattle.chain_store.specs.Opening.{IsNewHold}
use Rattle.col_core.specs.Keeping.{nothing_kept}
use Rattle.script_text.specs.declared.script.Object.{Object}
use Rattle.log_client.specs.declared.store.Store.{Store}
use Rattle.log_client.specs.declared.client.Client.{Client}
use Rattle.log_client.specs.declared.track.Track.{Track}
use Rattle.log_client.specs.Clients.{IsClient, Keeps, Finished, Helps, holds_of}

-- nothing is played on it
abbrev pub fresh_track : ℕ → ℕ → Track
fresh_track region colour =
    record { snapshot = record { region = region; colour = colour; counts = zeros }; nodes = []; line = [] }

-- such a track of each colour
abbrev pub AreFreshTracks : ℕ → ℕ → List Track → Type 0
AreFreshTracks region colours tracks =
    (length tracks ≡ colours)
    × ((colour : ℕ) (track : Track) → slice_get tracks colour ≡ Some track → track ≡ fresh_track region colour)

-- a client that has used no id, begun no row and played nothing
pub record IsFresh (shape : Shape) (n : ℕ) (c : Client) : Type 0 where
  pub number : c.number ≡ n
  pub home : slice_get shape.homes n ≡ Some c.region
  pub floor : c.floor ≡ 0
  pub count : c.count ≡ 0
  pub rows : c.rows.items ≡ []
  pub tracks : AreFreshTracks c.region shape.colours c.tracks.items

-- a fresh client of each home
abbrev pub AreClientsOfHomes : Shape → List Client → Type 0
AreClientsOfHomes shape clients =
    (length clients ≡ length shape.homes)
    × ((n : ℕ) (c : Client) → slice_get clients n ≡ Some c → IsFresh shape n c)

-- no client has a hold
abbrev pub HaveNoHolds : List Client → Type 0
HaveNoHolds clients = (n : ℕ) (c : Client) → slice_get clients n ≡ Some c → holds_of c ≡ []

-- d is c with one more hold behind those that it had
pub record GotHold (c d : Client) (h : Hold) : Type 0 where
  pub number : d.number ≡ c.number
  pub region : d.region ≡ c.region
  pub floor : d.floor ≡ c.floor
  pub count : d.count ≡ c.count
  pub rows : d.rows ≡ c.rows
  pub tracks : d.tracks ≡ c.tracks
  pub holds : holds_of d ≡ holds_of c ++ h ∷ []

-- the clients from the number i on got the hold of their number
pub record DealtHolds (old new : List Client) (holds : List Hold) (i : ℕ) : Type 0 where
  pub same : length new ≡ length old
  pub got : (n : ℕ) (d : Client) → i ≤ n → slice_get new n ≡ Some d
      → (c : Client) × (h : Hold) × (slice_get old n ≡ Some c) × (slice_get holds n ≡ Some h) × GotHold c d h
  pub early : (n : ℕ) → n < i → slice_get new n ≡ slice_get old n

-- The client n has a new hold of each of the regions, by number.
pub record HasNewHolds (rs : List Region) (n : ℕ) (hs : List Hold) : Type 0 where
  pub count : length hs ≡ length rs
  pub each : (k : ℕ) (r : Region) (h : Hold) → slice_get rs k ≡ Some r → slice_get hs k ≡ Some h
      → IsHold r h × IsNewHold h × (h.passes.number ≡ n)

abbrev pub HaveNewHolds : List Region → List Client → Type 0
HaveNewHolds rs clients =
    (n : ℕ) (c : Client) → slice_get clients n ≡ Some c → HasNewHolds rs n (holds_of c)

-- The client with this number, who keeps nothing yet.
pub record IsNewClient (shape : Shape) (s : Store) (n : ℕ) (c : Client) : Type 0 where
  pub number : c.number ≡ n
  pub home : slice_get shape.homes n ≡ Some c.region
  pub rests : IsClient s c
  pub keeps : (objects : List Object) → Keeps s c objects nothing_kept
  pub finished : Finished c
  pub idle : Helps c → ⊥

-- new clients of all homes, by number
abbrev pub AreNewClients : Shape → Store → List Client → Type 0
AreNewClients shape s clients =
    (length clients ≡ length shape.homes)
    × ((n : ℕ) (c : Client) → slice_get clients n ≡ Some c → IsNewClient shape s n c)
