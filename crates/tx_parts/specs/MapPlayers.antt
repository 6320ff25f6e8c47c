-- What the players of a map's colours keep beside their client, and what their calls answer.
use Rattle.std.specs.Prelude.{◌≡◌, ◌⊎◌, ℕ, ◌≤◌, List, length, Some, slice_get}
use Rattle.log_node.specs.declared.limits.TheConstants.{MAX_COLOURS}
use Rattle.object_fold.specs.Nodes.{shard_of}
use Rattle.log_client.specs.declared.store.Store.{Store}
use Rattle.log_client.specs.declared.client.Client.{Client}
use Rattle.log_client.specs.declared.object_fault.ObjectFault.{ObjectFault}
use Rattle.log_client.specs.Objects.{GetRefused, HasColoursOf, IsAwayFrom}
use Rattle.log_client.specs.Refusals.{RefusedBy, never}
use Rattle.tx_parts.specs.declared.player.PartPlayer.{PartPlayer}
use Rattle.tx_parts.specs.declared.players.PartPlayers.{PartPlayers}
use Rattle.tx_parts.specs.Players.{IsPlayerOf}
use Rattle.tx_parts.specs.Deciding.{DecideRefused}

-- the player is of a map with this home and these colours
abbrev pub IsOfMap : ℕ → List ℕ → PartPlayer → Type 0
IsOfMap home colours p = (p.home ≡ home) × (p.colours ≡ colours)

-- They are kept beside the client, whose colours the map's are.
pub record ArePlayersOf (c : Client) (ps : PartPlayers) : Type 0 where
  pub colours : HasColoursOf c ps.colours
  pub few : length ps.colours ≤ MAX_COLOURS
  pub each : (n : ℕ) (p : PartPlayer) → slice_get ps.players.items n ≡ Some p
      → IsPlayerOf c p × IsOfMap ps.home ps.colours p

-- They are the other ones: what is folded may differ, and some may have been opened.
abbrev pub AreSamePlayers : PartPlayers → PartPlayers → Type 0
AreSamePlayers ps qs = (qs.home ≡ ps.home) × (qs.colours ≡ ps.colours)

-- the player is that of the shard of a key
pub record IsOfKey (home : ℕ) (colours key : List ℕ) (p : PartPlayer) : Type 0 where
  pub of : IsOfMap home colours p
  pub colour : p.colour ≡ shard_of colours key
  pub own : slice_get p.colours p.place ≡ Some p.colour

-- this is so of the player of a key
abbrev pub OfKey : PartPlayers → List ℕ → (PartPlayer → Type 0) → Type 0
OfKey ps key Says = (p : PartPlayer) × IsOfKey ps.home ps.colours key p × Says p

-- the player at this place of those that were opened is the key's
abbrev pub IsAtPlace : PartPlayers → List ℕ → ℕ → Type 0
IsAtPlace ps key place =
    (p : PartPlayer) × (slice_get ps.players.items place ≡ Some p) × IsOfKey ps.home ps.colours key p

-- REFUSALS

-- Why no player was asked: the client is of another region than the home, or there was no memory for the player.
abbrev pub NotAsked : ℕ → Client → Client → ObjectFault → Type 0
NotAsked home c d = RefusedBy (record never { away = IsAwayFrom (Some home) c d; memory = d ≡ c })

-- why a peek at a key was refused
abbrev pub PeeksNot : Store → Client → Client → PartPlayers → List ℕ → ObjectFault → Type 0
PeeksNot s c d ps key fault =
    NotAsked ps.home c d fault ⊎ GetRefused (Some ps.home) s c d (shard_of ps.colours key) fault

-- why a decide by a key was refused, which has appended nothing
abbrev pub DecidesNot : Store → Client → Client → PartPlayers → List ℕ → ObjectFault → Type 0
DecidesNot s c d ps key fault =
    NotAsked ps.home c d fault ⊎ OfKey ps key (λ p. DecideRefused s c d p fault)
