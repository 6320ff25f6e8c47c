-- Stores that tests begin with, and players beside them.
use Rattle.std.specs.Prelude.{◌≡◌, ℕ, [], ◌∷◌}
use Rattle.stamp_board.specs.declared.view.Size.{Size}
use Rattle.log_client.specs.declared.store.Store.{Store}
use Rattle.tx_parts.specs.declared.player.PartPlayer.{PartPlayer}

-- two colours, and two clients with one row each
abbrev pub small : Size
small = record { clients = 2; colours = 2; rows = 1 }

-- a store of regions that are so small
pub record IsSmall (s : Store) : Type 0 where
  pub size : s.size ≡ small

-- a player of this colour of a map of both colours
pub record IsPartOf (colour : ℕ) (p : PartPlayer) : Type 0 where
  pub colours : p.colours ≡ 0 ∷ 1 ∷ []
  pub own : p.colour ≡ colour
