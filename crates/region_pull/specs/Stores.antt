-- Two regions of one store.
use Rattle.std.specs.Prelude.{◌≡◌, ℕ, ◌<◌, ◌≤◌}
use Rattle.log_node.specs.declared.limits.TheConstants.{MAX_REGIONS}
use Rattle.chain_store.specs.declared.region.Region.{Region}

-- they are regions of one store, and have the colour
pub record AreOfOneStore (from to : Region) (colour : ℕ) : Type 0 where
  pub few : from.regions ≤ MAX_REGIONS
  pub regions : to.regions ≡ from.regions
  pub from_number : from.number < from.regions
  pub to_number : to.number < from.regions
  pub from_colour : colour < from.board.size.colours
  pub to_colour : colour < to.board.size.colours
