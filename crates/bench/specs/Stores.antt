-- The store that is measured.
use Rattle.std.specs.Prelude.{◌≡◌, length}
use Rattle.log_client.specs.declared.store.Store.{Store}

-- a store of two regions and two colours
pub record IsBench (s : Store) : Type 0 where
  pub regions : length s.regions ≡ 2
  pub colours : s.size.colours ≡ 2
