-- Several columns of one region in one order, as stamped reads have them.
use Rattle.std.specs.Prelude.{◌≡◌, IsTrue, false, ℕ, ◌<◌, ◌≤◌, List}
use Rattle.std.specs.List.{All, AllPairs, Contains}
use Rattle.log_node.specs.declared.ids.Key.{Key}
use Rattle.log_node.specs.Order.{key_below}
use Rattle.log_node.specs.Standings.{Standing}
use Rattle.col_core.specs.declared.Entry.{Entry}
use Rattle.col_core.specs.History.{entries}

-- The order of a region: all keys of some lines with stamps up to this one, each once, in rising key.
pub record IsRegionOrder (lines : List (List Key)) (stamp : ℕ) (keys : List Key) : Type 0 where
  pub rising : AllPairs (λ a b. IsTrue (key_below a b)) keys
  pub all : (line : List Key) (key : Key) → Contains lines line → Contains line key → key.stamp ≤ stamp → Contains keys key
  pub no_other : (key : Key) → Contains keys key
      → (key.stamp ≤ stamp) × (line : List Key) × Contains lines line × Contains line key

-- no open entry of the history has a stamp up to this one
abbrev pub IsClearUpTo : ℕ → List Entry → Type 0
IsClearUpTo stamp history = All (λ (e : Standing). e.settled ≡ false → stamp < e.key.stamp) (entries history)
