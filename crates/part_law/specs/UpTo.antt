-- All nodes of an object up to a point of one of its lines.
use Rattle.std.specs.Prelude.{◌≡◌, ◌⊎◌, IsTrue, List}
use Rattle.std.specs.List.{AllPairs, Contains}
use Rattle.log_node.specs.declared.ids.Key.{Key}
use Rattle.log_node.specs.Order.{key_below}

-- the key is one of these, or below one of them
abbrev pub IsUpTo : List Key → Key → Type 0
IsUpTo played key = (last : Key) × Contains played last × ((key ≡ last) ⊎ IsTrue (key_below key last))

-- All keys of some lines up to the last of those that were played, each once, in rising order.
pub record AreUpTo (lines : List (List Key)) (played keys : List Key) : Type 0 where
  pub rising : AllPairs (λ a b. IsTrue (key_below a b)) keys
  pub all : (line : List Key) (key : Key) → Contains lines line → Contains line key → IsUpTo played key
      → Contains keys key
  pub no_other : (key : Key) → Contains keys key
      → IsUpTo played key × (line : List Key) × Contains lines line × Contains line key
