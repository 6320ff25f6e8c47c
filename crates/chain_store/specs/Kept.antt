-- What is kept of a column's chains.
use Rattle.std.specs.Prelude.{ℕ, ◌≤◌, List, [], ◌∷◌, length, map}
use Rattle.log_node.specs.Seen.{PlacedNode}

-- the nodes of one chain, and for how many more there is room
pub record Kept : Type 0 where
  pub items : List PlacedNode
  pub room : ℕ

-- the nodes of each
abbrev pub kept_items : List Kept → List (List PlacedNode)
kept_items chains = map (λ chain. chain.items) chains

-- in each chain there is room for those that are to come
abbrev pub HasRoom : List Kept → List (List PlacedNode) → Type 0
HasRoom [] more = Unit {0}
HasRoom (chain ∷ chains) [] = ⊥
HasRoom (chain ∷ chains) (items ∷ more) = (length items ≤ chain.room) × HasRoom chains more
