-- The orders that are tried, and what the reader sees.
use Rattle.std.specs.Prelude.{ℕ, List, [], ◌∷◌, ◌++◌, take, drop, codes}
use Rattle.log_node.specs.declared.ids.Row.{Row}
use Rattle.log_node.specs.declared.node.Shape.{Shape}
use Rattle.log_node.specs.Sets.{set_of}
use Rattle.log_node.specs.Vectors.{at}
use Rattle.world_laws.specs.declared.steps.Step.{Step}
use Rattle.world_laws.specs.declared.steps.Step.TheVariants as steps
use Rattle.world_laws.specs.Worlds.{World}
use Rattle.example_orders.specs.declared.orders.Sight.{Sight}

-- one region with two colours and two clients, of whom each may begin one row
abbrev pub small : Shape
small = record { regions = 1; colours = 2; homes = 0 ∷ 0 ∷ []; rows = 1 }

-- the writer's row
abbrev pub row : Row
row = record { client = 0; number = 0 }

-- the steps of an append to both colours, in the writer's order
abbrev pub writer : List Step
writer =
    steps.Begin 0 (set_of (0 ∷ 1 ∷ [])) (codes "note") ∷ steps.Propose 0 row 0 ∷ steps.Propose 0 row 1 ∷ steps.Decide row
    ∷ steps.Settle 0 row 0 ∷ steps.Settle 0 row 1 ∷ []

-- the reader plays the left colour after the first so many of them, and the right one after more
abbrev pub in_order : ℕ → ℕ → List Step
in_order first second =
    take first writer ++ (steps.Play 1 0 ∷ (drop first (take second writer) ++ (steps.Play 1 1 ∷ [])))

-- how many nodes the reader has played of each colour
abbrev pub sight_of : World → Sight
sight_of w = record { left = at ((w.clients 1).played 0) 0; right = at ((w.clients 1).played 1) 0 }
