-- Begun appends are helped, so that no open entry stands below a key.
use Rattle.std.specs.Prelude.{ℕ, zero, suc, ◌+◌, List, [], ◌∷◌, length, Option, Some, None, slice_get}
use Rattle.std.specs.List.{fold}
use Rattle.log_node.specs.declared.ids.Id.{Id}
use Rattle.log_node.specs.declared.ids.Key.{Key}
use Rattle.log_node.specs.declared.ids.Row.{Row}
use Rattle.log_node.specs.declared.node.Node.{Node}
use Rattle.log_node.specs.Standings.{Standing}
pub use Rattle.col_core.specs.Ids.{open_below}
use Rattle.world_laws.specs.Worlds.{World, home_history, run_steps}
use Rattle.world_laws.specs.Completing.{complete_steps}
use Rattle.script_meaning.specs.States.{Grants}

-- the world, and how many helps the command has given
pub record Helping : Type 0 where
  pub world : World
  pub helps : ℕ

-- the node with an id, where there is one
abbrev pub node_by_id : World → Id → Option Node
node_by_id w id = slice_get (w.nodes id.client) id.count

-- The row is helped, where the node has one: its missing marks are set, it is decided and settled.
abbrev pub helped_row : Grants → ℕ → Helping → Option Row → Helping
helped_row grants by h None = h
helped_row grants by h (Some row) = record {
  world = run_steps h.world (complete_steps h.world by row (grants.helps h.helps));
  helps = h.helps + 1;
}

-- the row of a node is helped
abbrev pub helped_node : Grants → ℕ → Helping → Option Node → Helping
helped_node grants by h None = h
helped_node grants by h (Some node) = helped_row grants by h node.row

-- the first of these open entries is helped
abbrev pub helped_first : Grants → ℕ → Helping → List Standing → Helping
helped_first grants by h [] = h
helped_first grants by h (e ∷ es) = helped_node grants by h (node_by_id h.world e.key.id)

-- So many times the least open entry of the colour's column below the key is helped, where there is one.
abbrev pub helped_times : ℕ → Grants → ℕ → ℕ → Key → Helping → Helping
helped_times zero grants by colour key h = h
helped_times (suc n) grants by colour key h =
    helped_times n grants by colour key (helped_first grants by h (open_below key (home_history h.world by colour)))

-- The colour's column is cleared below the key: no more helps are needed than it has open entries there at first.
abbrev pub cleared : Grants → ℕ → Key → Helping → ℕ → Helping
cleared grants by key h colour =
    helped_times (length (open_below key (home_history h.world by colour))) grants by colour key h

-- one colour after another, the world after its other steps
abbrev pub all_cleared : Grants → ℕ → Key → List ℕ → World → World
all_cleared grants by key colours w = (fold (cleared grants by key) (record { world = w; helps = 0 }) colours).world
