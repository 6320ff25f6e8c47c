-- The get of a causal map: what the map answers over nodes, and the command.
use Rattle.std.specs.Prelude.{Bool, ℕ, nat_lt, ◌==◌, ◌&&◌, ◌||◌, not, List, [], ◌∷◌, map, filter, is_some, unwrap_or, if◌then◌else◌}
use Rattle.std.specs.List.{list_any}
use Rattle.std.specs.Ordering.{is_lt, nat_cmp}
use Rattle.std.specs.Cmp.Lexicographic.{slice_cmp}
use Rattle.log_node.specs.Vectors.{at}
use Rattle.log_node.specs.Reach.{Chains}
use Rattle.col_core.specs.PlayOrder.{Place}
use Rattle.object_fold.specs.Causal.{ChainNode, written_value}
use Rattle.world_laws.specs.declared.steps.Step.TheVariants.{Play}
use Rattle.world_laws.specs.Worlds.{World, may_play, played_cut, after}
use Rattle.script_text.specs.declared.script.Command.{Command}
use Rattle.report_text.specs.declared.report.Answer.TheVariants as answers
use Rattle.lawful_run.specs.Objects.{places_within}
use Rattle.script_meaning.specs.States.{State, answered}
use Rattle.script_meaning.specs.Moves.{placed_at, home_chains}
use Rattle.script_meaning.specs.Dequeues.{sync_now, base_now}

-- the one stands behind the other one in its chain, or its needs count the other one
abbrev pub follows_at_once : ChainNode → ChainNode → Bool
follows_at_once node other =
    ((other.region == node.region) && nat_lt other.position node.position)
    || nat_lt other.position (at node.needs other.region)

-- the one follows the other one at once, or through some of these nodes
abbrev pub follows : List ChainNode → ChainNode → ChainNode → Bool
follows [] node other = follows_at_once node other
follows (between ∷ others) node other =
    follows others node other || (follows others node between && follows others between other)

-- the node writes the key
abbrev pub writes : List ℕ → ChainNode → Bool
writes key node = is_some (written_value key node)

-- the node writes the key, and no write of it among these nodes follows it
abbrev pub is_latest_write : List ChainNode → List ℕ → ChainNode → Bool
is_latest_write nodes key node =
    writes key node && not (list_any (λ later. writes key later && follows nodes later node) nodes)

-- a value put in behind those that are less, by their bytes
abbrev pub put_in_order : List ℕ → List (List ℕ) → List (List ℕ)
put_in_order value [] = value ∷ []
put_in_order value (other ∷ others) =
    if is_lt (slice_cmp nat_cmp other value) then other ∷ put_in_order value others else value ∷ other ∷ others

-- values sorted by their bytes
abbrev pub sorted_values : List (List ℕ) → List (List ℕ)
sorted_values [] = []
sorted_values (value ∷ values) = put_in_order value (sorted_values values)

-- the values of the latest writes of the key among these nodes, sorted by their bytes
unfoldable pub causal_values : List ChainNode → List ℕ → List (List ℕ)
causal_values nodes key =
    sorted_values (map (λ node. unwrap_or (written_value key node) []) (filter (is_latest_write nodes key) nodes))

-- the node at a place of these chains, as a causal map reads it
abbrev pub causal_node : World → Chains → Place → ChainNode
causal_node w chains place =
    let item = placed_at w chains place in
    record { region = place.region; position = place.position; needs = item.head.needs; text = item.node.text }

-- the nodes that a client has played of a colour when it has played up to the cut
abbrev pub nodes_up_to_cut : World → ℕ → ℕ → List ChainNode
nodes_up_to_cut w client colour =
    map (causal_node w (home_chains w client colour)) (places_within (played_cut w client colour))

-- A get of a causal map: the client plays up to the cut, and all nodes that it has then played are asked; refused where a
-- node that it has not played is trimmed.
abbrev pub got_values : State → Command → ℕ → List ℕ → State
got_values state command colour key =
    let w = state.world in
    let client = command.client in
    if may_play w client colour then
    answered state command (after w (Play client colour))
    (answers.GotMany (causal_values (nodes_up_to_cut w client colour) key) (sync_now w client colour)) []
    else answered state command w (answers.Trimmed colour (base_now w client colour)) []
