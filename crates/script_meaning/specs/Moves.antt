-- Syncs, pulls and trims.
use Rattle.std.specs.Prelude.{Bool, ℕ, nat_lt, List, [], length, map, unwrap_or, slice_index_or, if◌then◌else◌, ◌-◌, ◌==◌}
use Rattle.log_node.specs.declared.node.At.TheVariants.{Event, Look}
use Rattle.log_node.specs.declared.node.Head.{Head}
use Rattle.log_node.specs.Seen.{PlacedNode}
use Rattle.col_core.specs.declared.Entry.{Entry}
use Rattle.col_core.specs.History.{entry_key, line}
use Rattle.col_core.specs.PlayOrder.{Place}
use Rattle.world_laws.specs.declared.steps.Step.TheVariants.{Play, Give, Carry, Trim}
use Rattle.world_laws.specs.Worlds.{World, no_row, home_of, home_history, chains_after, base_after, played_cut, after, held_of, may_play}
use Rattle.script_text.specs.declared.script.Command.{Command}
use Rattle.report_text.specs.declared.report.Answer.TheVariants as answers
use Rattle.log_node.specs.declared.node.At.{At}
use Rattle.log_node.specs.Vectors.{zeros}
use Rattle.log_node.specs.Reach.{Chains}
use Rattle.playback.specs.Orders.{play_order}
use Rattle.script_meaning.specs.States.{State, Grants, answered}
use Rattle.script_meaning.specs.Helping.{node_by_id}

-- a node of a chain, with what its client appended
abbrev pub node_placed : World → Head → PlacedNode
node_placed w head = record { head = head; node = unwrap_or (node_by_id w head.key.id) no_row.node }

-- the chains of a colour's column in a client's region
abbrev pub home_chains : World → ℕ → ℕ → Chains
home_chains w client colour = chains_after (home_of w client) (home_history w client colour)

-- what stands where there is no node
abbrev pub no_head : Head
no_head = record { key = entry_key 0 no_row.node.id; needs = zeros }

-- the node at a place of these chains, with what its client appended
abbrev pub placed_at : World → Chains → Place → PlacedNode
placed_at w chains place = node_placed w (slice_index_or (chains place.region) place.position no_head)

-- the nodes that the client has not played, up to the cut, in the order of play
abbrev pub nodes_unplayed : World → ℕ → ℕ → List PlacedNode
nodes_unplayed w client colour =
    let chains = home_chains w client colour in
    map (placed_at w chains) (play_order chains ((w.clients client).played colour) (played_cut w client colour))

-- A sync: the client plays up to the cut; refused where a node that it has not played is trimmed.
abbrev pub synced : State → Command → ℕ → State
synced state command colour =
    let w = state.world in
    let client = command.client in
    let nodes = nodes_unplayed w client colour in
    if may_play w client colour then
    answered state command (after w (Play client colour))
    (answers.Synced (record {
      colour = colour;
      events = length (home_history w client colour);
      counts = played_cut w client colour;
    }) (length nodes)) nodes
    else answered state command w
    (answers.Trimmed colour (base_after w.shape.regions (home_of w client) (home_history w client colour))) []

-- how many nodes of another region's line the column of a client's region lacks
abbrev pub lacking : World → ℕ → ℕ → ℕ → ℕ
lacking w client region colour =
    length (line (w.histories region colour)) - held_of w region (home_of w client) colour

-- the other region's column gives its line from what the client's region holds
abbrev pub with_give : World → ℕ → ℕ → ℕ → World
with_give w client region colour =
    let own = home_of w client in after w (Give client region own colour (held_of w region own colour))

-- and the client's region carries all that it lacks
abbrev pub with_carry : World → ℕ → ℕ → ℕ → World
with_carry w client region colour =
    let own = home_of w client in
    after (with_give w client region colour)
    (Carry client region own colour (held_of w region own colour) (lacking w client region colour))

-- where a column's next event stands, if there is one, else how many events were looked at
abbrev pub next_at : List Entry → Bool → At
next_at history is_event = if is_event then Event (length history) else Look (length history)

-- a pull from another region: where no memory is granted for what is to be carried, it has given alone
abbrev pub pulled_from : Grants → State → Command → ℕ → ℕ → State
pulled_from grants state command region colour =
    let w = state.world in
    let client = command.client in
    let count = lacking w client region colour in
    if grants.carry then
    answered state command (with_carry w client region colour)
    (answers.Pulled count (Event (length (w.histories region colour)))
    (next_at (home_history w client colour) (nat_lt 0 count))) []
    else answered state command (with_give w client region colour) answers.NoMemory []

-- a pull: refused from the client's own region
abbrev pub pulled : Grants → State → Command → ℕ → ℕ → State
pulled grants state command region colour =
    if region == home_of state.world command.client then answered state command state.world answers.SameRegion []
    else pulled_from grants state command region colour

-- a trim: up to what the client has played
abbrev pub trimmed : State → Command → ℕ → State
trimmed state command colour =
    let w = state.world in
    let client = command.client in
    let own = home_of w client in
    let after_trim = after w (Trim client own colour ((w.clients client).played colour)) in
    answered state command after_trim
    (answers.Based (Event (length (home_history w client colour)))
    (base_after w.shape.regions own (home_history after_trim client colour))) []
