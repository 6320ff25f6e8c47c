-- What objects answer by the nodes of a column's own line, and dequeues.
use Rattle.std.specs.Prelude.{ℕ, List, [], ◌∷◌, length, map, take, unwrap_or, if◌then◌else◌}
use Rattle.log_node.specs.declared.ids.Counts.{Counts}
use Rattle.log_node.specs.declared.ids.Key.{Key}
use Rattle.log_node.specs.declared.forms.Form.TheVariants as forms
use Rattle.object_form.specs.Forms.{form_text}
use Rattle.object_fold.specs.Nodes.{ObjectNode}
use Rattle.object_fold.specs.Queues.{front_after}
use Rattle.col_core.specs.History.{line}
use Rattle.world_laws.specs.declared.steps.Step.TheVariants.{Play}
use Rattle.world_laws.specs.Worlds.{World, no_row, home_of, home_history, next_id, may_single, single_stamp, may_play, played_cut, base_after, after}
use Rattle.script_text.specs.declared.script.Object.{Object}
use Rattle.script_text.specs.declared.script.Command.{Command}
use Rattle.report_text.specs.declared.report.Answer.TheVariants as answers
use Rattle.report_text.specs.declared.report.PointPiece.{PointPiece}
use Rattle.report_text.specs.declared.report.SyncPiece.{SyncPiece}
use Rattle.lawful_run.specs.Asks.{colours_of_object}
use Rattle.script_meaning.specs.States.{State, Grants, answered}
use Rattle.script_meaning.specs.Helping.{node_by_id}
use Rattle.script_meaning.specs.Appends.{point_in, with_single}
use Rattle.script_meaning.specs.Objects.{caller_in}

-- the node with a key as objects read it
abbrev pub object_node_at : World → Key → ObjectNode
object_node_at w key =
    let node = unwrap_or (node_by_id w key.id) no_row.node in
    record { key = key; colours = node.colours; text = node.text }

-- the first so many nodes of the own line
abbrev pub first_nodes : World → ℕ → ℕ → ℕ → List ObjectNode
first_nodes w client colour count = map (object_node_at w) (take count (line (home_history w client colour)))

-- the sync that a client makes now
abbrev pub sync_now : World → ℕ → ℕ → SyncPiece
sync_now w client colour = record {
  colour = colour;
  events = length (home_history w client colour);
  counts = played_cut w client colour;
}

-- what is trimmed of the colour
abbrev pub base_now : World → ℕ → ℕ → Counts
base_now w client colour = base_after w.shape.regions (home_of w client) (home_history w client colour)

-- A dequeue whose node stands under the stamp at the point: the client plays up to the cut, and the queue's nodes up to
-- the dequeue's own are folded. Where it may not play, or there is no memory for the fold, its node stands all the same.
abbrev pub dequeued_at : Grants → State → Command → World → ℕ → PointPiece → State
dequeued_at grants state command w stamp point =
    let client = command.client in
    if may_play w client point.colour then
    (if grants.fold then
    answered state command (after w (Play client point.colour))
    (answers.Took (front_after (first_nodes w client point.colour point.position)) point
    (sync_now w client point.colour)) []
    else answered state command (after w (Play client point.colour)) (answers.UnreadNoMemory stamp) [])
    else answered state command w
    (answers.UnreadTrimmed stamp point.colour (base_now w client point.colour)) []

-- A dequeue of a queue on this colour: an append of its text, and then a sync.
abbrev pub dequeued_on : Grants → State → Command → ℕ → State
dequeued_on grants state command colour =
    let w = state.world in
    let client = command.client in
    let after_append = with_single grants w client (form_text forms.Dequeue) colour in
    if may_single w client colour then
    dequeued_at grants state command after_append (single_stamp w client colour)
    (point_in w after_append client (next_id w client) colour)
    else answered state command w (answers.StampEnd colour) []

-- a dequeue, by the colours of its object: a queue has one
abbrev pub dequeued_from : Grants → State → Command → List ℕ → State
dequeued_from grants state command [] = state
dequeued_from grants state command (colour ∷ colours) = dequeued_on grants state command colour

-- a dequeue of the object with this number
abbrev pub dequeued : List Object → Grants → State → Command → ℕ → State
dequeued objects grants state command object =
    dequeued_from grants state command (colours_of_object (caller_in state.world objects command.client) object)
