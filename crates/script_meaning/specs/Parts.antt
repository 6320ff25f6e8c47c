-- Peeks and decides: what one colour's line tells of a transactional map, and decisions.
use Rattle.std.specs.Prelude.{Bool, false, ℕ, List, [], length, map, Option, Some, None, unwrap_or, if◌then◌else◌}
use Rattle.log_node.specs.declared.ids.Key.{Key}
use Rattle.log_node.specs.Vectors.{at}
use Rattle.object_fold.specs.Maps.{Value}
use Rattle.object_fold.specs.Nodes.{ObjectNode, shard_of}
use Rattle.object_fold.specs.Transactions.{verdict_of}
use Rattle.part_fold.specs.Agreement.{outcome, part_at}
use Rattle.part_fold.specs.Decisions.{decision_text}
use Rattle.part_fold.specs.Parts.{Part, place_of, part_value, undecided_after}
use Rattle.world_laws.specs.declared.steps.Step.TheVariants.{Play}
use Rattle.world_laws.specs.Worlds.{World, home_of, next_id, may_single, single_stamp, may_play, played_cut, after}
use Rattle.script_text.specs.declared.script.Object.{Object}
use Rattle.script_text.specs.declared.script.Command.{Command}
use Rattle.report_text.specs.declared.report.Answer.{Answer}
use Rattle.report_text.specs.declared.report.Answer.TheVariants as answers
use Rattle.report_text.specs.declared.report.Ended.{Ended}
use Rattle.report_text.specs.declared.report.Ended.TheVariants as ends
use Rattle.report_text.specs.declared.report.RaisePiece.{RaisePiece}
use Rattle.report_text.specs.declared.report.SyncPiece.{SyncPiece}
use Rattle.lawful_run.specs.Asks.{colours_of_object, rising}
use Rattle.script_meaning.specs.States.{State, Grants, answered}
use Rattle.script_meaning.specs.Appends.{point_in, with_single}
use Rattle.script_meaning.specs.Stamped.{stamped_read, ended_so}
use Rattle.script_meaning.specs.Objects.{caller_in}
use Rattle.script_meaning.specs.Dequeues.{object_node_at, first_nodes, sync_now, base_now}

-- the part of a key's shard, of a map with these colours
abbrev pub part_of : List ℕ → List ℕ → Part
part_of colours key = part_at colours (place_of (length colours) key)

-- the own nodes of a colour that a client has played when it plays it now
abbrev pub nodes_now : World → ℕ → ℕ → List ObjectNode
nodes_now w client colour = first_nodes w client colour (at (played_cut w client colour) (home_of w client))

-- the answer to a peek: the key's value, unless the part waits for a transaction
abbrev pub peek_answer : Option Key → Value → SyncPiece → Answer
peek_answer None value sync = answers.Got value sync
peek_answer (Some waits) value sync = answers.Undecided waits.stamp sync

-- A peek at a key of a map with these colours: the client plays the shard of the key up to the cut; refused where a node that
-- it has not played is trimmed.
abbrev pub peeked : State → Command → List ℕ → List ℕ → State
peeked state command colours key =
    let w = state.world in
    let client = command.client in
    let colour = shard_of colours key in
    let nodes = nodes_now w client colour in
    let part = part_of colours key in
    if may_play w client colour then
    answered state command (after w (Play client colour))
    (peek_answer (undecided_after part nodes) (part_value part nodes key) (sync_now w client colour)) []
    else answered state command w (answers.Trimmed colour (base_now w client colour)) []

-- whether the transaction with a key commits among these nodes; it is one of them, so there is an outcome
abbrev pub commits_among : List ObjectNode → Key → Bool
commits_among nodes key = unwrap_or (outcome (verdict_of nodes key)) false

-- A decision with this text, whose node is appended to the colour: it stands; no stamp is left; or no memory is granted, and
-- nothing is done.
abbrev pub decision_ended : Grants → State → Command → World → ℕ → List ℕ → (Ended → Answer) → State
decision_ended grants state command w colour text told =
    let client = command.client in
    let after_all = with_single grants w client text colour in
    if grants.own then
    (if may_single w client colour then
    answered state command after_all
    (told (ends.Stood (single_stamp w client colour) (point_in w after_all client (next_id w client) colour))) []
    else answered state command w (told (ends.StampEnd colour)) [])
    else answered state command w (told ends.NoMemory) []

-- A decision on the transaction with a key, behind the sync and a stamped read that is whole and has read the nodes with
-- these keys of a world: its node says what became of the transaction.
abbrev pub decided_in : Grants → State → Command → Key → SyncPiece → World → ℕ → List RaisePiece → List SyncPiece → List Key
    → State
decided_in grants state command waits sync w stamp raises syncs read =
    let commits = commits_among (map (object_node_at w) read) waits in
    decision_ended grants state command w sync.colour (decision_text (record { key = waits; commits = commits }))
    (answers.Decided commits waits.stamp sync stamp raises syncs)

-- A decide behind its sync, by the transaction for which the part waits: a stamped read of all colours, and then the decision.
abbrev pub decided_by : Grants → State → Command → List ℕ → SyncPiece → World → Option Key → State
decided_by grants state command colours sync w None = answered state command w (answers.Got None sync) []
decided_by grants state command colours sync w (Some waits) =
    let read = stamped_read (record grants { helps = grants.read_helps }) w command.client (rising colours) in
    ended_so grants state command (decided_in grants state command waits sync read.world) read.world read.ends

-- A decide on a key of a map: the client plays the shard of the key up to the cut; refused where a node that it has not
-- played is trimmed.
abbrev pub decided : List Object → Grants → State → Command → ℕ → List ℕ → State
decided objects grants state command object key =
    let w = state.world in
    let client = command.client in
    let colours = colours_of_object (caller_in w objects client) object in
    let colour = shard_of colours key in
    if may_play w client colour then
    decided_by grants state command colours (sync_now w client colour) (after w (Play client colour))
    (undecided_after (part_of colours key) (nodes_now w client colour))
    else answered state command w (answers.Trimmed colour (base_now w client colour)) []
