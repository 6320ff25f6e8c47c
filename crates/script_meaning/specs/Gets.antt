-- Gets: what maps answer for keys, after a sync or a stamped read.
use Rattle.std.specs.Prelude.{ℕ, List, [], map, Option, Some, if◌then◌else◌}
use Rattle.log_node.specs.declared.ids.Key.{Key}
use Rattle.log_node.specs.Vectors.{at}
use Rattle.object_fold.specs.Nodes.{shard_of}
use Rattle.object_fold.specs.Maps.{Value, shard_value}
use Rattle.col_core.specs.History.{line}
use Rattle.playback.specs.Merging.{up_to}
use Rattle.world_laws.specs.declared.steps.Step.TheVariants.{Play}
use Rattle.world_laws.specs.Worlds.{World, home_of, home_history, may_play, played_cut, after}
use Rattle.script_text.specs.declared.script.Kind.{Kind}
use Rattle.script_text.specs.declared.script.Kind.TheVariants as kinds
use Rattle.script_text.specs.declared.script.Object.{Object}
use Rattle.script_text.specs.declared.script.Command.{Command}
use Rattle.report_text.specs.declared.report.Answer.{Answer}
use Rattle.report_text.specs.declared.report.Answer.TheVariants as answers
use Rattle.report_text.specs.declared.report.KeyAnswer.{KeyAnswer}
use Rattle.report_text.specs.declared.report.RaisePiece.{RaisePiece}
use Rattle.report_text.specs.declared.report.SyncPiece.{SyncPiece}
use Rattle.lawful_run.specs.Asks.{colours_of_object, shards}
use Rattle.script_meaning.specs.States.{State, Grants, answered}
use Rattle.script_meaning.specs.Objects.{caller_in}
use Rattle.script_meaning.specs.Dequeues.{object_node_at, first_nodes, sync_now, base_now}
use Rattle.script_meaning.specs.CausalGets.{got_values}
use Rattle.script_meaning.specs.Parts.{peeked}
use Rattle.script_meaning.specs.Stamped.{ended_by, stamped_read}

-- a key's value after the own nodes that a client plays now; the map has these colours
abbrev pub value_now : World → ℕ → List ℕ → ℕ → List ℕ → Value
value_now w client colours colour key =
    shard_value colours colour (first_nodes w client colour (at (played_cut w client colour) (home_of w client))) key

-- A get of a map with these colours: the client plays the shard of the key up to the cut; refused where a node that it
-- has not played is trimmed.
abbrev pub got_value : State → Command → List ℕ → List ℕ → State
got_value state command colours key =
    let w = state.world in
    let client = command.client in
    let colour = shard_of colours key in
    if may_play w client colour then
    answered state command (after w (Play client colour))
    (answers.Got (value_now w client colours colour key) (sync_now w client colour)) []
    else answered state command w (answers.Trimmed colour (base_now w client colour)) []

-- a get or a peek, by the kind of its object
abbrev pub got : Grants → State → Command → Option Kind → List ℕ → State
got grants state command (Some (kinds.Map home colours)) key = got_value state command colours key
got grants state command (Some (kinds.Causal colour)) key = got_values state command colour key
got grants state command (Some (kinds.Parts home colours)) key = peeked state command colours key
got grants state command _ key = state

-- keys with their values
abbrev pub key_answers : (List ℕ → Value) → List (List ℕ) → List KeyAnswer
key_answers value_of keys = map (λ key. record { key = key; value = value_of key }) keys

-- a key's value after the nodes of its shard's own line up to a stamp; the map has these colours
abbrev pub value_up_to : World → ℕ → List ℕ → ℕ → List ℕ → Value
value_up_to w client colours stamp key =
    let colour = shard_of colours key in
    shard_value colours colour (map (object_node_at w) (up_to stamp (line (home_history w client colour)))) key

-- the answer to a getall of a map with these colours, which was read in this world
abbrev pub keys_answer : World → ℕ → List ℕ → List (List ℕ) → ℕ → List RaisePiece → List SyncPiece → List Key → Answer
keys_answer w client colours asked stamp raises syncs keys =
    answers.GotKeys stamp (key_answers (value_up_to w client colours stamp) asked) raises syncs

-- several keys of a map: a stamped read of their shards
abbrev pub got_keys : List Object → Grants → State → Command → ℕ → List (List ℕ) → State
got_keys objects grants state command object asked =
    let colours = colours_of_object (caller_in state.world objects command.client) object in
    let read = stamped_read grants state.world command.client (shards colours asked) in
    ended_by grants state command (keys_answer read.world command.client colours asked) (λ _. []) read.world read.ends
