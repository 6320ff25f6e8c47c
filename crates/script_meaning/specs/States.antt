-- The state of a run in the order of the file, where a command finds memory, and how it is answered.
use Rattle.std.specs.Prelude.{◌≢◌, Bool, true, IsTrue, ℕ, ◌+◌, List, [], ◌∷◌, ◌++◌, Option, None, slice_get, if◌then◌else◌}
use Rattle.std.specs.List.{AllPairs}
use Rattle.std.specs.Option.{option_map}
use Rattle.log_node.specs.declared.ids.Id.{Id}
use Rattle.log_node.specs.declared.ids.Key.{Key}
use Rattle.log_node.specs.declared.forms.Version.{Version}
use Rattle.log_node.specs.Order.{same_id}
use Rattle.log_node.specs.Seen.{PlacedNode}
use Rattle.col_core.specs.Keeping.{nothing_kept, updated}
use Rattle.world_laws.specs.Worlds.{World, opened}
use Rattle.script_text.specs.declared.script.Kind.{Kind}
use Rattle.script_text.specs.declared.script.Object.{Object}
use Rattle.script_text.specs.declared.commands.What.{What}
use Rattle.script_text.specs.declared.script.Command.{Command}
use Rattle.script_text.specs.declared.script.Script.{Script}
use Rattle.script_text.specs.Items.{is_stop}
use Rattle.script_text.specs.Commands.{word_of}
use Rattle.report_text.specs.declared.report.Answer.{Answer}
use Rattle.report_text.specs.declared.report.ReplyLine.{ReplyLine}
use Rattle.lawful_run.specs.Refusals.{kept_before, kept_behind}

-- the kind of the object with a number
abbrev pub kind_in : List Object → ℕ → Option Kind
kind_in objects object = option_map (λ (o : Object). o.kind) (slice_get objects object)

-- no command of a client comes after its stop
abbrev pub StopsAreLast : Script → Type 0
StopsAreLast script = AllPairs (λ (c d : Command). IsTrue (is_stop c.what) → d.client ≢ c.client) script.commands

-- for each object what a client's last read of it found, until a commit uses that up
abbrev pub LastReads : Type 0
LastReads = ℕ → Option (List Version)

-- no read is kept
abbrev pub no_reads : LastReads
no_reads object = None

-- the world, the replies to each client, and the reads that each keeps
pub record State : Type 0 where
  pub world : World
  pub replies : ℕ → List ReplyLine
  pub reads : ℕ → LastReads

-- before the first command
abbrev pub opening : Script → State
opening script = record { world = opened script.shape; replies = λ _. []; reads = λ _. no_reads }

-- Which requests for memory are granted to a command: before it does anything, for the proposal of its own node in each
-- colour, for each of its helps, counted from 0, in each colour, for what a pull carries, for what an object's answer
-- folds, for the raise of a stamped read in each colour, for the helps of a read that follows an append of the same
-- command, counted from 0 too, for what is made of the nodes that a read has, and for the node that a decide appends.
pub record Grants : Type 0 where
  pub start : Bool
  pub marks : ℕ → Bool
  pub helps : ℕ → ℕ → Bool
  pub carry : Bool
  pub fold : Bool
  pub raises : ℕ → Bool
  pub read_helps : ℕ → ℕ → Bool
  pub items : Bool
  pub own : Bool

-- memory is granted everywhere
abbrev pub all_granted : Grants
all_granted = record {
  start = true;
  marks = λ _. true;
  helps = λ _ _. true;
  carry = true;
  fold = true;
  raises = λ _. true;
  read_helps = λ _ _. true;
  items = true;
  own = true;
}

-- the reads that a client is left with by a command: a read and a commit let that of their object go
abbrev pub reads_left : What → LastReads → LastReads
reads_left what reads = (kept_behind what (kept_before what (record nothing_kept { reads = reads }))).reads

-- the world then, one reply more to the client that asked, and the reads that it is left with
abbrev pub answered : State → Command → World → Answer → List PlacedNode → State
answered state command w answer nodes = record {
  world = w;
  replies = updated state.replies command.client (state.replies command.client
      ++ record { line = command.line; word = word_of command.what; answer = answer; nodes = nodes } ∷ []);
  reads = updated state.reads command.client (reads_left command.what (state.reads command.client));
}

-- at which position the id stands in a line, or how long the line is where it does not
abbrev pub position_of : Id → List Key → ℕ
position_of id [] = 0
position_of id (key ∷ keys) = if same_id key.id id then 0 else position_of id keys + 1
