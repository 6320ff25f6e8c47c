-- What contracts see of a run in the order of the file.
use Rattle.std.specs.Prelude.{◌≡◌, ℕ, ◌-◌, ◌<◌, ◌≤◌, ◌==◌, List, [], ◌∷◌, ◌++◌, length, take, drop}
use Rattle.std.specs.Prelude.{Option, None, map, slice_index_or, slice_set}
use Rattle.std.specs.List.{count_by, range_with_len}
use Rattle.log_node.specs.declared.forms.Version.{Version}
use Rattle.script_text.specs.declared.script.Object.{Object}
use Rattle.script_text.specs.declared.script.Command.{Command}
use Rattle.script_text.specs.declared.script.Script.{Script}
use Rattle.script_text.specs.Commands.{word_of}
use Rattle.log_node.specs.Seen.{PlacedNode}
use Rattle.report_text.specs.declared.report.Answer.{Answer}
use Rattle.report_text.specs.declared.report.ReplyLine.{ReplyLine}
use Rattle.world_code.specs.WorldView.{WorldView, world_of}
use Rattle.script_meaning.specs.States.{State, Grants, LastReads}
use Rattle.script_meaning.specs.Meaning.{LeadTo, done}

-- the replies to a client so far, for how many more there is memory, and by object what its last read found
pub record RepliesView : Type 0 where
  pub lines : List ReplyLine
  pub room : ℕ
  pub reads : List (Option (List Version))

-- no replies, with memory for so many, and no read of so many objects
abbrev pub no_replies : ℕ → ℕ → RepliesView
no_replies room objects = record { lines = []; room = room; reads = map (λ _. None) (range_with_len 0 objects) }

-- one reply more
abbrev pub with_reply : RepliesView → ReplyLine → RepliesView
with_reply old reply = record old { lines = old.lines ++ reply ∷ []; room = old.room - 1 }

-- what the last read of an object found
abbrev pub found_at : List (Option (List Version)) → LastReads
found_at reads object = slice_index_or reads object None

-- this in its place
abbrev pub with_read_found : RepliesView → ℕ → Option (List Version) → RepliesView
with_read_found old object found = record old { reads = slice_set old.reads object found }

-- the world, and the replies by client
pub record RunView : Type 0 where
  pub world : WorldView
  pub replies : List RepliesView

-- the replies to a client
abbrev pub replies_at : List RepliesView → ℕ → RepliesView
replies_at replies client = slice_index_or replies client (no_replies 0 0)

-- the state that is meant
abbrev pub state_of : RunView → State
state_of code = record {
  world = world_of code.world;
  replies = λ client. (replies_at code.replies client).lines;
  reads = λ client. found_at (replies_at code.replies client).reads;
}

-- the reply line of a command
abbrev pub reply_of : Command → Answer → List PlacedNode → ReplyLine
reply_of command answer nodes =
    record { line = command.line; word = word_of command.what; answer = answer; nodes = nodes }

-- how many of the commands a client asks
abbrev pub asks : ℕ → List Command → ℕ
asks client commands = count_by (λ (c : Command). c.client == client) commands

-- The command was done, wherever it is granted memory; its client has room for one reply less.
pub record IsDone (objects : List Object) (command : Command) (old new : RunView) : Type 0 where
  pub grants : Grants
  pub replied : RepliesView
  pub state : state_of new ≡ done objects grants (state_of old) command
  pub room : replied.room ≡ (replies_at old.replies command.client).room - 1
  pub reads : length replied.reads ≡ length (replies_at old.replies command.client).reads
  pub replies : new.replies ≡ slice_set old.replies command.client replied

-- the first commands lead to the state, and each client has room for its replies to those that follow, and for what it
-- reads of each object
pub record IsRunAt (script : Script) (place : ℕ) (code : RunView) : Type 0 where
  pub leads : LeadTo script (take place script.commands) (state_of code)
  pub clients : length code.replies ≡ length script.shape.homes
  pub rooms : (client : ℕ) → client < length script.shape.homes
      → asks client (drop place script.commands) ≤ (replies_at code.replies client).room
  pub reads : (client : ℕ) → client < length script.shape.homes
      → length (replies_at code.replies client).reads ≡ length script.objects
