-- The commands of objects: what those append that are answered by where it stands, and when an object's home refuses one.
use Rattle.std.specs.Prelude.{ℕ, ◌==◌, List, [], Option, Some, None, unwrap_or, if◌then◌else◌}
use Rattle.log_node.specs.declared.ids.Colours.{Colours}
use Rattle.log_node.specs.Sets.{members, set_of}
use Rattle.world_laws.specs.Worlds.{World, home_of}
use Rattle.script_text.specs.declared.script.Object.{Object}
use Rattle.script_text.specs.declared.script.Command.{Command}
use Rattle.script_text.specs.declared.commands.What.{What}
use Rattle.lawful_run.specs.Callers.{Caller}
use Rattle.lawful_run.specs.Asks.{home_asked, kind_asked, object_colours, shards}
use Rattle.lawful_run.specs.Deeds.{Reach, NoColours, Named, ShardsOf, Saying, TextSaid, Exactly, ADecision, colours_reached, saying_of}
use Rattle.script_meaning.specs.States.{State, Grants}
use Rattle.script_meaning.specs.Appends.{appended}

-- a client of a world, and where it calls from
abbrev pub caller_in : World → List Object → ℕ → Caller
caller_in w objects client = record {
  client = client;
  own = home_of w client;
  regions = w.shape.regions;
  rows = w.shape.rows;
  objects = objects;
}

-- a home that is not this region
abbrev pub other_home : ℕ → Option ℕ → Option ℕ
other_home own None = None
other_home own (Some home) = if home == own then None else Some home

-- the home of the command's object, where its client is away from it
abbrev pub refusing_home : Caller → What → Option ℕ
refusing_home caller what = other_home caller.own (home_asked caller what)

-- the set of the shards of keys, of an object with these colours
unfoldable pub shard_set : List ℕ → List (List ℕ) → Colours
shard_set colours keys = set_of (shards colours keys)

-- the set of the colours of a reach, of an object with these colours
abbrev pub set_reached : List ℕ → Reach → Colours
set_reached own (Named colours) = colours
set_reached own (ShardsOf keys) = shard_set own keys
set_reached own reach = set_of (colours_reached own reach)

-- the text that is said, where the command alone says it
abbrev pub exact_text : TextSaid → List ℕ
exact_text (Exactly text) = text
exact_text ADecision = []

-- the node that a command says which uses up no read; one of no colours where it says none
abbrev pub node_said : Caller → What → Saying
node_said caller what = unwrap_or (saying_of (kind_asked caller what) None what) (record { reach = NoColours; text = Exactly [] })

-- the set of its colours
abbrev pub set_said : Caller → What → Colours
set_said caller what = set_reached (object_colours (kind_asked caller what)) (node_said caller what).reach

-- a command that is answered by where its node stands: an append of what it says
abbrev pub appended_said : List Object → Grants → State → Command → What → State
appended_said objects grants state command what =
    let caller = caller_in state.world objects command.client in
    let set = set_said caller what in
    appended grants state command set (exact_text (node_said caller what).text) (members set)
