-- The clients of a script: where each calls from, what it asks, and the node that it appends.
use Rattle.std.specs.Prelude.{ℕ, ◌==◌, nat_lt, List, length, map, Option, Some, None, slice_index, if◌then◌else◌}
use Rattle.std.specs.List.{filter}
use Rattle.log_node.specs.declared.ids.Colours.{Colours}
use Rattle.log_node.specs.declared.ids.Row.{Row}
use Rattle.log_node.specs.declared.node.Node.{Node}
use Rattle.log_node.specs.Sets.{members}
use Rattle.col_core.specs.Keeping.{Kept}
use Rattle.script_text.specs.declared.script.Command.{Command}
use Rattle.script_text.specs.declared.script.Object.{Object}
use Rattle.script_text.specs.declared.script.Script.{Script}

-- a client and its region; how many regions there are, how many rows each client may begin, and the objects
pub record Caller : Type 0 where
  pub client : ℕ
  pub own : ℕ
  pub regions : ℕ
  pub rows : ℕ
  pub objects : List Object

-- the client of a script with this number
abbrev pub caller_of : Script → ℕ → Caller
caller_of script client = record {
  client = client;
  own = slice_index script.shape.homes client;
  regions = script.shape.regions;
  rows = script.shape.rows;
  objects = script.objects;
}

-- the commands of a client, in order
abbrev pub commands_of : Script → ℕ → List Command
commands_of script client = filter (λ (c : Command). c.client == client) script.commands

-- the row that a node on these colours takes, where there are several
abbrev pub row_taken : ℕ → ℕ → List ℕ → Option Row
row_taken client rows colours =
    if nat_lt 1 (length colours) then Some (record { client = client; number = rows }) else None

-- the node that a client appends over what it keeps
abbrev pub node_of : Caller → Kept → Colours → List ℕ → Node
node_of caller kept colours text = record {
  id = record { client = caller.client; count = kept.ids };
  region = caller.own;
  colours = colours;
  text = text;
  floor = kept.floor;
  wants = map kept.starts (members colours);
  row = row_taken caller.client kept.rows (members colours);
}
