-- What is known of the lines so far, which later lines read.
use Rattle.std.specs.Prelude.{◌≡◌, false, ◌≤◌, ℕ, List, [], ◌∷◌, ◌++◌, length, Option, Some, None, if◌then◌else◌}
use Rattle.std.specs.List.{filter_map}
use Rattle.log_node.specs.declared.limits.TheConstants.{MAX_REGIONS, MAX_COLOURS, MAX_CLIENTS}
use Rattle.script_text.specs.declared.script.Command.{Command}
use Rattle.script_text.specs.declared.commands.What.{What}
use Rattle.script_text.specs.declared.script.Script.{Script}
use Rattle.script_text.specs.declared.item.Item.{Item}
use Rattle.script_text.specs.declared.item.Item.TheVariants as items
use Rattle.script_text.specs.declared.known.Known.{Known}
use Rattle.script_text.specs.declared.reads.HeldRead.{HeldRead}
use Rattle.script_text.specs.Versions.{limits_in}
use Rattle.script_text.specs.Items.{stage_of, stage_after, script_of, commands, is_stop}
use Rattle.script_text.specs.Reads.{reads_after, held_after}

-- the client of the command, if it is a stop
abbrev pub stopped_in : Command → Option ℕ
stopped_in command = if is_stop command.what then Some command.client else None

-- what is known after lines that say these items
abbrev pub known_of : List Item → Known
known_of before = record {
  stage = stage_of before;
  script = script_of before;
  stopped = filter_map stopped_in (commands before);
  held = held_after [] (commands before);
}

-- the script with one more item
abbrev pub with_item : Script → Item → Script
with_item script (items.Version version) =
    record script { version = version; shape = record script.shape { rows = (limits_in version).unsaid_rows } }
with_item script (items.Regions names) = record script { regions = names; shape = record script.shape { regions = length names } }
with_item script (items.Colours names) = record script { colours = names; shape = record script.shape { colours = length names } }
with_item script (items.Rows number) = record script { shape = record script.shape { rows = number } }
with_item script (items.Client name home) =
    record script { clients = script.clients ++ name ∷ []; shape = record script.shape { homes = script.shape.homes ++ home ∷ [] } }
with_item script (items.Declared object) = record script { objects = script.objects ++ object ∷ [] }
with_item script items.Begin = script
with_item script (items.Asks command) = record script { commands = script.commands ++ command ∷ [] }

-- the client that the line stops, if it stops one
abbrev pub stops_in : Item → List ℕ
stops_in (items.Asks command) = if is_stop command.what then command.client ∷ [] else []
stops_in _ = []

-- the reads that commits may use up, after one more line
abbrev pub held_with : List HeldRead → Item → List HeldRead
held_with held (items.Asks command) = reads_after held command.client command.what
held_with held _ = held

-- what is known after one more item
abbrev pub known_after : Known → Item → Known
known_after known item = record {
  stage = stage_after (Some item);
  script = with_item known.script item;
  stopped = known.stopped ++ stops_in item;
  held = held_with known.held item;
}

-- the same after a line that may say nothing
abbrev pub known_with : Known → Option Item → Known
known_with known None = known
known_with known (Some item) = known_after known item

-- neither stops its client nor has to do with a read
pub record IsPlain (what : What) : Type 0 where
  pub goes-on : is_stop what ≡ false
  pub reads-none : (held : List HeldRead) (client : ℕ) → reads_after held client what ≡ held

-- there is a version, and names are few enough for the log, and to be numbered by a byte
pub record IsSmall (known : Known) : Type 0 where
  pub version : 1 ≤ known.script.version
  pub regions : length known.script.regions ≤ MAX_REGIONS
  pub colours : length known.script.colours ≤ MAX_COLOURS
  pub clients : length known.script.clients ≤ MAX_CLIENTS
  pub objects : length known.script.objects ≤ 256
