-- What the lines of a script say one by one, and what they say together.
use Rattle.std.specs.Prelude.{Bool, true, false, ℕ, ◌==◌, not, ◌&&◌, ◌||◌, List, [], ◌∷◌, length, map, Option, Some, None, codes, if◌then◌else◌}
use Rattle.std.specs.Option.{is_some}
use Rattle.std.specs.List.{filter_map, list_any, fold, last_or}
use Rattle.script_text.specs.declared.script.Object.{Object}
use Rattle.script_text.specs.declared.script.Command.{Command}
use Rattle.script_text.specs.declared.commands.What.{What}
use Rattle.script_text.specs.declared.script.Script.{Script}
use Rattle.script_text.specs.declared.uses.ReadUse.TheVariants.{Takes, UsesUp}
use Rattle.script_text.specs.declared.uses.Use.{Use}
use Rattle.script_text.specs.declared.uses.Use.TheVariants.{OfLog, OfObject}
use Rattle.script_text.specs.declared.item.Item.{Item}
use Rattle.script_text.specs.declared.item.Item.TheVariants as items
use Rattle.script_text.specs.declared.item.Stage.{Stage}
use Rattle.script_text.specs.declared.item.Stage.TheVariants as stages
use Rattle.script_text.specs.declared.limits.Limits.{Limits}
use Rattle.script_text.specs.declared.limits.TheConstants.{VERSION_1}
use Rattle.script_text.specs.Pieces.{is_among}
use Rattle.script_text.specs.Table.{sort_at}
use Rattle.script_text.specs.Versions.{limits_in}
use Rattle.script_text.specs.Commands.{use_of}

-- what lines end with whose last item is this
abbrev pub stage_after : Option Item → Stage
stage_after None = stages.Nothing
stage_after (Some (items.Version _)) = stages.Version
stage_after (Some (items.Regions _)) = stages.Regions
stage_after (Some (items.Colours _)) = stages.Colours
stage_after (Some (items.Rows _)) = stages.Rows
stage_after (Some (items.Client _ _)) = stages.Clients
stage_after (Some (items.Declared _)) = stages.Objects
stage_after (Some items.Begin) = stages.Commands
stage_after (Some (items.Asks _)) = stages.Commands

-- what the lines so far end with
abbrev pub stage_of : List Item → Stage
stage_of before = stage_after (last_or None before)

-- which words a header line may begin with, but for those of objects
abbrev pub header_words : Stage → List (List ℕ)
header_words stages.Nothing = codes "fuzzylog" ∷ []
header_words stages.Version = codes "regions" ∷ []
header_words stages.Regions = codes "colours" ∷ []
header_words stages.Colours = codes "rows" ∷ codes "client" ∷ []
header_words stages.Rows = codes "client" ∷ []
header_words stages.Clients = codes "client" ∷ codes "begin" ∷ []
header_words stages.Objects = codes "begin" ∷ []
header_words stages.Commands = []

-- whether objects may be declared
abbrev pub may_declare : Stage → Bool
may_declare stages.Clients = true
may_declare stages.Objects = true
may_declare _ = false

-- the word may begin a header line: it is one of those, or that of an object's line which the version has
abbrev pub may_begin : ℕ → Stage → List ℕ → Bool
may_begin version stage word = is_among (header_words stage) word || (may_declare stage && is_some (sort_at version word))

-- the header has ended
abbrev pub is_begun : Stage → Bool
is_begun stages.Commands = true
is_begun _ = false

-- the same of the lines so far
abbrev pub has_begun : List Item → Bool
has_begun before = is_begun (stage_of before)

-- the version, if the line names it
abbrev pub version_in : Item → Option ℕ
version_in (items.Version version) = Some version
version_in _ = None

-- the names of the regions, if the line says them
abbrev pub regions_in : Item → Option (List (List ℕ))
regions_in (items.Regions names) = Some names
regions_in _ = None

-- the names of the colours, if the line says them
abbrev pub colours_in : Item → Option (List (List ℕ))
colours_in (items.Colours names) = Some names
colours_in _ = None

-- the number of rows, if the line says it, or names the version, which has a number for where none is said
abbrev pub rows_in : Item → Option ℕ
rows_in (items.Version version) = Some (limits_in version).unsaid_rows
rows_in (items.Rows number) = Some number
rows_in _ = None

-- a client's name and its region, if the line says them
abbrev pub clients_in : Item → Option (List ℕ × ℕ)
clients_in (items.Client name home) = Some (name, home)
clients_in _ = None

-- an object, if the line declares one
abbrev pub objects_in : Item → Option Object
objects_in (items.Declared object) = Some object
objects_in _ = None

-- a command, if the line asks for something
abbrev pub commands_in : Item → Option Command
commands_in (items.Asks command) = Some command
commands_in _ = None

-- what the last of some lines says, or what holds without one
abbrev pub last_said : {X : Type 0} → X → List X → X
last_said x [] = x
last_said x (y ∷ ys) = last_said y ys

-- the names of the regions, by number
abbrev pub region_names : List Item → List (List ℕ)
region_names before = last_said [] (filter_map regions_in before)

-- the names of the colours, by number
abbrev pub colour_names : List Item → List (List ℕ)
colour_names before = last_said [] (filter_map colours_in before)

-- the version that the lines name, and 1 before one is named
abbrev pub version_of : List Item → ℕ
version_of before = last_said 1 (filter_map version_in before)

-- the word may begin a header line here
abbrev pub may_come : List Item → List ℕ → Bool
may_come before word = may_begin (version_of before) (stage_of before) word

-- the limits of that version
abbrev pub limits_of : List Item → Limits
limits_of before = limits_in (version_of before)

-- how many rows each client has
abbrev pub row_number : List Item → ℕ
row_number before = last_said VERSION_1.unsaid_rows (filter_map rows_in before)

-- the names of the clients, by number
abbrev pub client_names : List Item → List (List ℕ)
client_names before = map (λ c. c.0) (filter_map clients_in before)

-- the regions of the clients, by number
abbrev pub client_homes : List Item → List ℕ
client_homes before = map (λ c. c.1) (filter_map clients_in before)

-- the objects, by number
abbrev pub objects : List Item → List Object
objects before = filter_map objects_in before

-- the names of the objects, by number
abbrev pub object_names : List Item → List (List ℕ)
object_names before = map (λ o. o.name) (objects before)

-- the commands, in the order of the file
abbrev pub commands : List Item → List Command
commands before = filter_map commands_in before

-- the script that the items say together
abbrev pub script_of : List Item → Script
script_of said = record {
  version = version_of said;
  shape = record {
    regions = length (region_names said);
    colours = length (colour_names said);
    homes = client_homes said;
    rows = row_number said;
  };
  regions = region_names said;
  colours = colour_names said;
  clients = client_names said;
  objects = objects said;
  commands = commands said;
}

-- the command is its client's last
abbrev pub is_last : Use → Bool
is_last (OfLog stops) = stops
is_last _ = false

-- the command is to stop within its append
abbrev pub is_stop : What → Bool
is_stop what = is_last (use_of what)

-- an earlier command of the client is its last
abbrev pub has_stopped : List Item → ℕ → Bool
has_stopped before client = list_any (λ c. (c.client == client) && is_stop c.what) (commands before)

-- whether a read of the object is there to be used up, after a command where it was or was not before
abbrev pub held_by : ℕ → Bool → Use → Bool
held_by object held (OfObject other Takes) = held || (other == object)
held_by object held (OfObject other UsesUp) = held && not (other == object)
held_by object held _ = held

-- the same after the command
abbrev pub holds_read : ℕ → Bool → What → Bool
holds_read object held what = held_by object held (use_of what)

-- the client has a read of the object that no commit has used up
abbrev pub has_read : List Item → ℕ → ℕ → Bool
has_read before client object =
    fold (λ held c. if c.client == client then holds_read object held c.what else held) false (commands before)
