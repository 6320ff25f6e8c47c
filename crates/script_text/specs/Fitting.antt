-- What holds of the numbers in a script: each names something, and the shape keeps its limits.
use Rattle.std.specs.Prelude.{◌≡◌, Bool, true, false, IsTrue, ℕ, ◌+◌, ◌*◌, ◌<◌, ◌≤◌, ◌^◌, List, [], ◌∷◌, length, Some, slice_get}
use Rattle.std.specs.List.{All}
use Rattle.log_node.specs.declared.node.Shape.{Shape}
use Rattle.log_node.specs.declared.ids.Colours.{Colours}
use Rattle.log_node.specs.declared.limits.TheConstants.{MAX_COLOURS}
use Rattle.log_node.specs.Sets.{members}
use Rattle.script_text.specs.declared.script.Kind.{Kind}
use Rattle.script_text.specs.declared.script.Kind.TheVariants as kinds
use Rattle.script_text.specs.declared.script.Object.{Object}
use Rattle.script_text.specs.declared.commands.What.{What}
use Rattle.script_text.specs.declared.commands.What.TheVariants as whats
use Rattle.script_text.specs.declared.script.Command.{Command}
use Rattle.script_text.specs.declared.script.Script.{Script}
use Rattle.script_text.specs.declared.limits.Limits.{Limits}
use Rattle.script_text.specs.declared.table.Field.{Field}
use Rattle.script_text.specs.declared.table.Field.TheVariants as fields
use Rattle.script_text.specs.declared.table.Kinds.{Kinds}
use Rattle.script_text.specs.declared.table.TheConstants.{NONE, MAP, ANY_MAP, TX, QUEUE, TREE}
use Rattle.script_text.specs.Contents.{Said, SaysKey, SaysValue, SaysPair, SaysKeys, SaysPairs, SaysPath, SaysFolder, SaysPathValue, SaysPaths}
use Rattle.script_text.specs.Commands.{word_of, use_of, content_of}
use Rattle.script_text.specs.Table.{row_fields, is_of}
use Rattle.script_text.specs.declared.uses.Use.{Use}
use Rattle.script_text.specs.declared.uses.Use.TheVariants.{OfLog, OfObject}
use Rattle.script_text.specs.Pieces.{is_key, is_path}
use Rattle.script_text.specs.Versions.{is_version, limits_in}
use Rattle.script_text.specs.Grammar.{are_keys, are_pairs}

-- a region, a colour and a client at least, and no more than these limits allow; each client is in a region
pub record IsShape (limits : Limits) (shape : Shape) : Type 0 where
  pub a_region : 0 < shape.regions
  pub few_regions : shape.regions ≤ limits.regions
  pub a_colour : 0 < shape.colours
  pub few_colours : shape.colours ≤ limits.colours
  pub a_client : 0 < length shape.homes
  pub few_clients : length shape.homes ≤ limits.clients
  pub homes : All (λ home. home < shape.regions) shape.homes

-- the colours of a set are below this number
abbrev pub AreBelow : ℕ → Colours → Type 0
AreBelow count colours = All (λ c. c < count) (members colours)

-- a set with so many colours at least, of those that a set may have
pub record HasColours (least : ℕ) (set : Colours) : Type 0 where
  pub many : least ≤ length (members set)
  pub bits : set.0 < 2 ^ MAX_COLOURS

-- The colours and regions that a command names are among so many. An append and a scan name a colour at least; a stop
-- names two, and no more steps than its append has.
abbrev pub IsWithin : ℕ → ℕ → What → Type 0
IsWithin regions colours (whats.Append set text) = HasColours 1 set × AreBelow colours set
IsWithin regions colours (whats.Stop steps set text) =
    HasColours 2 set × AreBelow colours set × (steps ≤ 2 * length (members set) + 2)
IsWithin regions colours (whats.Sync colour) = colour < colours
IsWithin regions colours (whats.Scan set) = HasColours 1 set × AreBelow colours set
IsWithin regions colours (whats.Pull region colour) = (region < regions) × (colour < colours)
IsWithin regions colours (whats.Trim colour) = colour < colours
IsWithin regions colours (whats.Only colour text) = colour < colours
IsWithin regions colours _ = Unit {0}

-- one colour or more, no more than a log has, each below this number
pub record AreObjectColours (count : ℕ) (colours : List ℕ) : Type 0 where
  pub some : 1 ≤ length colours
  pub few : length colours ≤ MAX_COLOURS
  pub below : All (λ c. c < count) colours

-- the home and the colours of an object are among so many
abbrev pub IsKindWithin : ℕ → ℕ → Kind → Type 0
IsKindWithin regions colours (kinds.Map home of) = (home < regions) × AreObjectColours colours of
IsKindWithin regions colours (kinds.Tx home of) = (home < regions) × AreObjectColours colours of
IsKindWithin regions colours (kinds.Causal colour) = colour < colours
IsKindWithin regions colours (kinds.Queue home colour) = (home < regions) × (colour < colours)
IsKindWithin regions colours (kinds.Tree home of) = (home < regions) × AreObjectColours colours of
IsKindWithin regions colours (kinds.Parts home of) = (home < regions) × AreObjectColours colours of

-- a map with a home
abbrev pub is_map : Kind → Bool
is_map = is_of MAP

-- a map, with a home or a causal one
abbrev pub is_any_map : Kind → Bool
is_any_map = is_of ANY_MAP

-- a transactional map, which may keep its colours to itself
abbrev pub is_tx : Kind → Bool
is_tx = is_of TX

-- a queue
abbrev pub is_queue : Kind → Bool
is_queue = is_of QUEUE

-- a tree
abbrev pub is_tree : Kind → Bool
is_tree = is_of TREE

-- there is an object with this number, of such a kind
pub record HasObject (objects : List Object) (object : ℕ) (test : Kind → Bool) : Type 0 where
  pub found : Object
  pub there : slice_get objects object ≡ Some found
  pub kind : IsTrue (test found.kind)

-- the kinds of object that have a command: those of its first field
abbrev pub kinds_first : List Field → Kinds
kinds_first (fields.Object of ∷ _) = of
kinds_first _ = NONE

-- the kinds of object that have this command
abbrev pub kinds_asked : What → Kinds
kinds_asked what = kinds_first (row_fields (word_of what))

-- how many keys or pairs a command may have, by the fields behind its word
abbrev pub most_keys : List Field → ℕ
most_keys [] = 0
most_keys (fields.Keys most ∷ _) = most
most_keys (fields.Pairs most ∷ _) = most
most_keys (_ ∷ later) = most_keys later

-- keys, values and paths may be such, and of several keys there are at most so many
abbrev pub AreWords : ℕ → Said → Type 0
AreWords most (SaysKey key) = IsTrue (is_key key)
AreWords most (SaysValue value) = IsTrue (is_key value)
AreWords most (SaysPair key value) = IsTrue (is_key key) × IsTrue (is_key value)
AreWords most (SaysKeys keys) = IsTrue (are_keys most keys)
AreWords most (SaysPairs pairs) = IsTrue (are_pairs most pairs)
AreWords most (SaysPath path) = IsTrue (is_path false path)
AreWords most (SaysFolder path) = IsTrue (is_path true path)
AreWords most (SaysPathValue path value) = IsTrue (is_path false path) × IsTrue (is_key value)
AreWords most (SaysPaths source target) = IsTrue (is_path false source) × IsTrue (is_path false target)
AreWords most _ = Unit {0}

-- the keys, values and paths of a command may be
abbrev pub HasWords : What → Type 0
HasWords what = AreWords (most_keys (row_fields (word_of what))) (content_of what)

-- a command of an object names one of a kind that has the command
abbrev pub UsesOne : List Object → What → Use → Type 0
UsesOne objects what (OfLog stops) = Unit {0}
UsesOne objects what (OfObject object read) = HasObject objects object (is_of (kinds_asked what)) × HasWords what

-- the object that a command names is there, and has the command
abbrev pub UsesObject : List Object → What → Type 0
UsesObject objects what = UsesOne objects what (use_of what)

-- there is its version, the shape keeps that version's limits, there is a name for each of its numbers, and each number in the script names something
pub record IsFitting (script : Script) : Type 0 where
  pub version : IsTrue (is_version script.version)
  pub shape : IsShape (limits_in script.version) script.shape
  pub regions : length script.regions ≡ script.shape.regions
  pub colours : length script.colours ≡ script.shape.colours
  pub clients : length script.clients ≡ length script.shape.homes
  pub callers : All (λ (c : Command). c.client < length script.shape.homes) script.commands
  pub commands : All (λ (c : Command). IsWithin script.shape.regions script.shape.colours c.what) script.commands
  pub objects : All (λ (o : Object). IsKindWithin script.shape.regions script.shape.colours o.kind) script.objects
  pub uses : All (λ (c : Command). UsesObject script.objects c.what) script.commands
  pub few : length script.commands < 2 ^ 15
