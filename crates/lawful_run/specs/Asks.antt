-- What commands are of: their objects, the kinds of what they do, and the shards of keys.
use Rattle.std.specs.Prelude.{Bool, true, false, ℕ, ◌==◌, List, [], map, Option, Some, None, slice_get}
use Rattle.std.specs.List.{filter, list_any, range_with_len}
use Rattle.std.specs.Option.{option_map}
use Rattle.log_node.specs.declared.forms.Pair.{Pair}
use Rattle.log_node.specs.declared.forms.Form.{Form}
use Rattle.log_node.specs.declared.forms.Form.TheVariants as forms
use Rattle.log_node.specs.declared.limits.TheConstants.{MAX_COLOURS}
use Rattle.object_fold.specs.Nodes.{shard_of}
use Rattle.script_text.specs.declared.script.Kind.{Kind}
use Rattle.script_text.specs.declared.script.Kind.TheVariants as kinds
use Rattle.script_text.specs.declared.script.Object.{Object}
use Rattle.script_text.specs.declared.commands.What.{What}
use Rattle.script_text.specs.declared.uses.Use.{Use}
use Rattle.script_text.specs.declared.uses.Use.TheVariants.{OfLog, OfObject}
use Rattle.script_text.specs.Apart.{colours_of}
use Rattle.script_text.specs.Commands.{use_of}
use Rattle.lawful_run.specs.Callers.{Caller}

-- the kind of an object, by its number
abbrev pub kind_of_object : Caller → ℕ → Option Kind
kind_of_object caller object = option_map (λ (o : Object). o.kind) (slice_get caller.objects object)

-- the colours of an object, in their order
abbrev pub object_colours : Option Kind → List ℕ
object_colours None = []
object_colours (Some kind) = colours_of kind

-- the colours of the object with this number
abbrev pub colours_of_object : Caller → ℕ → List ℕ
colours_of_object caller object = object_colours (kind_of_object caller object)

-- the region whose clients alone may use an object; a causal map has none
abbrev pub object_home : Option Kind → Option ℕ
object_home None = None
object_home (Some (kinds.Map home colours)) = Some home
object_home (Some (kinds.Tx home colours)) = Some home
object_home (Some (kinds.Causal colour)) = None
object_home (Some (kinds.Queue home colour)) = Some home
object_home (Some (kinds.Tree home colours)) = Some home
object_home (Some (kinds.Parts home colours)) = Some home

-- the home of the object with this number, where it has one
abbrev pub home_of_object : Caller → ℕ → Option ℕ
home_of_object caller object = object_home (kind_of_object caller object)

-- the kind of the object that a command is of
abbrev pub kind_used : Caller → Use → Option Kind
kind_used caller (OfLog stops) = None
kind_used caller (OfObject object read) = kind_of_object caller object

-- the kind of the object that a command names, if it names one
abbrev pub kind_asked : Caller → What → Option Kind
kind_asked caller what = kind_used caller (use_of what)

-- the home of the object that a command is of
abbrev pub home_asked : Caller → What → Option ℕ
home_asked caller what = object_home (kind_asked caller what)

-- the kinds of commands, by what they do to the log
pub data Manner : Type 0 where
  -- it appends a node, and answers where that stands
  Appending : Manner
  -- it appends a node only where nothing has come between, and helps nobody
  Guarding : Manner
  -- it stops within an append
  Stopping : Manner
  -- it syncs a colour and shows the nodes
  Syncing : Manner
  -- it pulls or trims
  Moving : Manner
  -- it syncs a colour and answers by an object
  Getting : Manner
  -- it makes a stamped read
  Reading : Manner
  -- it appends a node, and then makes a stamped read
  Committing : Manner
  -- it appends a node, and then syncs its colour
  Dequeuing : Manner
  -- it syncs a colour, makes a stamped read, and appends a node by what both told
  Deciding : Manner

-- a command that appends or makes a stamped read may help the appends of others
abbrev pub may_help : Manner → Bool
may_help Appending = true
may_help Guarding = false
may_help Stopping = false
may_help Syncing = false
may_help Moving = false
may_help Getting = false
may_help Reading = true
may_help Committing = true
may_help Dequeuing = true
may_help Deciding = true

-- a command that is answered by a colour alone where no stamp was left there for its node
abbrev pub tells_stamp_end : Manner → Bool
tells_stamp_end Appending = true
tells_stamp_end Guarding = true
tells_stamp_end Stopping = false
tells_stamp_end Syncing = false
tells_stamp_end Moving = false
tells_stamp_end Getting = false
tells_stamp_end Reading = false
tells_stamp_end Committing = true
tells_stamp_end Dequeuing = true
tells_stamp_end Deciding = false

-- the colours for which a test holds, in rising number
abbrev pub colours_where : (ℕ → Bool) → List ℕ
colours_where test = filter test (range_with_len 0 MAX_COLOURS)

-- the colours of the shards of keys, in rising number
abbrev pub shards : List ℕ → List (List ℕ) → List ℕ
shards colours keys = colours_where (λ c. list_any (λ key. shard_of colours key == c) keys)

-- the colours of an object in rising number
abbrev pub rising : List ℕ → List ℕ
rising colours = colours_where (λ c. list_any (λ d. d == c) colours)

-- the keys of pairs, in their order
abbrev pub keys_of_pairs : List Pair → List (List ℕ)
keys_of_pairs pairs = map (λ (p : Pair). p.key) pairs

-- what a put on an object of a kind writes
abbrev pub put_form : Option Kind → List ℕ → List ℕ → Form
put_form (Some (kinds.Causal colour)) key value = forms.Causal key value
put_form _ key value = forms.Put key value
