-- What is known of a report before it is read: the script, and which of a client's commands get from a causal map.
use Rattle.std.specs.Prelude.{Bool, true, false, ◌==◌, ℕ, List, [], ◌∷◌, Option, Some, None, slice_get, if◌then◌else◌}
use Rattle.script_text.specs.declared.commands.What.{What}
use Rattle.script_text.specs.declared.commands.What.TheVariants as whats
use Rattle.script_text.specs.declared.script.Command.{Command}
use Rattle.script_text.specs.declared.script.Object.{Object}
use Rattle.script_text.specs.declared.script.Kind.{Kind}
use Rattle.script_text.specs.declared.script.Kind.TheVariants as kinds
use Rattle.script_text.specs.declared.script.Script.{Script}

-- the script, and for each command of the client in turn whether it gets from a causal map
pub record Known : Type 0 where
  pub script : Script
  pub many : List Bool

-- a causal map, in which a key may have many values
abbrev pub is_causal : Kind → Bool
is_causal (kinds.Causal colour) = true
is_causal _ = false

-- there is such an object
abbrev pub is_causal_map : Option Object → Bool
is_causal_map None = false
is_causal_map (Some object) = is_causal object.kind

-- the command gets from a causal map
abbrev pub gets_many : List Object → What → Bool
gets_many objects (whats.Get object key) = is_causal_map (slice_get objects object)
gets_many objects _ = false

-- whether each command of a client does, in the order of the file
abbrev pub many_of : List Object → ℕ → List Command → List Bool
many_of objects client [] = []
many_of objects client (c ∷ commands) =
    if c.client == client then gets_many objects c.what ∷ many_of objects client commands
    else many_of objects client commands

-- what is known of the replies of a client
abbrev pub known_of : Script → ℕ → Known
known_of script client = record { script = script; many = many_of script.objects client script.commands }

-- a test of what stands in a place, where something does
abbrev pub is_told : Option Bool → Bool
is_told None = false
is_told (Some told) = told

-- whether the command in this place gets from a causal map
abbrev pub is_many : Known → ℕ → Bool
is_many known place = is_told (slice_get known.many place)
