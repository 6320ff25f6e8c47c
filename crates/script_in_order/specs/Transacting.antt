-- What a read or a commit of an object does to a world, what it is answered, and what its client keeps of the object.
use Rattle.std.specs.Prelude.{◌≡◌, ℕ, true, false, List, [], Option, Some, None, if◌then◌else◌}
use Rattle.std.specs.List.{All, Contains}
use Rattle.log_node.specs.Order.{same_key}
use Rattle.log_node.specs.declared.ids.Key.{Key}
use Rattle.log_node.specs.declared.forms.Version.{Version}
use Rattle.object_form.specs.Forms.{AreVersions}
use Rattle.col_core.specs.History.{line}
use Rattle.col_core.specs.Keeping.{updated}
use Rattle.world_laws.specs.Worlds.{World}
use Rattle.script_text.specs.declared.script.Object.{Object}
use Rattle.script_text.specs.declared.script.Command.{Command}
use Rattle.report_text.specs.declared.report.Answer.{Answer}
use Rattle.script_meaning.specs.States.{State, Grants, LastReads, answered}
use Rattle.script_meaning.specs.Meaning.{done}
use Rattle.script_in_order.specs.Doing.{with_replies}
use Rattle.script_in_order.specs.Runs.{RepliesView, found_at, with_read_found, with_reply, reply_of}

-- each of the keys stands in the line of a column
abbrev pub AreOfLines : World → List Key → Type 0
AreOfLines w keys =
    (key : Key) → Contains keys key
    → (region : ℕ) × (colour : ℕ) × Contains (line (w.histories region colour)) key

-- none of the keys is this one
abbrev pub AreOthers : Key → List Key → Type 0
AreOthers own keys = All (λ (key : Key). same_key key own ≡ false) keys

-- what a node was told, where that was found before, or now that the one with this key was told this
abbrev pub found_with : {T : Type 0} → Option (Option T) → Option T → Key → Key → Option (Option T)
found_with (Some before) told key own = Some before
found_with None told key own = if same_key key own then Some told else None

-- what each read found is such as the text of a transaction may name
abbrev pub AreFit : LastReads → Type 0
AreFit reads = (object : ℕ) (versions : List Version) → reads object ≡ Some versions → AreVersions versions

-- the command is answered, and its client keeps this of the object
abbrev pub answered_keeping : State → Command → ℕ → World → Answer → Option (List Version) → State
answered_keeping state command object w answer kept =
    record (answered state command w answer []) {
      reads = updated state.reads command.client (updated (state.reads command.client) object kept);
    }

-- By this meaning the command, of a client whose last read of the object found what it takes, leads from one world to the
-- other, with this answer, and leaves this for the next commit. It is granted memory before it does anything.
pub record LeavesForCommit (meaning : Grants → State → State) (command : Command) (object : ℕ) (taken : Option (List Version))
    (old new : World) (answer : Answer) (kept : Option (List Version)) : Type 0 where
  pub grants : Grants
  pub begun : grants.start ≡ true
  pub is : (told : State) → told.reads command.client object ≡ taken
      → meaning grants (with_replies old told) ≡ answered_keeping told command object new answer kept

-- The command, granted some memory, leads from one world to the other; of the replies to its client, one more is kept, and
-- what it left of the object for the next commit.
pub record Transacts (objects : List Object) (command : Command) (object : ℕ) (old new : World)
    (before after : RepliesView) : Type 0 where
  pub grants : Grants
  pub answer : Answer
  pub kept : Option (List Version)
  pub is : (told : State) → told.reads command.client object ≡ found_at before.reads object
      → done objects grants (with_replies old told) command ≡ answered_keeping told command object new answer kept
  pub replies : after ≡ with_reply (with_read_found before object kept) (reply_of command answer [])
