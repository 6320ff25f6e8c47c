-- Commands that are told what becomes of their node: its append, and a stamped read of all colours of the object behind it.
use Rattle.std.specs.Prelude.{ℕ, List, [], Option, if◌then◌else◌}
use Rattle.log_node.specs.declared.ids.Colours.{Colours}
use Rattle.log_node.specs.declared.ids.Key.{Key}
use Rattle.log_node.specs.Sets.{members}
use Rattle.col_core.specs.History.{entry_key}
use Rattle.world_laws.specs.Worlds.{World, next_id}
use Rattle.script_text.specs.declared.script.Object.{Object}
use Rattle.script_text.specs.declared.script.Command.{Command}
use Rattle.report_text.specs.declared.report.Answer.{Answer}
use Rattle.report_text.specs.declared.report.Answer.TheVariants as answers
use Rattle.report_text.specs.declared.report.PointPiece.{PointPiece}
use Rattle.report_text.specs.declared.report.RaisePiece.{RaisePiece}
use Rattle.report_text.specs.declared.report.SyncPiece.{SyncPiece}
use Rattle.lawful_run.specs.Asks.{colours_of_object, rising}
use Rattle.script_meaning.specs.States.{State, Grants, answered}
use Rattle.script_meaning.specs.Appends.{appended_so}
use Rattle.script_meaning.specs.Stamped.{ReadEnd, Whole, Refused, Unraised, stamped_read}
use Rattle.script_meaning.specs.Objects.{caller_in}

-- the colours of an object in rising number
abbrev pub all_colours : List Object → State → Command → ℕ → List ℕ
all_colours objects state command object = rising (colours_of_object (caller_in state.world objects command.client) object)

-- How such a command answers where its read is whole: by the world, the keys that were read, the own key, where the own node
-- stands, and what is shown of the read.
abbrev pub ReadAnswer : Type 0
ReadAnswer = World → List Key → Key → Option ℕ → List PointPiece → ℕ → List RaisePiece → List SyncPiece → Answer

-- Its node stands under this key, in the row and at the points: what it answers, by how the stamped read behind it ended.
abbrev pub answered_by_read : ReadAnswer → Grants → State → Command → Key → Option ℕ → List PointPiece → World → ReadEnd → State
answered_by_read tells grants state command own row points w (Whole at raises syncs read) =
    if grants.items then answered state command w (tells w read own row points at raises syncs) []
    else answered state command w (answers.UnreadNoMemory own.stamp) []
answered_by_read tells grants state command own row points w (Refused colour base) =
    answered state command w (answers.UnreadTrimmed own.stamp colour base) []
answered_by_read tells grants state command own row points w Unraised =
    answered state command w (answers.UnreadNoMemory own.stamp) []

-- Its node stands in this world, under the stamp: then comes a stamped read of all colours of the object.
abbrev pub told_behind : ReadAnswer → List Object → Grants → State → Command → ℕ → World → ℕ → Option ℕ → List PointPiece → State
told_behind tells objects grants state command object w stamp row points =
    let read = stamped_read (record grants { helps = grants.read_helps }) w command.client
    (all_colours objects state command object) in
    answered_by_read tells grants state command (entry_key stamp (next_id state.world command.client)) row points
    read.world read.ends

-- the command: a node with this text is appended to the set, and then the object is read
abbrev pub appended_and_told : ReadAnswer → List Object → Grants → State → Command → ℕ → Colours → List ℕ → State
appended_and_told tells objects grants state command object set text =
    appended_so grants state command set text (members set) (told_behind tells objects grants state command object)
