-- Changes of trees, and what stands in a path.
use Rattle.std.specs.Prelude.{ℕ, List, [], map, Option, Some, None, unwrap_or}
use Rattle.log_node.specs.declared.ids.Key.{Key}
use Rattle.object_fold.specs.Folds.{told_of}
use Rattle.tree_fold.specs.declared.change.Change.{Change}
use Rattle.tree_fold.specs.declared.told.Told.{Told}
use Rattle.tree_fold.specs.declared.told.Told.TheVariants.{Done, Failed}
use Rattle.tree_fold.specs.Paths.{Path}
use Rattle.tree_fold.specs.Changes.{change_text, change_keys}
use Rattle.tree_fold.specs.Readings.{path_of}
use Rattle.tree_fold.specs.Trees.{Tree, tree_after, telling, names_after}
use Rattle.world_laws.specs.Worlds.{World}
use Rattle.script_text.specs.declared.script.Object.{Object}
use Rattle.script_text.specs.declared.script.Command.{Command}
use Rattle.report_text.specs.declared.report.Answer.{Answer}
use Rattle.report_text.specs.declared.report.Answer.TheVariants as answers
use Rattle.report_text.specs.declared.report.PointPiece.{PointPiece}
use Rattle.report_text.specs.declared.report.RaisePiece.{RaisePiece}
use Rattle.report_text.specs.declared.report.SyncPiece.{SyncPiece}
use Rattle.lawful_run.specs.Asks.{colours_of_object}
use Rattle.script_meaning.specs.States.{State, Grants, answered}
use Rattle.script_meaning.specs.Stamped.{stamped_read, ended_by}
use Rattle.script_meaning.specs.Objects.{caller_in, shard_set}
use Rattle.script_meaning.specs.Telling.{ReadAnswer, all_colours, appended_and_told}
use Rattle.script_meaning.specs.Dequeues.{object_node_at}

-- the answer that shows what a change is told
abbrev pub change_answer : Told → Option ℕ → List PointPiece → ℕ → List RaisePiece → List SyncPiece → Answer
change_answer (Done stamp) row points at raises syncs = answers.Changed None stamp row points at raises syncs
change_answer (Failed stamp why) row points at raises syncs = answers.Changed (Some why) stamp row points at raises syncs

-- what the node with a key is told among the nodes with these keys; it has a change, so it is told something
abbrev pub change_told : World → List Key → Key → Told
change_told w read own = unwrap_or (told_of telling (map (object_node_at w) read) own) (Done own.stamp)

-- what a change is told: what becomes of it among the nodes that were read
abbrev pub change_tells : ReadAnswer
change_tells w read own row points at raises syncs = change_answer (change_told w read own) row points at raises syncs

-- A change: its node stands in the shards of the first names of its paths, and it is told.
abbrev pub changed_so : List Object → Grants → State → Command → ℕ → Change → State
changed_so objects grants state command object change =
    let set = shard_set (colours_of_object (caller_in state.world objects command.client) object) (change_keys change) in
    appended_and_told change_tells objects grants state command object set (change_text change)

-- the change that the fields of a command say; where they say none, none is made
abbrev pub changed : List Object → Grants → State → Command → ℕ → Option Change → State
changed objects grants state command object None = answered state command state.world answers.NoMemory []
changed objects grants state command object (Some change) = changed_so objects grants state command object change

-- the names in a path of a tree, if it is one and is there
abbrev pub names_in : Tree → Option Path → Option (List (List ℕ))
names_in tree None = None
names_in tree (Some path) = names_after tree path

-- the answer to a list of the names in the path with this text, by the nodes with the keys that were read
abbrev pub names_answer : World → List ℕ → ℕ → List RaisePiece → List SyncPiece → List Key → Answer
names_answer w text stamp raises syncs keys =
    answers.Listed (names_in (tree_after (map (object_node_at w) keys)) (path_of text)) stamp raises syncs

-- a list of names: a stamped read of all colours of the object
abbrev pub names_listed : List Object → Grants → State → Command → ℕ → List ℕ → State
names_listed objects grants state command object text =
    let read = stamped_read grants state.world command.client (all_colours objects state command object) in
    ended_by grants state command (names_answer read.world text) (λ _. []) read.world read.ends
