-- Transactions: reads of transactional maps, and commits that rest on them.
use Rattle.std.specs.Prelude.{ℕ, List, [], ◌++◌, map, Option, Some, None, unwrap_or}
use Rattle.log_node.specs.declared.ids.Key.{Key}
use Rattle.log_node.specs.declared.forms.Pair.{Pair}
use Rattle.log_node.specs.declared.forms.Version.{Version}
use Rattle.log_node.specs.declared.forms.Form.TheVariants as forms
use Rattle.object_form.specs.Forms.{form_text}
use Rattle.object_fold.specs.declared.verdict.Verdict.{Verdict}
use Rattle.object_fold.specs.declared.verdict.Verdict.TheVariants.{Committed, Conflict}
use Rattle.object_fold.specs.Transactions.{writes_after, value_of, versions_after, verdict_of}
use Rattle.col_core.specs.Keeping.{updated}
use Rattle.world_laws.specs.Worlds.{World}
use Rattle.script_text.specs.declared.script.Object.{Object}
use Rattle.script_text.specs.declared.script.Command.{Command}
use Rattle.report_text.specs.declared.report.Answer.{Answer}
use Rattle.report_text.specs.declared.report.Answer.TheVariants as answers
use Rattle.report_text.specs.declared.report.PointPiece.{PointPiece}
use Rattle.report_text.specs.declared.report.RaisePiece.{RaisePiece}
use Rattle.report_text.specs.declared.report.SyncPiece.{SyncPiece}
use Rattle.lawful_run.specs.Asks.{colours_of_object, keys_of_pairs}
use Rattle.script_meaning.specs.States.{State, Grants, answered}
use Rattle.script_meaning.specs.Stamped.{stamped_read, ended_so}
use Rattle.script_meaning.specs.Objects.{caller_in, shard_set}
use Rattle.script_meaning.specs.Telling.{ReadAnswer, all_colours, appended_and_told}
use Rattle.script_meaning.specs.Dequeues.{object_node_at}
use Rattle.script_meaning.specs.Gets.{key_answers}

-- A read of keys that is whole, and has read the nodes with these keys of a world: it answers by them, and in place of
-- what an earlier read found the client keeps for a commit who wrote the keys last.
abbrev pub keys_answered : State → Command → ℕ → List (List ℕ) → World → ℕ → List RaisePiece → List SyncPiece → List Key
    → State
keys_answered state command object keys w stamp raises syncs read =
    let nodes = map (object_node_at w) read in
    let answer = answers.GotKeys stamp (key_answers (value_of (writes_after nodes)) keys) raises syncs in
    let client = command.client in
    record (answered state command w answer []) {
      reads = updated state.reads client (updated (state.reads client) object (Some (versions_after nodes keys)));
    }

-- a read of keys: a stamped read of all colours of the object
abbrev pub read_in : List Object → Grants → State → Command → ℕ → List (List ℕ) → State
read_in objects grants state command object keys =
    let read = stamped_read grants state.world command.client (all_colours objects state command object) in
    ended_so grants state command (keys_answered state command object keys read.world) read.world read.ends

-- the answer that shows a verdict
abbrev pub verdict_answer : Verdict → Option ℕ → List PointPiece → ℕ → List RaisePiece → List SyncPiece → Answer
verdict_answer (Committed stamp) row points at raises syncs = answers.Ruled None stamp row points at raises syncs
verdict_answer (Conflict key stamp) row points at raises syncs = answers.Ruled (Some key) stamp row points at raises syncs

-- the verdict on the node with a key among the nodes with these keys; it is a transaction's, so there is one
abbrev pub verdict_in : World → List Key → Key → Verdict
verdict_in w read own = unwrap_or (verdict_of (map (object_node_at w) read) own) (Committed own.stamp)

-- what a commit is told: the verdict on its own node among those that were read
abbrev pub verdict_tells : ReadAnswer
verdict_tells w read own row points at raises syncs = verdict_answer (verdict_in w read own) row points at raises syncs

-- the keys of versions
abbrev pub version_keys : List Version → List (List ℕ)
version_keys versions = map (λ (v : Version). v.key) versions

-- A commit that rests on these versions: its transaction stands in the shards of the keys read and written, and is told.
abbrev pub committed_on : List Object → Grants → State → Command → ℕ → List Pair → List Version → State
committed_on objects grants state command object pairs versions =
    let set = shard_set (colours_of_object (caller_in state.world objects command.client) object)
    (version_keys versions ++ keys_of_pairs pairs) in
    appended_and_told verdict_tells objects grants state command object set (form_text (forms.Transaction versions pairs))

-- a commit, by what the client's last read of the object found
abbrev pub committed_by : List Object → Grants → State → Command → ℕ → List Pair → Option (List Version) → State
committed_by objects grants state command object pairs None =
    answered state command state.world answers.NoTx []
committed_by objects grants state command object pairs (Some versions) =
    committed_on objects grants state command object pairs versions

-- a commit of pairs, by what its client's last read of the object found
abbrev pub committed : List Object → Grants → State → Command → ℕ → List Pair → State
committed objects grants state command object pairs =
    committed_by objects grants state command object pairs (state.reads command.client object)
