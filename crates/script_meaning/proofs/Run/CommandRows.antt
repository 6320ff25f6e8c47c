-- One row for each command: behind it there holds what held before, steps lead to the state, and where it finds memory it does
-- what it does with memory granted everywhere. Commands that append and are answered by where their node stands have no
-- rows in the last two, and those of them that append in the shards of keys have none in the first.
use Rattle.std.proofs.Common.{◌≡◌, ℕ, List, [], ◌∷◌, ◌++◌, map, refl, sym, subst}
use Rattle.log_node.specs.Sets.{members}
use Rattle.object_form.specs.Laws.{ReadsBack}
use Rattle.tree_fold.specs.Readings.{below_root_of, make_of, remove_of, move_of}
use Rattle.tree_fold.proofs.CallerLemmas.{make_fits, remove_fits, move_fits}
use Rattle.script_text.specs.declared.script.Object.{Object}
use Rattle.script_text.specs.declared.commands.What.{What}
use Rattle.script_text.specs.declared.commands.What.TheVariants as whats
use Rattle.script_text.specs.declared.script.Command.{Command}
use Rattle.script_text.specs.declared.script.Script.{Script}
use Rattle.script_text.specs.Fitting.{IsWithin, UsesObject}
use Rattle.lawful_run.specs.Callers.{Caller}
use Rattle.lawful_run.specs.Asks.{colours_of_object, shards}
use Rattle.lawful_run.specs.Deeds.{AsksForKey}
use Rattle.lawful_run.proofs.CallerLemmas.{make_asks, remove_asks, move_asks}
use Rattle.script_meaning.specs.States.{State, Grants, all_granted}
use Rattle.script_meaning.specs.Stamped.{shown_key, scan_answer}
use Rattle.script_meaning.specs.Objects.{caller_in, exact_text, node_said, set_said}
use Rattle.script_meaning.specs.Gets.{keys_answer}
use Rattle.script_meaning.specs.Telling.{all_colours}
use Rattle.script_meaning.specs.Trees.{names_answer}
use Rattle.script_meaning.specs.Meaning.{done_one}
use Rattle.script_meaning.proofs.Append.AppendNext as guarding
use Rattle.script_meaning.proofs.Append.AppendRuns as appending
use Rattle.script_meaning.proofs.Move.AfterMoves as moving
use Rattle.script_meaning.proofs.Object.DequeueRuns as dequeuing
use Rattle.script_meaning.proofs.Object.GetRuns as getting
use Rattle.script_meaning.proofs.Object.CausalRuns.{runs_get}
use Rattle.script_meaning.proofs.Object.ObjectKinds.{a_key}
use Rattle.script_meaning.proofs.Object.ShardSets.{shard_members}
use Rattle.script_meaning.proofs.Part.DecideRuns.{runs_decide}
use Rattle.script_meaning.proofs.Read.AfterScan as scanning
use Rattle.script_meaning.proofs.Transaction.CommitRuns as committing
use Rattle.script_meaning.proofs.Tree.ChangeRuns as changing
use Rattle.script_meaning.proofs.Tree.NameRuns as listing
use Rattle.script_meaning.proofs.Run.GrantedCommands.{Extends, HadMemory, append_extends, append_exact, stop_extends, stop_exact, sync_extends, pull_extends, pull_exact, trim_extends, read_extends, reads_exact, kept_extends, kept_exact, commit_extends, commit_exact, changed_extends, changed_exact, deq_extends, deq_exact, got_extends, got_exact, only_extends}
use Rattle.script_meaning.proofs.Run.GrantedDecides.{decide_extends, decide_exact}
use Rattle.script_meaning.proofs.Run.Invariant.{Runs, IsFit}
use Rattle.script_meaning.proofs.Tree.TreeLaws.{TreesReadBack}

module _ (back : ReadsBack) (tree : TreesReadBack) (script : Script) (commands : List Command) (state : State) (command : Command)
    (grants : Grants) (runs : Runs script commands state) (fit : IsFit script commands command) where
  pub runs_what : (what : What) → command.what ≡ what
      → IsWithin script.shape.regions script.shape.colours what → UsesObject script.objects what
      → Runs script (commands ++ command ∷ []) (done_one script.objects grants state command what)
  runs_what (whats.Append colours text) asked within uses =
      appending.runs_append script commands state command grants runs fit colours text asked within.0 within.1
  runs_what (whats.Stop steps colours text) asked within uses =
      appending.runs_stop script commands state command grants runs fit colours text within.0 within.1 steps asked
  runs_what (whats.Sync colour) asked within uses =
      moving.runs_sync script commands state command runs fit colour asked within
  runs_what (whats.Scan colours) asked within uses =
      scanning.runs_scan script commands state command grants runs fit colours asked within.0 within.1
  runs_what (whats.Pull region colour) asked within uses =
      moving.runs_pull script commands state command runs fit grants region colour asked within.0 within.1
  runs_what (whats.Trim colour) asked within uses =
      moving.runs_trim script commands state command runs fit colour asked within
  runs_what (whats.Get object key) asked within uses =
      runs_get script commands state command grants runs fit object key
      (subst (λ (w : What). AsksForKey w object key) (sym asked) (record { uses = refl; gets = refl })) uses.0
  runs_what (whats.GetAll object keys) asked within uses =
      getting.runs_get_keys script commands state command grants runs fit object keys (a_key 4 keys uses.1) asked uses.0
  runs_what (whats.Read object keys) asked within uses = absurd (fit.read object keys asked)
  runs_what (whats.Commit object pairs) asked within uses =
      committing.runs_commit back script commands state command grants runs fit object pairs asked
  runs_what (whats.Enq object value) asked within uses =
      appending.runs_queue script commands state command grants runs fit asked refl object uses.0 (λ _ is. is) _
      (λ one _ _. (one, refl))
  runs_what (whats.Deq object) asked within uses =
      dequeuing.runs_dequeue script commands state command grants runs fit object asked uses.0
  runs_what (whats.Only colour text) asked within uses =
      guarding.runs_only script commands state command runs fit colour text asked within
  runs_what (whats.Mk object path value) asked within uses =
      changing.runs_changed tree.0 script commands state command grants runs fit _ asked refl (λ kept. refl) object uses.0
      (λ x. refl) (make_of (below_root_of path) value)
      (λ change is. (
        make_fits path value change is,
        λ x kept. make_asks (caller_in x script.objects command.client) kept object change _ _ path value is (shard_members _ _) refl,
      ))
  runs_what (whats.Rm object path) asked within uses =
      changing.runs_changed tree.0 script commands state command grants runs fit _ asked refl (λ kept. refl) object uses.0
      (λ x. refl) (remove_of (below_root_of path))
      (λ change is. (
        remove_fits path change is,
        λ x kept. remove_asks (caller_in x script.objects command.client) kept object change _ _ path is (shard_members _ _) refl,
      ))
  runs_what (whats.Mv object source target) asked within uses =
      changing.runs_changed tree.0 script commands state command grants runs fit _ asked refl (λ kept. refl) object uses.0
      (λ x. refl) (move_of (below_root_of source) (below_root_of target))
      (λ change is. (
        move_fits source target change is,
        λ x kept. move_asks (caller_in x script.objects command.client) kept object change _ _ source target is (shard_members _ _) refl,
      ))
  runs_what (whats.Ls object path) asked within uses =
      listing.runs_names tree.1 script commands state command grants runs fit object path asked uses.0 uses.1
  runs_what (whats.Peek object key) asked within uses =
      getting.runs_peek script commands state command grants runs fit object key
      (subst (λ (w : What). AsksForKey w object key) (sym asked) (record { uses = refl; gets = refl })) uses.0
  runs_what (whats.Decide object key) asked within uses =
      runs_decide script commands state command grants runs fit object key asked uses.0
  runs_what what asked within uses =
      appending.runs_said script commands state command grants runs fit asked refl _ uses.0 _ _ refl refl

module _ (objects : List Object) (grants : Grants) (state : State) (command : Command) where
  abbrev u : ℕ
  u = command.client

  abbrev caller : Caller
  caller = caller_in state.world objects u

  pub one_command_extends : (what : What) → Extends state (done_one objects grants state command what)
  one_command_extends (whats.Stop steps colours text) = stop_extends objects grants state command colours text steps
  one_command_extends (whats.Sync colour) = sync_extends objects grants state command colour
  one_command_extends (whats.Scan colours) =
      read_extends objects grants state command (members colours) (λ _. scan_answer) (λ v. map (shown_key v))
  one_command_extends (whats.Pull region colour) = pull_extends objects grants state command region colour
  one_command_extends (whats.Trim colour) = trim_extends objects grants state command colour
  one_command_extends (whats.Get object key) = got_extends objects grants state command _ key
  one_command_extends (whats.GetAll object keys) =
      let own = colours_of_object caller object in
      read_extends objects grants state command (shards own keys) (λ v. keys_answer v u own keys) (λ _ _. [])
  one_command_extends (whats.Read object keys) = kept_extends objects grants state command object keys
  one_command_extends (whats.Commit object pairs) = commit_extends objects grants state command object pairs _
  one_command_extends (whats.Deq object) = deq_extends objects grants state command _
  one_command_extends (whats.Only colour text) = only_extends objects grants state command colour text
  one_command_extends (whats.Mk object path value) =
      changed_extends objects grants state command object (make_of (below_root_of path) value)
  one_command_extends (whats.Rm object path) =
      changed_extends objects grants state command object (remove_of (below_root_of path))
  one_command_extends (whats.Mv object source target) =
      changed_extends objects grants state command object (move_of (below_root_of source) (below_root_of target))
  one_command_extends (whats.Ls object path) =
      read_extends objects grants state command (all_colours objects state command object) (λ v. names_answer v path) (λ _ _. [])
  one_command_extends (whats.Peek object key) = got_extends objects grants state command _ key
  one_command_extends (whats.Decide object key) = decide_extends objects grants state command object key
  one_command_extends what =
      append_extends objects grants state command (set_said caller what) (exact_text (node_said caller what).text) (members (set_said caller what))

  pub one_command_exact : (what : What) → HadMemory u (done_one objects grants state command what)
      → done_one objects grants state command what ≡ done_one objects all_granted state command what
  one_command_exact (whats.Stop steps colours text) = stop_exact objects grants state command colours text steps
  one_command_exact (whats.Sync colour) = λ _. refl
  one_command_exact (whats.Scan colours) =
      reads_exact objects grants state command (members colours) (λ _. scan_answer) (λ v. map (shown_key v))
  one_command_exact (whats.Pull region colour) = pull_exact objects grants state command region colour
  one_command_exact (whats.Trim colour) = λ _. refl
  one_command_exact (whats.Get object key) = λ _. got_exact objects grants state command _ key
  one_command_exact (whats.GetAll object keys) =
      let own = colours_of_object caller object in
      reads_exact objects grants state command (shards own keys) (λ v. keys_answer v u own keys) (λ _ _. [])
  one_command_exact (whats.Read object keys) = kept_exact objects grants state command object keys
  one_command_exact (whats.Commit object pairs) = commit_exact objects grants state command object pairs _
  one_command_exact (whats.Deq object) = deq_exact objects grants state command _
  one_command_exact (whats.Only colour text) = λ _. refl
  one_command_exact (whats.Mk object path value) =
      changed_exact objects grants state command object (make_of (below_root_of path) value)
  one_command_exact (whats.Rm object path) =
      changed_exact objects grants state command object (remove_of (below_root_of path))
  one_command_exact (whats.Mv object source target) =
      changed_exact objects grants state command object (move_of (below_root_of source) (below_root_of target))
  one_command_exact (whats.Ls object path) =
      reads_exact objects grants state command (all_colours objects state command object) (λ v. names_answer v path) (λ _ _. [])
  one_command_exact (whats.Peek object key) = λ _. got_exact objects grants state command _ key
  one_command_exact (whats.Decide object key) = decide_exact objects grants state command object key
  one_command_exact what =
      append_exact objects grants state command (set_said caller what) (exact_text (node_said caller what).text) (members (set_said caller what))
