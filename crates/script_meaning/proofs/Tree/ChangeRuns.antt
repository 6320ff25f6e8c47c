-- After a change of a tree there holds what held before.
use Rattle.std.proofs.Common.{◌≡◌, ℕ, List, [], ◌∷◌, ◌++◌, map, Option, Some, None, refl, ap, sym, ◌∙◌, arith}
use Rattle.std.specs.Prelude.{unwrap_or}
use Rattle.log_node.specs.declared.ids.Key.{Key}
use Rattle.log_node.specs.declared.node.Node.{Node}
use Rattle.object_fold.specs.Folds.{told_among, told_of}
use Rattle.object_fold.specs.Nodes.{nodes_before}
use Rattle.tree_fold.specs.declared.change.Change.{Change}
use Rattle.tree_fold.specs.declared.told.Told.{Told}
use Rattle.tree_fold.specs.declared.told.Told.TheVariants.{Done, Failed}
use Rattle.tree_fold.specs.Changes.{IsChange, change_text, change_keys}
use Rattle.tree_fold.specs.Laws.{ChangesReadBack}
use Rattle.tree_fold.specs.Readings.{change_of}
use Rattle.tree_fold.specs.Trees.{tree_after, why, told_under, told_of_change, telling}
use Rattle.tree_fold.proofs.CallerLemmas.{some_keys}
use Rattle.col_core.specs.Keeping.{Kept}
use Rattle.col_core.proofs.CallerLemmas.{In}
use Rattle.world_laws.specs.Worlds.{World, no_row}
use Rattle.script_text.specs.declared.commands.What.{What}
use Rattle.script_text.specs.declared.script.Command.{Command}
use Rattle.script_text.specs.declared.script.Script.{Script}
use Rattle.script_text.specs.Fitting.{AreObjectColours, is_tree, HasObject}
use Rattle.report_text.specs.declared.report.Answer.TheVariants as answers
use Rattle.lawful_run.specs.Asks.{Committing, colours_of_object}
use Rattle.lawful_run.specs.Deeds.{AsksToAppend, colours_synced, manner_of}
use Rattle.lawful_run.specs.Explains.{Explains, ShowsChange}
use Rattle.lawful_run.specs.Refusals.{kept_before}
use Rattle.script_meaning.specs.Dequeues.{object_node_at}
use Rattle.script_meaning.specs.Helping.{node_by_id}
use Rattle.script_meaning.specs.Objects.{caller_in, shard_set}
use Rattle.script_meaning.specs.States.{State, Grants}
use Rattle.script_meaning.specs.Telling.{all_colours}
use Rattle.script_meaning.specs.Trees.{change_answer, change_told, change_tells, changed}
use Rattle.script_meaning.proofs.Client.Kept.{did_nothing}
use Rattle.script_meaning.proofs.Object.ObjectKinds.{object_has, some_of}
use Rattle.script_meaning.proofs.Run.Invariant.{Runs, IsFit, runs_done}
use Rattle.script_meaning.proofs.Transaction.Telling.{TellsSo}
use Rattle.script_meaning.proofs.Transaction.TellingRuns.{runs_told}
use Rattle.script_meaning.proofs.Transaction.TransactionVerdicts.{found_own}

-- A change's node that is read is told what becomes of it, after the nodes before it.
own_told : ChangesReadBack → (w : World) (own : Key) (keys : List Key) → In own keys → (node : Node)
    → node_by_id w own.id ≡ Some node → (change : Change) → IsChange change → node.text ≡ change_text change
    → told_of telling (map (object_node_at w) keys) own
    ≡ Some (told_under own.stamp (why (tree_after (nodes_before own (map (object_node_at w) keys))) change))
own_told back w own keys i node there change is_change text =
    let nodes = map (object_node_at w) keys in
    let its_text : (object_node_at w own).text ≡ change_text change =
    ap (λ (x : Option Node). (unwrap_or x no_row.node).text) there ∙ text in
    ap (told_among telling nodes) (found_own w own keys i)
    ∙ ap (told_of_change own.stamp (tree_after (nodes_before own nodes)))
    (ap change_of its_text ∙ back change is_change)

-- A change is told what becomes of it.
change_so : ChangesReadBack → (what : What) (change : Change) → IsChange change → TellsSo what (change_text change) change_tells
change_so back what change is_change x keys own row points at raises syncs log caller kept after i node there text says =
    by_told (change_told x keys own) refl where
      told : told_of telling (map (object_node_at x) keys) own ≡ Some (change_told x keys own)
      told = there_is (told_of telling (map (object_node_at x) keys) own) _
          (own_told back x own keys i node there change is_change text) where
            there_is : (o : Option Told) (found : Told) → o ≡ Some found → o ≡ Some (unwrap_or o (Done own.stamp))
            there_is o found e = e ∙ ap (λ (p : Option Told). Some (unwrap_or p (Done own.stamp))) (sym e)

      by_told : (found : Told) → change_told x keys own ≡ found
          → Explains log caller kept what (change_answer found row points at raises syncs) [] after
      by_told (Done n) is = (refl, says (ShowsChange None n) (told ∙ ap Some is))
      by_told (Failed n reason) is = (refl, says (ShowsChange (Some reason) n) (told ∙ ap Some is))

-- a command whose fields say a change of a tree, if they say one
module _ (back : ChangesReadBack) (script : Script) (commands : List Command) (state : State) (command : Command)
    (grants : Grants) (runs : Runs script commands state) (fit : IsFit script commands command) (what : What)
    (asked : command.what ≡ what) (committing : manner_of what ≡ Committing)
    (takes_none : (kept : Kept) → kept_before what kept ≡ kept) (object : ℕ)
    (has : HasObject script.objects object is_tree)
    (synced : (x : World) → colours_synced (caller_in x script.objects command.client) what
    ≡ all_colours script.objects state command object) where
  abbrev u : ℕ
  u = command.client

  abbrev w : World
  w = state.world

  abbrev its_colours : List ℕ
  its_colours = colours_of_object (caller_in w script.objects u) object

  own : AreObjectColours script.shape.colours its_colours
  own = object_has script.objects script.shape.regions script.shape.colours fit.kinds object is_tree has

  abbrev Asks : Change → Type 0
  Asks change = (x : World) (kept : Kept)
      → AsksToAppend (caller_in x script.objects u) kept what (shard_set its_colours (change_keys change)) (change_text change)

  pub runs_changed : (change : Option Change) → ((said : Change) → change ≡ Some said → IsChange said × Asks said)
      → Runs script (commands ++ command ∷ []) (changed script.objects grants state command object change)
  runs_changed None says =
      runs_done script commands state command runs fit w answers.NoMemory []
      (did_nothing script.objects u command.what w) runs.finished
  runs_changed (Some change) says =
      let said = says change refl in
      let key = some_of (change_keys change) (let some = some_keys change said.0 in omega (arith, some)) in
      runs_told script commands state command grants runs fit what asked committing takes_none object own synced
      (change_keys change) key (change_text change) (λ x kept _. said.1 x kept) change_tells
      (change_so back what change said.0)
