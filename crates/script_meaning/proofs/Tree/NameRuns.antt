-- After a list of the names in a path of a tree there holds what held before.
use Rattle.std.proofs.Common.{◌≡◌, ℕ, List, [], ◌∷◌, ◌++◌, map, Option, Some, ap, sym, subst}
use Rattle.std.specs.Prelude.{◌==◌}
use Rattle.std.specs.List.{list_any}
use Rattle.log_node.specs.declared.ids.Key.{Key}
use Rattle.log_node.specs.declared.limits.TheConstants.{MAX_COLOURS}
use Rattle.object_fold.specs.Nodes.{ObjectNode}
use Rattle.tree_fold.specs.Laws.{NamesAreAnswered}
use Rattle.tree_fold.specs.Paths.{Path}
use Rattle.tree_fold.specs.Readings.{path_of}
use Rattle.tree_fold.specs.Trees.{tree_after, IsNamesAnswer}
use Rattle.col_core.specs.Log.{Log}
use Rattle.col_core.proofs.CallerLemmas.{In}
use Rattle.world_laws.specs.Worlds.{World}
use Rattle.world_laws.specs.Laws.{IsReached, log_of}
use Rattle.script_text.specs.declared.commands.What.{What}
use Rattle.script_text.specs.declared.commands.What.TheVariants as whats
use Rattle.script_text.specs.declared.script.Command.{Command}
use Rattle.script_text.specs.declared.script.Script.{Script}
use Rattle.script_text.specs.Fitting.{AreObjectColours, is_tree, HasObject, HasWords}
use Rattle.report_text.specs.declared.report.RaisePiece.{RaisePiece}
use Rattle.report_text.specs.declared.report.SyncPiece.{SyncPiece}
use Rattle.lawful_run.specs.Asks.{colours_of_object}
use Rattle.lawful_run.specs.Callers.{Caller}
use Rattle.lawful_run.specs.Deeds.{colours_synced, manner_of}
use Rattle.lawful_run.specs.Explains.{Explains}
use Rattle.lawful_run.proofs.CallerLemmas.{explains_names, list_said}
use Rattle.script_meaning.specs.Dequeues.{object_node_at}
use Rattle.script_meaning.specs.Objects.{caller_in}
use Rattle.script_meaning.specs.Stamped.{read_stamp, stamped_read}
use Rattle.script_meaning.specs.States.{State, Grants}
use Rattle.script_meaning.specs.Telling.{all_colours}
use Rattle.script_meaning.specs.Trees.{names_in, names_answer, names_listed}
use Rattle.script_meaning.proofs.Client.Kept.{IsKeptBy, KeptAfter}
use Rattle.script_meaning.proofs.Object.Dequeuing.{listed_objects}
use Rattle.script_meaning.proofs.Object.ObjectKinds.{object_has}
use Rattle.script_meaning.proofs.Object.ShardSets.{rising_below, rising_some}
use Rattle.script_meaning.proofs.Read.AfterRead.{EndsTold, read_reached, after_read}
use Rattle.script_meaning.proofs.Read.AfterScan.{filtered_distinct}
use Rattle.script_meaning.proofs.Read.StampedPlays.{MayLook}
use Rattle.script_meaning.proofs.Read.StampedRaises.{AreDistinct}
use Rattle.script_meaning.proofs.Run.FitCommands as fits
use Rattle.script_meaning.proofs.Run.Invariant.{IsStopped, Runs, IsFit, runs_done, free}

module _ (names : NamesAreAnswered) (script : Script) (commands : List Command) (state : State) (command : Command)
    (grants : Grants) (runs : Runs script commands state) (fit : IsFit script commands command) (object : ℕ)
    (text : List ℕ) (asked : command.what ≡ whats.Ls object text) (has : HasObject script.objects object is_tree)
    (words : HasWords (whats.Ls object text)) where
  abbrev u : ℕ
  u = command.client

  abbrev w : World
  w = state.world

  abbrev S : ℕ → Type 0
  S = IsStopped commands state.replies

  abbrev its_colours : List ℕ
  its_colours = colours_of_object (caller_in w script.objects u) object

  abbrev cs : List ℕ
  cs = all_colours script.objects state command object

  own : AreObjectColours script.shape.colours its_colours
  own = object_has script.objects script.shape.regions script.shape.colours fit.kinds object is_tree has

  going : S u → ⊥
  going = free script commands state command runs fit

  distinct : AreDistinct cs
  distinct = filtered_distinct (λ c. list_any (λ d. d == c) its_colours) MAX_COLOURS 0

  look : MayLook script.objects S u (read_stamp w u cs) w cs
  look = fits.may_look script commands state command runs fit cs
      (rising_below script.shape.colours fit.few_colours its_colours own)

  synced : (y : World) → colours_synced (caller_in y script.objects u) command.what ≡ cs
  synced y = ap (colours_synced (caller_in y script.objects u)) asked

  abbrev one : (c : ℕ) × In c cs
  one = rising_some script.shape.colours fit.few_colours its_colours own

  abbrev x : World
  x = (stamped_read grants w u cs).world

  abbrev IsTold : ℕ → List RaisePiece → List SyncPiece → List Key → Type 0
  IsTold = EndsTold script.objects S state command grants runs.reached runs.finished going (ap manner_of asked) cs synced
      distinct look one.0 one.1

  reached : IsReached x
  reached = read_reached script.objects S state command grants runs.reached runs.finished going (ap manner_of asked) cs
      synced distinct look one.0 one.1

  abbrev path : (p : Path) × (path_of text ≡ Some p)
  path = list_said object text words

  -- what it answers and keeps where it is whole
  told : (stamp : ℕ) (raises : List RaisePiece) (syncs : List SyncPiece) (read : List Key)
      → IsTold stamp raises syncs read → (kept : _) → IsKeptBy w u kept
      → KeptAfter x script.objects u kept command.what (names_answer x text stamp raises syncs read) []
  told stamp raises syncs read ended kept k =
      let h = ended.kept kept k in
      let log : Log = log_of x in
      let there : Caller = caller_in x script.objects u in
      let nodes : List ObjectNode = map (object_node_at x) read in record {
        after = h.after;
        keeps = h.keeps;
        explains = subst (λ (what : What). Explains log there kept what (names_answer x text stamp raises syncs read) [] h.after)
            (sym asked)
            (subst (λ (n : ℕ). Explains log there kept (whats.Ls object text) (names_answer x text n raises syncs read) [] h.after)
            (sym ended.is)
            (explains_names log there kept object text path.0 (names_in (tree_after nodes) (path_of text)) (read_stamp w u cs)
            raises syncs h.after read nodes h.reads ended.read (listed_objects x reached read ended.nodes) path.1
            (subst (λ (o : Option Path). IsNamesAnswer (tree_after nodes) path.0 (names_in (tree_after nodes) o)) (sym path.1)
            (names (tree_after nodes) path.0))));
      }

  pub runs_names : Runs script (commands ++ command ∷ []) (names_listed script.objects grants state command object text)
  runs_names =
      after_read script.objects S state command grants runs.reached runs.finished going (ap manner_of asked) cs synced
      distinct look one.0 one.1 (names_answer x text) (λ _. []) (Runs script (commands ++ command ∷ []))
      (λ answer nodes d fin. runs_done script commands state command runs fit x answer nodes d fin) told
