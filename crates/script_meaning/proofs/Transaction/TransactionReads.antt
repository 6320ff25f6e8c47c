-- A read of a transactional map: what it answers, and what it keeps for a commit.
use Rattle.std.proofs.Common.{◌≡◌, ℕ, ◌<◌, List, [], ◌∷◌, ◌++◌, length, map, Option, Some, None, true, inl, inr, ap, sym, subst, ◌∙◌, arith, length-append}
use Rattle.std.specs.Prelude.{◌==◌}
use Rattle.std.specs.List.{list_any}
use Rattle.log_node.specs.declared.ids.Key.{Key}
use Rattle.log_node.specs.declared.forms.Version.{Version}
use Rattle.log_node.specs.declared.limits.TheConstants.{MAX_COLOURS}
use Rattle.object_form.specs.Forms.{is_writer, AreVersions}
use Rattle.object_fold.specs.Nodes.{ObjectNode}
use Rattle.object_fold.specs.Transactions.{writes_after, value_of, versions_after}
use Rattle.col_core.specs.Keeping.{Kept, updated, with_read}
use Rattle.col_core.specs.Log.{Log}
use Rattle.col_core.proofs.CallerLemmas.{In}
use Rattle.world_laws.specs.Worlds.{World, home_of}
use Rattle.world_laws.specs.Laws.{IsReached, log_of}
use Rattle.world_laws.proofs.CallerLemmas.{at_updated, in_append, in_map}
use Rattle.script_text.specs.declared.commands.What.{What}
use Rattle.script_text.specs.declared.commands.What.TheVariants as whats
use Rattle.script_text.specs.declared.script.Command.{Command}
use Rattle.script_text.specs.declared.script.Script.{Script}
use Rattle.script_text.specs.Fitting.{AreObjectColours, is_tx, UsesObject}
use Rattle.report_text.specs.declared.report.Answer.{Answer}
use Rattle.report_text.specs.declared.report.Answer.TheVariants as answers
use Rattle.report_text.specs.declared.report.RaisePiece.{RaisePiece}
use Rattle.report_text.specs.declared.report.SyncPiece.{SyncPiece}
use Rattle.lawful_run.specs.Asks.{colours_of_object, may_help}
use Rattle.lawful_run.specs.Deeds.{colours_synced, manner_of}
use Rattle.lawful_run.specs.Callers.{Caller}
use Rattle.lawful_run.specs.Explains.{Explains}
use Rattle.lawful_run.specs.Refusals.{kept_before, kept_behind}
use Rattle.lawful_run.proofs.CallerLemmas.{explains_read, read_versions_fit, reads_keep}
use Rattle.script_meaning.specs.States.{State, Grants, LastReads}
use Rattle.script_meaning.specs.Stamped.{read_stamp, stamped_read}
use Rattle.script_meaning.specs.Dequeues.{object_node_at}
use Rattle.script_meaning.specs.Gets.{key_answers}
use Rattle.script_meaning.specs.Objects.{caller_in}
use Rattle.script_meaning.specs.Telling.{all_colours}
use Rattle.script_meaning.specs.Transactions.{keys_answered, read_in}
use Rattle.script_meaning.proofs.Read.AfterRead.{EndsTold, did, read_reached, after_read_so}
use Rattle.script_meaning.proofs.Read.AfterScan.{filtered_distinct}
use Rattle.script_meaning.proofs.Object.Dequeuing.{listed_objects}
use Rattle.script_meaning.proofs.Run.FitCommands as fits
use Rattle.script_meaning.proofs.Object.GetRuns.{answered_keys, answered_values}
use Rattle.script_meaning.proofs.Run.Invariant.{IsStopped, Runs, AreFit, AreFew, IsFitWhere, free, runs_answered, runs_over}
use Rattle.script_meaning.proofs.Client.Kept.{IsKeptBy}
use Rattle.script_meaning.proofs.Object.ObjectKinds.{object_has}
use Rattle.script_meaning.proofs.Client.ReadsLeft.{KeptOver, without_read, found_kept, found_anew}
use Rattle.script_meaning.proofs.Object.ShardSets.{rising_below, rising_some}
use Rattle.script_meaning.proofs.Read.StampedEnds.{ReadTo, KeepsRead}
use Rattle.script_meaning.proofs.Read.StampedPlays.{MayLook}
use Rattle.script_meaning.proofs.Read.StampedRaises.{AreDistinct}
use Rattle.script_meaning.proofs.Transaction.VersionsFit.{key_fits}

module _ (script : Script) (commands : List Command) (state : State) (command : Command) (grants : Grants)
    (runs : Runs script commands state) (fit : IsFitWhere script commands command ⊥ (Unit {0})) (object : ℕ)
    (keys : List (List ℕ)) (asked : command.what ≡ whats.Read object keys) where
  abbrev u : ℕ
  u = command.client

  abbrev w : World
  w = state.world

  abbrev S : ℕ → Type 0
  S = IsStopped commands state.replies

  abbrev cs : List ℕ
  cs = all_colours script.objects state command object

  uses : UsesObject script.objects (whats.Read object keys)
  uses = subst (UsesObject script.objects) asked fit.uses

  own : AreObjectColours script.shape.colours (colours_of_object (caller_in w script.objects u) object)
  own = object_has script.objects script.shape.regions script.shape.colours fit.kinds object is_tx uses.0

  going : S u → ⊥
  going = free script commands state command runs fit

  distinct : AreDistinct cs
  distinct = filtered_distinct (λ c. list_any (λ d. d == c) (colours_of_object (caller_in w script.objects u) object)) MAX_COLOURS 0

  look : MayLook script.objects S u (read_stamp w u cs) w cs
  look = fits.may_look script commands state command runs fit cs
      (rising_below script.shape.colours fit.few_colours (colours_of_object (caller_in w script.objects u) object) own)

  synced : (y : World) → colours_synced (caller_in y script.objects u) command.what ≡ cs
  synced y = ap (colours_synced (caller_in y script.objects u)) asked

  abbrev one : (c : ℕ) × In c cs
  one = rising_some script.shape.colours fit.few_colours (colours_of_object (caller_in w script.objects u) object) own

  abbrev x : World
  x = (stamped_read grants w u cs).world

  abbrev IsTold : ℕ → List RaisePiece → List SyncPiece → List Key → Type 0
  IsTold = EndsTold script.objects S state command grants runs.reached runs.finished going (ap manner_of asked) cs synced
      distinct look one.0 one.1

  reached : IsReached x
  reached = read_reached script.objects S state command grants runs.reached runs.finished going (ap manner_of asked)
      cs synced distinct look one.0 one.1

  abbrev KeepsTold : List RaisePiece → List SyncPiece → Kept → Type 0
  KeepsTold = KeepsRead script.objects S command.what (ap may_help (ap manner_of asked)) w runs.reached runs.finished u going
      cs distinct look one.0 one.1 x

  abbrev to : ReadTo script.objects S command.what (ap may_help (ap manner_of asked)) w runs.reached runs.finished u going
      cs distinct look one.0 one.1 x
  to = (did script.objects S state command grants runs.reached runs.finished going (ap manner_of asked) cs synced distinct
      look one.0 one.1).to

  -- what it answers and keeps where it is whole
  module _ (stamp : ℕ) (raises : List RaisePiece) (syncs : List SyncPiece) (read : List Key)
      (ended : IsTold stamp raises syncs read) where
    abbrev nodes : List ObjectNode
    nodes = map (object_node_at x) read

    abbrev found : List Version
    found = versions_after nodes keys

    abbrev answer : Answer
    answer = answers.GotKeys stamp (key_answers (value_of (writes_after nodes)) keys) raises syncs

    abbrev left : LastReads
    left = updated (state.reads u) object (Some found)

    kept_so : (kept : Kept) → IsKeptBy w u kept → kept.reads ≡ state.reads u
        → KeptOver x script.objects u kept command.what answer [] left
    kept_so kept k same = record {
      after = with_read h.after object (Some found);
      keeps = found_kept x u h.after object found h.keeps;
      explains = subst (λ (what : What). Explains log there (kept_before what kept) what answer []
          (with_read h.after object (Some found))) (sym asked)
          (subst (λ (n : ℕ). Explains log there before (whats.Read object keys)
          (answers.GotKeys n (key_answers (value_of (writes_after nodes)) keys) raises syncs) []
          (with_read h.after object (Some found))) (sym ended.is)
          (explains_read log there before object keys (read_stamp w u cs)
          (key_answers (value_of (writes_after nodes)) keys) raises syncs h.after read nodes h.reads ended.read
          (listed_objects x reached read ended.nodes)
          (record {
            keys_are = answered_keys (value_of (writes_after nodes)) keys;
            values_are = answered_values (value_of (writes_after nodes)) keys;
          })));
      reads = subst (λ (what : What). (kept_behind what (with_read h.after object (Some found))).reads ≡ left) (sym asked)
          (ap (λ (r : LastReads). updated r object (Some found)) stays
          ∙ (found_anew kept.reads object found ∙ ap (λ (r : LastReads). updated r object (Some found)) same));
    } where
      log : Log
      log = log_of x

      there : Caller
      there = caller_in x script.objects u

      before : Kept
      before = with_read kept object None

      h : KeepsTold raises syncs before
      h = ended.kept before (without_read w u kept object k)

      stays : h.after.reads ≡ before.reads
      stays = reads_keep log there before cs (read_stamp w u cs) raises syncs h.after h.reads

    fit_left : AreFew (commands ++ command ∷ []) x → AreFit left
    fit_left few other versions =
        at_updated (λ (r : Option (List Version)). r ≡ Some versions → AreVersions versions) (state.reads u) object
        (Some found) other
        (λ _ e. let same : found ≡ versions = cc in subst AreVersions same
        (read_versions_fit nodes (λ node i. good few node (in_map (object_node_at x) read node i)) keys uses.1))
        (λ _ e. runs.versions u other versions e) where
          asked_by_clients : (c : Command) → In c (commands ++ command ∷ []) → c.client < length script.shape.homes
          asked_by_clients c i = elim (in_append c commands (command ∷ []) i) [
            | inl j ↦ fit.callers c j
            | inr j ↦ elim j [
              | inl same ↦ subst (λ (d : Command). d.client < length script.shape.homes) same fit.caller
              | inr none ↦ absurd none
            ]
          ]

          good : AreFew (commands ++ command ∷ []) x → (node : ObjectNode)
              → ((key : Key) × In key read × (object_node_at x key ≡ node)) → is_writer (Some node.key) ≡ true
          good few node (key, i, same) =
              let s = ended.stand key i in
              let total = length-append commands (command ∷ []) in
              let short = fit.short in
              subst (λ (n : ObjectNode). is_writer (Some n.key) ≡ true) same
              (key_fits x reached (commands ++ command ∷ []) (length script.shape.homes) fit.few_clients asked_by_clients
              (omega (arith, total, short)) few (home_of x u) s.0 key s.1)

    runs_found : Runs script (commands ++ command ∷ []) (keys_answered state command object keys x stamp raises syncs read)
    runs_found = runs_over script commands state command runs fit x answer [] left (record {
      steps = to.steps;
      run = to.run;
      shape = to.shape;
      others = to.others;
      adds = to.adds;
      keeps = kept_so;
    }) fit_left (λ a. absurd a) to.finished

  pub runs_read : Runs script (commands ++ command ∷ []) (read_in script.objects grants state command object keys)
  runs_read =
      after_read_so script.objects S state command grants runs.reached runs.finished going (ap manner_of asked) cs synced
      distinct look one.0 one.1 (keys_answered state command object keys x) (Runs script (commands ++ command ∷ []))
      (λ answer nodes none d fin. runs_answered script commands state command runs fit x answer nodes none d
      (λ a. absurd a) fin) runs_found
