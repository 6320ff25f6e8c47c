-- After a dequeue there holds what held before.
use Rattle.std.proofs.Common.{◌≡◌, ℕ, ◌<◌, List, [], ◌∷◌, ◌++◌, length, None, cond, true, refl, ap, sym, subst, ◌∙◌, arith}
use Rattle.std.specs.Prelude.{nat_lt, ◌&&◌, slice_index}
use Rattle.log_node.specs.declared.ids.Colours.{Colours}
use Rattle.log_node.specs.declared.forms.Form.TheVariants as forms
use Rattle.log_node.specs.Sets.{members, set_of}
use Rattle.object_form.specs.Forms.{form_text}
use Rattle.col_core.proofs.CallerLemmas.{choice}
use Rattle.world_laws.specs.declared.steps.Step.TheVariants.{Play}
use Rattle.world_laws.specs.Laws.{IsReached, log_of}
use Rattle.world_laws.specs.Worlds.{World, home_of, after, is_client, is_column, may_single, may_play, after_play, single_stamp, next_id}
use Rattle.world_laws.proofs.CallerLemmas.{run_reached, played_client}
use Rattle.script_text.specs.declared.commands.What.{What}
use Rattle.script_text.specs.declared.commands.What.TheVariants as whats
use Rattle.script_text.specs.declared.script.Command.{Command}
use Rattle.script_text.specs.declared.script.Script.{Script}
use Rattle.script_text.specs.Fitting.{is_queue, HasObject}
use Rattle.report_text.specs.declared.report.Answer.{Answer}
use Rattle.report_text.specs.declared.report.Answer.TheVariants as answers
use Rattle.lawful_run.specs.Callers.{Caller}
use Rattle.lawful_run.specs.Asks.{colours_of_object, Dequeuing}
use Rattle.lawful_run.specs.Deeds.{AsksToAppend, manner_of, colours_synced}
use Rattle.lawful_run.specs.Objects.{TakesFront}
use Rattle.report_text.specs.declared.report.PointPiece.{PointPiece}
use Rattle.object_fold.specs.Queues.{front_after}
use Rattle.log_node.specs.declared.node.Shape.{Shape}
use Rattle.log_node.specs.declared.limits.TheConstants.{MAX_COLOURS}
use Rattle.log_node.proofs.CallerLemmas.{members-one}
use Rattle.script_meaning.specs.States.{State, Grants, answered}
use Rattle.script_meaning.specs.Appends.{with_single, point_in}
use Rattle.script_meaning.specs.Objects.{caller_in}
use Rattle.script_meaning.proofs.World.Clearing.{Finished}
use Rattle.script_meaning.proofs.Client.Kept.{Does}
use Rattle.script_meaning.proofs.Object.ObjectAppends.{AsksIn}
use Rattle.script_meaning.specs.Dequeues.{first_nodes, sync_now, base_now, dequeued_at, dequeued_on, dequeued_from, dequeued}
use Rattle.script_meaning.proofs.Object.Dequeuing.{are_objects, did_take, did_find_none, did_refuse_read, did_end_dequeue}
use Rattle.script_meaning.proofs.Client.OwnEvents.{finished_client}
use Rattle.script_meaning.proofs.Object.ObjectKinds.{queue_colour}
use Rattle.script_meaning.proofs.Append.AppendOne as one
use Rattle.script_meaning.proofs.Run.FitCommands as fits
use Rattle.script_meaning.proofs.Client.Refusing.{did_end_one}
use Rattle.script_meaning.proofs.Run.Invariant.{IsStopped, Runs, IsFit, runs_done, free}

module _ (script : Script) (commands : List Command) (state : State) (command : Command) (grants : Grants)
    (runs : Runs script commands state) (fit : IsFit script commands command) where
  abbrev u : ℕ
  u = command.client

  abbrev w : World
  w = state.world

  abbrev S : ℕ → Type 0
  S = IsStopped commands state.replies

  abbrev commands' : List Command
  commands' = commands ++ command ∷ []

  abbrev caller : Caller
  caller = caller_in w script.objects u

  going : S u → ⊥
  going = free script commands state command runs fit

  client_ok : is_client w u ≡ true
  client_ok = fits.client_ok script commands state command runs fit

  column_ok : (c : ℕ) → c < script.shape.colours → is_column w (home_of w u) c ≡ true
  column_ok = fits.column_ok script commands state command runs fit

  -- a dequeue on a colour
  module _ (colours : Colours) (c : ℕ) (only : members colours ≡ c ∷ []) (set : colours ≡ set_of (c ∷ []))
      (lt : c < script.shape.colours) (dequeuing : manner_of command.what ≡ Dequeuing)
      (asks : AsksIn script.objects u command.what colours (form_text forms.Dequeue))
      (synced : (x : World) → colours_synced (caller_in x script.objects u) command.what ≡ c ∷ []) where
    abbrev text : List ℕ
    text = form_text forms.Dequeue

    abbrev v : World
    v = with_single grants w u text c

    abbrev at_point : PointPiece
    at_point = point_in w v u (next_id w u) c

    module _ (ok : may_single w u c ≡ true) where
      appended_so : Does script.objects u (whats.Append colours text) w v
          (answers.Stood (single_stamp w u c) None (at_point ∷ [])) []
      appended_so = one.does script.objects S grants w runs.reached runs.finished u c text going ok colours only set

      finished_so : Finished S v
      finished_so =
          subst (Finished S) (sym (one.after_is script.objects S grants w runs.reached runs.finished u c text going ok))
          (one.finished2 script.objects S grants w runs.reached runs.finished u c text going ok)

      shape_is : v.shape ≡ w.shape
      shape_is = appended_so.shape

      few_is : home_of v u < 4
      few_is = subst (λ (s : Shape). slice_index s.homes u < 4) (sym shape_is)
          (fits.own_few script commands state command runs fit)

      client_is : is_client v u ≡ true
      client_is = subst (λ (s : Shape). nat_lt u (length s.homes) ≡ true) (sym shape_is) client_ok

      column_is : is_column v (home_of v u) c ≡ true
      column_is = subst (λ (s : Shape). (nat_lt (slice_index s.homes u) s.regions && nat_lt c s.colours) ≡ true)
          (sym shape_is) (column_ok c lt)

      reached_is : IsReached v
      reached_is = subst IsReached appended_so.run (run_reached w appended_so.steps runs.reached)

      finished_play : Finished S (after v (Play u c))
      finished_play =
          choice (Finished S) (may_play v u c) (after_play v u c) v
          (λ _. finished_client S v u (played_client v u c) refl finished_so) (λ _. finished_so)

      abbrev took : Answer
      took = answers.Took (front_after (first_nodes v u c at_point.position)) at_point (sync_now v u c)

      takes : TakesFront (log_of v) (caller_in v script.objects u) at_point
          (front_after (first_nodes v u c at_point.position))
      takes = record {
        nodes = first_nodes v u c at_point.position;
        before = are_objects v reached_is (home_of v u) c at_point.position;
        value_is = refl;
      }

      runs_read : Runs script commands' (dequeued_at grants state command v (single_stamp w u c) at_point)
      runs_read =
          choice (Runs script commands') (may_play v u c)
          (cond grants.fold (answered state command (after v (Play u c)) took [])
          (answered state command (after v (Play u c)) (answers.UnreadNoMemory (single_stamp w u c)) []))
          (answered state command v (answers.UnreadTrimmed (single_stamp w u c) c (base_now v u c)) [])
          (λ t. choice (Runs script commands') grants.fold (answered state command (after v (Play u c)) took [])
          (answered state command (after v (Play u c)) (answers.UnreadNoMemory (single_stamp w u c)) [])
          (λ _. runs_done script commands state command runs fit (after v (Play u c)) took []
          (did_take script.objects u command.what colours text dequeuing asks w v runs.reached (single_stamp w u c)
          at_point (synced v) appended_so few_is client_is column_is
          (front_after (first_nodes v u c at_point.position)) t takes) finished_play)
          (λ _. runs_done script commands state command runs fit (after v (Play u c))
          (answers.UnreadNoMemory (single_stamp w u c)) []
          (did_find_none script.objects u command.what colours text dequeuing asks w v runs.reached
          (single_stamp w u c) at_point (synced v) appended_so few_is client_is column_is t) finished_play))
          (λ f. runs_done script commands state command runs fit v
          (answers.UnreadTrimmed (single_stamp w u c) c (base_now v u c)) []
          (did_refuse_read script.objects u command.what colours text dequeuing asks w v runs.reached
          (single_stamp w u c) at_point (synced v) appended_so few_is client_is column_is f) finished_so)

    runs_deq : Runs script commands' (dequeued_on grants state command c)
    runs_deq =
        choice (Runs script commands') (may_single w u c)
        (dequeued_at grants state command v (single_stamp w u c) at_point)
        (answered state command w (answers.StampEnd c) [])
        runs_read
        (λ refused. runs_done script commands state command runs fit w (answers.StampEnd c) []
        (did_end_dequeue script.objects u c command.what colours text w dequeuing asks
        (did_end_one script.objects u c colours text w only client_ok (column_ok c lt) refused)) runs.finished)

  pub runs_dequeue : (object : ℕ) → command.what ≡ whats.Deq object → HasObject script.objects object is_queue
      → Runs script commands' (dequeued script.objects grants state command object)
  runs_dequeue object asked has =
      subst (λ (cs : List ℕ). Runs script commands' (dequeued_from grants state command cs)) (sym of_queue.1)
      (runs_deq (set_of (of_queue.0 ∷ [])) of_queue.0 only refl of_queue.2
      (ap manner_of asked) asks synced) where
        of_queue : (c : ℕ) × (colours_of_object caller object ≡ c ∷ []) × (c < script.shape.colours)
        of_queue = queue_colour script.objects script.shape.regions script.shape.colours fit.kinds object has

        low : of_queue.0 < MAX_COLOURS
        low = let a = of_queue.2 in let b = fit.few_colours in omega (arith, a, b)

        only : members (set_of (of_queue.0 ∷ [])) ≡ of_queue.0 ∷ []
        only = members-one of_queue.0 low

        asks : AsksIn script.objects u command.what (set_of (of_queue.0 ∷ [])) (form_text forms.Dequeue)
        asks x kept = subst (λ (what : What). AsksToAppend (caller_in x script.objects u) kept what
            (set_of (of_queue.0 ∷ [])) (form_text forms.Dequeue)) (sym asked) (only ∙ sym of_queue.1, refl)

        synced : (x : World) → colours_synced (caller_in x script.objects u) command.what ≡ of_queue.0 ∷ []
        synced x = ap (colours_synced (caller_in x script.objects u)) asked ∙ of_queue.1
