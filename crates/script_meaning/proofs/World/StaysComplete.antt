-- What is complete stays so, whatever steps come; and the rows of which events are steps.
use Rattle.std.proofs.Common.{◌≡◌, List, [], ◌∷◌, ℕ, true, refl, subst, ap, sym, ◌∙◌}
use Rattle.std.proofs.lemmas.Bool.{ltb-true, lt-ltb}
use Rattle.log_node.specs.declared.ids.Id.{Id}
use Rattle.log_node.specs.declared.ids.Row.{Row}
use Rattle.log_node.specs.declared.marks.Why.{Why}
use Rattle.log_node.specs.declared.marks.Why.TheVariants.{Memory, StampEnd}
use Rattle.log_node.specs.declared.marks.Mark.TheVariants as marks
use Rattle.log_node.specs.Outcomes.{is_missing}
use Rattle.skeen_core.specs.Queues.{is_decided}
use Rattle.col_core.specs.declared.Event.{Event}
use Rattle.col_core.specs.declared.Event.TheVariants as events
use Rattle.col_core.proofs.CallerLemmas.{choice, both, apart, not_true}
use Rattle.world_laws.specs.declared.steps.Step.{Step}
use Rattle.world_laws.specs.declared.steps.Step.TheVariants as steps
use Rattle.world_laws.specs.Worlds.{World, RowState, home_of, after, run_steps, is_begun, row_of, row_history, marks_of, is_member, may_mark, may_propose, may_fence, may_decide, may_settle, with_mark, after_propose, after_decide, after_settle}
use Rattle.world_laws.specs.Completing.{colours_of}
use Rattle.world_laws.proofs.CallerLemmas.{Held, is_waiting, any_mark, open_where_missing, open_is, lawful_past_in}
use Rattle.world_laws.proofs.CallerLemmas.{open_is_waiting, kept_marks, run_grows, after_held}
use Rattle.col_core.specs.Ids.{IsStepOf}
use Rattle.lawful_run.specs.Lawful.{IsHelp}
use Rattle.script_meaning.proofs.World.Rows.{node_id, IsDone, IsStill, still, row_put, propose_still, settle_still, step_still, still_begun, still_trans, done_still}

-- A row that is done lets no step change it

done_marked : (w : World) → Held w → (row : Row) (c : ℕ) → is_begun w row ≡ true → IsDone w row
    → may_mark w row c ≡ true → ⊥
done_marked w h row c b d ok =
    let p = both (is_begun w row) _ ok in
    let q = both (is_member (row_of w row).node.colours c) _ p.1 in
    d.decided (kept_marks w h row b d.decided ∙ open_where_missing (marks_of (row_of w row))
    (any_mark is_missing (row_of w row).marks (colours_of w row) c q.0 q.1))

fence_marks : (w : World) (row : Row) (c : ℕ) (why : Why) → may_fence w row c why ≡ true → may_mark w row c ≡ true
fence_marks w row c Memory ok = ok
fence_marks w row c StampEnd ok = (both (may_mark w row c) _ ok).0

done_decided : (w : World) (row : Row) → IsDone w row → may_decide w row ≡ true → ⊥
done_decided w row d ok =
    let p = both (is_begun w row) _ ok in
    d.decided (open_is (row_of w row).last (not_true (is_decided (row_of w row).last) (both _ _ p.1).0))

done_settled : (w : World) → Held w → (row : Row) (c : ℕ) → IsDone w row → may_settle w row c ≡ true → ⊥
done_settled w h row c d ok =
    let p = both (is_decided (row_of w row).last) _ (both (is_begun w row) _ ok).1 in
    let s = open_is_waiting (row_history w row c) (node_id w row) (lawful_past_in w h (home_of w row.client) c) p.1 in
    apart _ (ap is_waiting s.1) (d.waits (home_of w row.client) c)

pub done_stays : (w : World) → Held w → (s : Step) (row : Row) → is_begun w row ≡ true → IsDone w row
    → IsStill w (after w s) row
done_stays w h (steps.Begin client colours text) row b d =
    step_still w h (steps.Begin client colours text) row b (λ t. t)
done_stays w h (steps.Propose by other c) row b d =
    choice (λ (x : World). IsStill w x row) (may_propose w other c) (after_propose w by other c) w
    (λ ok. propose_still w h by other c row b (λ e. done_marked w h row c b d
    (subst (λ (x : Row). may_mark w x c ≡ true) (sym e) (both (may_mark w other c) _ ok).0)) ok) (λ _. still w row)
done_stays w h (steps.Fence other c why) row b d =
    choice (λ (x : World). IsStill w x row) (may_fence w other c why) (with_mark w other c (marks.Fenced why)) w
    (λ ok. record {
      same = row_put w other _ row (λ e. done_marked w h row c b d
          (subst (λ (x : Row). may_mark w x c ≡ true) (sym e) (fence_marks w other c why ok)));
      status = λ r k. refl;
    }) (λ _. still w row)
done_stays w h (steps.Decide other) row b d =
    choice (λ (x : World). IsStill w x row) (may_decide w other) (after_decide w other) w
    (λ ok. record {
      same = row_put w other _ row (λ e. done_decided w row d
          (subst (λ (x : Row). may_decide w x ≡ true) (sym e) ok));
      status = λ r k. refl;
    }) (λ _. still w row)
done_stays w h (steps.Settle by other c) row b d =
    choice (λ (x : World). IsStill w x row) (may_settle w other c) (after_settle w by other c) w
    (λ ok. settle_still w h by other c row b (λ e. done_settled w h row c d
    (subst (λ (x : Row). may_settle w x c ≡ true) (sym e) ok)) ok) (λ _. still w row)
done_stays w h (steps.Single client c text) row b d =
    step_still w h (steps.Single client c text) row b (λ t. t)
done_stays w h (steps.Raise by region c to) row b d =
    step_still w h (steps.Raise by region c to) row b (λ t. t)
done_stays w h (steps.Give by origin region c from) row b d =
    step_still w h (steps.Give by origin region c from) row b (λ t. t)
done_stays w h (steps.Carry by origin region c start count) row b d =
    step_still w h (steps.Carry by origin region c start count) row b (λ t. t)
done_stays w h (steps.Trim by region c counts) row b d =
    step_still w h (steps.Trim by region c counts) row b (λ t. t)
done_stays w h (steps.Play client c) row b d = step_still w h (steps.Play client c) row b (λ t. t)
done_stays w h (steps.Seen client to) row b d = step_still w h (steps.Seen client to) row b (λ t. t)

run_stays : (w : World) → Held w → (list : List Step) (row : Row) → is_begun w row ≡ true → IsDone w row
    → IsStill w (run_steps w list) row
run_stays w h [] row b d = still w row
run_stays w h (s ∷ list) row b d =
    let one = done_stays w h s row b d in
    still_trans w (after w s) (run_steps (after w s) list) row one
    (run_stays (after w s) (after_held w h s) list row (still_begun w s row b) (done_still w (after w s) row one d))

-- The rows of events

-- the event is a step of an append that is complete
pub record OfDone (w : World) (ev : Event) : Type 0 where
  pub row : Row
  pub begun : is_begun w row ≡ true
  pub of : IsStepOf (node_id w row) ev
  pub done : IsDone w row

pub of_done_still : (w w' : World) (ev : Event) (i : OfDone w ev) → is_begun w' i.row ≡ true → IsStill w w' i.row
    → OfDone w' ev
of_done_still w w' ev i begun s = record {
  row = i.row;
  begun = begun;
  of = subst (λ (x : RowState). IsStepOf x.node.id ev) (sym s.same) i.of;
  done = done_still w w' i.row s i.done;
}

pub of_done_stays : (w w' : World) → Held w → (list : List Step) → run_steps w list ≡ w' → (ev : Event) → OfDone w ev
    → OfDone w' ev
of_done_stays w w' h list run ev i =
    subst (λ (x : World). OfDone x ev) run (of_done_still w (run_steps w list) ev i
    (lt-ltb _ _ ((run_grows w list).used i.row.client i.row.number (ltb-true _ _ i.begun)))
    (run_stays w h list i.row i.begun i.done))

-- a step is of one id
pub step_of_one : (a b : Id) (ev : Event) → IsStepOf a ev → IsStepOf b ev → a ≡ b
step_of_one a b (events.Single other floor wants) s t = absurd s
step_of_one a b (events.Propose other floor wants) s t = sym s ∙ t
step_of_one a b (events.Settle other outcome) s t = sym s ∙ t
step_of_one a b (events.Raise to) s t = absurd s
step_of_one a b (events.Give region from) s t = absurd s
step_of_one a b (events.Carry region start heads) s t = absurd s
step_of_one a b (events.Trim counts) s t = absurd s

-- a step of an id of one's own is no help
pub own_no_help : (by : ℕ) (id : Id) (ev : Event) → id.client ≡ by → IsStepOf id ev → IsHelp by ev → ⊥
own_no_help by id (events.Single other floor wants) e s h = s
own_no_help by id (events.Propose other floor wants) e s h = h (ap (λ (i : Id). i.client) s ∙ e)
own_no_help by id (events.Settle other outcome) e s h = h (ap (λ (i : Id). i.client) s ∙ e)
own_no_help by id (events.Raise to) e s h = s
own_no_help by id (events.Give region from) e s h = s
own_no_help by id (events.Carry region start heads) e s h = s
own_no_help by id (events.Trim counts) e s h = s
