-- Where an append's node is final.
use Rattle.std.proofs.Common.{◌≡◌, ℕ, Bool, true, List, [], ◌∷◌, ◌++◌, refl, ap, sym, subst, ◌∙◌}
use Rattle.std.specs.List.{Contains}
use Rattle.std.specs.Prelude.{slice_index, if◌then◌else◌}
use Rattle.log_node.specs.declared.node.Shape.{Shape}
use Rattle.log_node.specs.Sets.{members}
use mathlib.Core.List.{IsPrefix}
use Rattle.log_node.specs.declared.ids.Id.{Id}
use Rattle.log_node.specs.declared.ids.Row.{Row}
use Rattle.log_node.specs.declared.node.Node.{Node}
use Rattle.log_node.specs.Standings.{Standing}
use Rattle.log_node.specs.declared.marks.Outcome.{Outcome}
use Rattle.log_node.specs.declared.marks.Outcome.TheVariants.{Open, Gone, Final}
use Rattle.col_core.specs.History.{entries}
use Rattle.col_core.proofs.CallerLemmas.{entries-append, in_with-own}
use Rattle.world_laws.specs.declared.steps.Step.{Step}
use Rattle.world_laws.specs.declared.steps.Step.TheVariants.{Single}
use Rattle.world_laws.specs.Worlds.{World, after, run_steps, home_of, home_history, row_of, may_single, single_stamp}
use Rattle.world_laws.specs.Worlds.{single_entry, next_id, after_single, begun_node, is_begun}
use Rattle.world_laws.specs.Completing.{complete_steps}
use Rattle.world_laws.specs.Laws.{IsReached, IsFinal, StandsAsDecided, LogGrows, CanComplete, RowsStay}
use Rattle.world_laws.proofs.CallerLemmas.{updated_at-here, contains_in, in_contains, run_reached, run_grows, Held}
use Rattle.world_laws.proofs.CallerLemmas.{held}
use Rattle.script_meaning.proofs.CallerLemmas.{final_stays, standing_as}
use Rattle.log_node.specs.declared.ids.Colours.{Colours}
use Rattle.world_code.specs.Completed.{IsCompleted}
use Rattle.world_code.specs.declared.completing.Completed.{Completed}
use Rattle.script_in_order.proofs.FirstSteps.{Begins}
use Rattle.script_in_order.specs.Points.{AreFinal}

-- a single that enters is final
pub single_final : (w w1 : World) (client colour : ℕ) (text : List ℕ) → may_single w client colour ≡ true
    → w1 ≡ after w (Single client colour text)
    → IsFinal (home_history w1 client colour) (next_id w client) (single_stamp w client colour)
single_final w w1 client colour text may is =
    let world : w1 ≡ after_single w client colour text =
    is ∙ ap (λ (b : Bool). if b then after_single w client colour text else w) may in
    let history : home_history w1 client colour ≡ home_history w client colour ++ single_entry w client colour ∷ [] =
    ap (λ (x : World). home_history x client colour) world
    ∙ updated_at-here w.histories (home_of w client) colour
    (home_history w client colour ++ single_entry w client colour ∷ []) in
    let e : Standing = standing_as (single_stamp w client colour) (next_id w client) true in
    subst (λ (es : List Standing). Contains es e)
    (sym (ap entries history ∙ entries-append (home_history w client colour) (single_entry w client colour)))
    (contains_in _ e (in_with-own e (entries (home_history w client colour))))

held_of : (w : World) → IsReached w → Held w
held_of w r = subst Held r.is (held r.shape r.steps)

-- what is final stays so
pub final_later : (w new : World) (steps : List Step) → IsReached w → LogGrows w → run_steps w steps ≡ new
    → (client colour stamp : ℕ) (id : Id) → IsFinal (home_history w client colour) id stamp
    → IsFinal (home_history new client colour) id stamp
final_later w new steps reached grows run client colour stamp id final =
    let own = home_of w client in
    let last : World = run_steps w steps in
    let more : IsPrefix (w.histories own colour) (last.histories own colour) = (grows steps).histories own colour in
    let there = final_stays (λ _. Unit {0}) w last (held_of w reached) (held_of last (run_reached w steps reached)) own
    colour
    (record { more = more.0; is = sym more.1; each = λ e i. tt }) stamp id
    (in_contains (entries (w.histories own colour)) (standing_as stamp id true) final) in
    let same : home_of last client ≡ own = ap (λ (s : Shape). slice_index s.homes client) (run_grows w steps).shape in
    subst (λ (x : World). IsFinal (home_history x client colour) id stamp) run
    (subst (λ (r : ℕ). IsFinal (last.histories r colour) id stamp) (sym same)
    (contains_in (entries (last.histories own colour)) (standing_as stamp id true) there))

-- where a row is complete, its node is final in its colours, if the outcome says so
pub complete_final : (w : World) (row : Row) (client : ℕ) (node : Node) (outcome : Outcome) → (row_of w row).node ≡ node
    → row.client ≡ client → outcome ≡ (row_of w row).last → StandsAsDecided w row (row_of w row).last
    → AreFinal w client node.id (members node.colours) outcome
complete_final w row client node outcome same mine is stands =
    turn outcome (subst (StandsAsDecided w row) (sym is) stands) where
      turn : (o : Outcome) → StandsAsDecided w row o → AreFinal w client node.id (members node.colours) o
      turn Open s = tt
      turn (Gone why) s = tt
      turn (Final stamp) s = λ colour i.
          subst (λ (n : ℕ). IsFinal (home_history w n colour) node.id stamp) mine
          (subst (λ (x : Node). IsFinal (home_history w row.client colour) x.id stamp) same
          (s colour (subst (λ (x : Node). Contains (members x.colours) colour) (sym same) i)))

-- the same where an append to several colours was completed
pub several_final : (w w1 w2 : World) (client : ℕ) (colours : Colours) (text : List ℕ) (row : Row) (id : Id)
    (completed : Completed) → CanComplete w1 → Begins w client colours text row id w1
    → IsCompleted w1 client row w2 completed → AreFinal w2 row.client id (members colours) completed.outcome
several_final w w1 w2 client colours text row id completed law b done =
    let can = law client row done.found b.begun in
    let stands = subst (λ (x : World). StandsAsDecided x row (row_of x row).last) (sym done.world) can.stands in
    let same = ap (λ (x : World). (row_of x row).node) done.world ∙ (can.same ∙ b.node) in
    subst (λ (i : Id). AreFinal w2 row.client i (members colours) completed.outcome) (sym b.id_is)
    (complete_final w2 row row.client (begun_node w client colours text) completed.outcome same refl done.outcome
    stands)

pub several_begun : (w1 w2 : World) (client : ℕ) (row : Row) (completed : Completed) → RowsStay w1
    → is_begun w1 row ≡ true → IsCompleted w1 client row w2 completed → is_begun w2 row ≡ true
several_begun w1 w2 client row completed law b done =
    subst (λ (x : World). is_begun x row ≡ true) (sym done.world) (law (complete_steps w1 client row done.found) row
    b).0

pub run_shape : (w new : World) (steps : List Step) → run_steps w steps ≡ new → new.shape ≡ w.shape
run_shape w new steps run = ap (λ (x : World). x.shape) (sym run) ∙ (run_grows w steps).shape
