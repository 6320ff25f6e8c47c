-- A begun append is completed: its marks, its decision and its settlings, one after another.
use Rattle.std.proofs.Common.{◌≡◌, ◌≢◌, ℕ, suc, ◌+◌, ◌≤◌, Bool, true, List, [], ◌∷◌, length, take, ap, sym}
use Rattle.std.proofs.Common.{subst, ◌∙◌, arith}
use Rattle.std.specs.Prelude.{◌*◌}
use Rattle.log_node.specs.declared.ids.Row.{Row}
use Rattle.log_node.specs.declared.node.Node.{Node}
use Rattle.log_node.specs.declared.limits.TheConstants.{MAX_COLOURS}
use Rattle.log_node.specs.Sets.{members}
use Rattle.log_node.proofs.CallerLemmas.{members_few}
use Rattle.log_node.specs.declared.marks.Outcome.{Outcome}
use Rattle.log_node.specs.declared.marks.Outcome.TheVariants.{Open, Gone, Final}
use Rattle.col_core.proofs.CallerLemmas.{choice}
use Rattle.world_laws.specs.declared.steps.Step.{Step}
use Rattle.world_laws.specs.declared.steps.Step.TheVariants.{Decide}
use Rattle.world_laws.specs.Worlds.{World, row_of, is_begun, after, reply, run_steps}
use Rattle.world_laws.specs.Completing.{mark_steps, settle_steps, complete_steps, colours_of}
use Rattle.world_laws.specs.Laws.{CanComplete, Completes, StandsAsDecided}
use Rattle.world_code.specs.declared.completing.Taken.{Taken}
use Rattle.world_code.specs.Completed.{is_done, steps_done, AreTaken, IsPartCompleted, IsCompleted}
use Rattle.world_code.proofs.AllowedSteps.{taken_join, take-all}
use Rattle.world_code.proofs.AllMarks.{Stays, run_stays, taken_stays}

-- the parts of a completing, taken one after another
module _ (w w1 w2 w3 : World) (by : ℕ) (row : Row) (limit : ℕ) (b : is_begun w row ≡ true) (t t2 t3 : Taken)
    (marks : (found : ℕ → Bool) × AreTaken w (mark_steps w by row found (colours_of w row)) limit w1 t)
    (decides : AreTaken w1 (Decide row ∷ []) t.left w2 t2) where
  pub marked_begun : is_begun w1 row ≡ true
  marked_begun = (taken_stays w w1 row _ limit t b marks.1).begun

  decided_stays : Stays w1 w2 row
  decided_stays = taken_stays w1 w2 row _ t.left t2 marked_begun decides

  pub decided_begun : is_begun w2 row ≡ true
  decided_begun = decided_stays.begun

  same_node : (row_of w2 row).node ≡ (row_of w row).node
  same_node = decided_stays.node ∙ (taken_stays w w1 row _ limit t b marks.1).node

  pub part_completed : AreTaken w2 (settle_steps by row (colours_of w2 row)) t2.left w3 t3 → (n : ℕ)
      → n ≡ t.done + t2.done + t3.done → IsPartCompleted w by row limit w3 n
  part_completed settles n e =
      let s = subst (λ (x : Node). AreTaken w2 (settle_steps by row (members x.colours)) t2.left w3 t3) same_node
      settles in
      let rest = taken_join w1 w2 w3 (Decide row ∷ []) (settle_steps by row (colours_of w row)) t.left t2 t3 decides
      s in
      let all = taken_join w w1 w3 (mark_steps w by row marks.0 (colours_of w row))
      (Decide row ∷ settle_steps by row (colours_of w row)) limit t
      (record { done = t2.done + t3.done; left = t3.left })
      marks.1 rest in
      record {
        found = marks.0;
        world = all.world;
        steps = (e ∙ (let x : t.done + t2.done + t3.done ≡ t.done + (t2.done + t3.done) = omega arith in x)) ∙ all.done;
      }

decided_not_open : (w : World) (row : Row) (o : Outcome) → StandsAsDecided w row o → o ≢ Open
decided_not_open w row Open s e = s
decided_not_open w row (Gone why) s e = let x : ⊥ = cc in x
decided_not_open w row (Final f) s e = let x : ⊥ = cc in x

done_few : (w : World) (steps : List Step) → steps_done w steps ≤ length steps
done_few w [] = omega arith
done_few w (s ∷ steps) =
    let r = done_few (after w s) steps in
    choice (λ (n : ℕ). n + steps_done (after w s) steps ≤ suc (length steps)) (is_done (reply w s)) 1 0
    (λ _. omega (arith, r)) (λ _. omega (arith, r))

pub part_begun : (w w' : World) (by : ℕ) (row : Row) (limit n : ℕ) → is_begun w row ≡ true
    → IsPartCompleted w by row limit w' n → is_begun w' row ≡ true
part_begun w w' by row limit n b p =
    subst (λ (v : World). is_begun v row ≡ true) (sym p.world)
    (run_stays w row (take limit (complete_steps w by row p.found)) b).begun

-- with room for all steps
pub all_completed : (w w' : World) (by : ℕ) (row : Row) (n : ℕ) (outcome : Outcome) → is_begun w row ≡ true
    → CanComplete w → IsPartCompleted w by row (2 * MAX_COLOURS + 1) w' n
    → outcome ≡ (row_of w' row).last → IsCompleted w by row w' (record { outcome = outcome; steps = n })
all_completed w w' by row n outcome b can p is = record {
  found = p.found;
  world = same;
  outcome = is;
  steps = done;
  decided = λ e. decided_not_open w' row (row_of w' row).last
      (subst (λ (v : World). StandsAsDecided v row (row_of v row).last) (sym same) c.stands) (sym is ∙ e);
  few = (let d = done in let f = done_few w steps in let l = c.few in omega (arith, d, f, l));
} where
  steps : List Step
  steps = complete_steps w by row p.found

  c : Completes w row p.found steps
  c = can by row p.found b

  all : take (2 * MAX_COLOURS + 1) steps ≡ steps
  all = take-all (2 * MAX_COLOURS + 1) steps
      (let l = c.few in let s = members_few (row_of w row).node.colours in omega (arith, l, s))

  same : w' ≡ run_steps w steps
  same = p.world ∙ ap (run_steps w) all

  done : n ≡ steps_done w steps
  done = p.steps ∙ ap (steps_done w) all
