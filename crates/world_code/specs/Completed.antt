-- What completing a begun append comes to.
use Rattle.std.specs.Prelude.{◌≡◌, ◌≢◌, ◌≤◌, ◌-◌, ◌+◌, ◌*◌, ℕ, Bool, true, false, List, [], ◌∷◌, take, length}
use Rattle.std.specs.Prelude.{if◌then◌else◌}
use Rattle.log_node.specs.declared.ids.Row.{Row}
use Rattle.log_node.specs.declared.marks.Outcome.TheVariants.{Open}
use Rattle.world_laws.specs.declared.steps.Step.{Step}
use Rattle.world_laws.specs.declared.steps.Reply.{Reply}
use Rattle.world_laws.specs.declared.steps.Reply.TheVariants as replies
use Rattle.world_laws.specs.Worlds.{World, row_of, after, reply, run_steps}
use Rattle.world_laws.specs.Completing.{mark_step, colours_of, complete_steps}
use Rattle.world_code.specs.declared.completing.Completed.{Completed}
use Rattle.world_code.specs.declared.completing.Taken.{Taken}

-- the reply tells that the step was done
abbrev pub is_done : Reply → Bool
is_done replies.Nothing = false
is_done (replies.Begun row id) = true
is_done (replies.Event place stamp) = true
is_done (replies.Marked mark) = true
is_done (replies.Decided outcome) = true
is_done (replies.Played cut) = true

abbrev pub done_count : Reply → ℕ
done_count r = if is_done r then 1 else 0

-- how many of these steps, one after another, are done by their replies
abbrev pub steps_done : World → List Step → ℕ
steps_done w [] = 0
steps_done w (s ∷ steps) = done_count (reply w s) + steps_done (after w s) steps

-- one step set the mark of a colour, with this reply; it alone says whether its memory was found
pub record IsMarkStep (w : World) (by : ℕ) (row : Row) (colour : ℕ) (w' : World) (answer : Reply) : Type 0 where
  pub found : Bool
  pub world : w' ≡ after w (mark_step w by row (λ _. found) colour)
  pub reply : answer ≡ reply w (mark_step w by row (λ _. found) colour)

-- the first of these steps were taken, as many as were allowed; so many of them were done, and so many more are allowed
pub record AreTaken (w : World) (steps : List Step) (limit : ℕ) (w' : World) (taken : Taken) : Type 0 where
  pub world : w' ≡ run_steps w (take limit steps)
  pub done : taken.done ≡ steps_done w (take limit steps)
  pub left : taken.left ≡ limit - length steps

-- the first steps that complete the append were taken, as many as were allowed, and so many of them were done
pub record IsPartCompleted (w : World) (by : ℕ) (row : Row) (limit : ℕ) (w' : World) (done : ℕ) : Type 0 where
  pub found : ℕ → Bool
  pub world : w' ≡ run_steps w (take limit (complete_steps w by row found))
  pub steps : done ≡ steps_done w (take limit (complete_steps w by row found))

-- The steps that complete the append were taken, with memory found in these colours: the outcome is the one that the
-- row then keeps, and so many steps were done.
pub record IsCompleted (w : World) (by : ℕ) (row : Row) (w' : World) (completed : Completed) : Type 0 where
  pub found : ℕ → Bool
  pub world : w' ≡ run_steps w (complete_steps w by row found)
  pub outcome : completed.outcome ≡ (row_of w' row).last
  pub steps : completed.steps ≡ steps_done w (complete_steps w by row found)
  pub decided : completed.outcome ≢ Open
  pub few : completed.steps ≤ 2 * length (colours_of w row) + 1
