-- The steps that complete a begun append, and what they come to.
use Rattle.std.specs.Prelude.{◌≡◌, IsTrue, true, false, Bool, ℕ, ◌+◌, ◌*◌, ◌≤◌, List, [], ◌∷◌, ◌++◌, map, length}
use Rattle.std.specs.Prelude.{if◌then◌else◌}
use Rattle.std.specs.List.{Contains}
use Rattle.log_node.specs.declared.ids.Row.{Row}
use Rattle.log_node.specs.Sets.{members}
use Rattle.log_node.specs.declared.marks.Why.TheVariants.{Memory, StampEnd}
use Rattle.log_node.specs.declared.marks.Mark.{Mark}
use Rattle.log_node.specs.declared.marks.Mark.TheVariants as marks
use Rattle.log_node.specs.declared.marks.Outcome.{Outcome}
use Rattle.log_node.specs.declared.marks.Outcome.TheVariants.{Open, Gone, Final}
use Rattle.log_node.specs.Outcomes.{is_missing}
use Rattle.world_laws.specs.declared.steps.Step.{Step}
use Rattle.world_laws.specs.declared.steps.Step.TheVariants.{Propose, Fence, Decide, Settle}
use Rattle.world_laws.specs.Worlds.{World, is_begun, row_of, row_history, is_row_at_end, after, run_steps}
use Rattle.world_laws.specs.Lines.{HasEntry, IsFinal}

-- The step that sets a colour's mark: a fence where no stamp is left, a proposal where its memory was found, and else
-- the fence for want of memory.
abbrev pub mark_step : World → ℕ → Row → (ℕ → Bool) → ℕ → Step
mark_step w by row found colour =
    if is_row_at_end w row colour then Fence row colour StampEnd
    else (if found colour then Propose by row colour else Fence row colour Memory)

-- one such step for each of these colours whose mark is missing
abbrev pub mark_steps : World → ℕ → Row → (ℕ → Bool) → List ℕ → List Step
mark_steps w by row found [] = []
mark_steps w by row found (c ∷ cs) =
    let step = mark_step w by row found c in
    if is_missing ((row_of w row).marks c) then step ∷ mark_steps (after w step) by row found cs
    else mark_steps w by row found cs

-- the colours of a row's node, the smallest first
abbrev pub colours_of : World → Row → List ℕ
colours_of w row = members (row_of w row).node.colours

-- the node is settled in each of its columns
abbrev pub settle_steps : ℕ → Row → List ℕ → List Step
settle_steps by row colours = map (λ colour. Settle by row colour) colours

-- the missing marks are set, the row is decided, and its node is settled in each of its columns
abbrev pub complete_steps : World → ℕ → Row → (ℕ → Bool) → List Step
complete_steps w by row found =
    mark_steps w by row found (colours_of w row) ++ Decide row ∷ settle_steps by row (colours_of w row)

-- The append is complete: it is decided, and its node is final under that number in all its columns, or has an
-- entry in none.
abbrev pub StandsAsDecided : World → Row → Outcome → Type 0
StandsAsDecided w row Open = ⊥
StandsAsDecided w row (Gone why) =
    (region colour : ℕ) → HasEntry (w.histories region colour) (row_of w row).node.id → ⊥
StandsAsDecided w row (Final f) =
    (colour : ℕ) → Contains (colours_of w row) colour → IsFinal (row_history w row colour) (row_of w row).node.id f

-- The colour, which has this mark, does not hinder the append: the mark is a number, or it is missing, memory is found
-- and a stamp is left.
abbrev pub IsFree : World → Row → (ℕ → Bool) → ℕ → Mark → Type 0
IsFree w row found colour marks.None = (found colour ≡ true) × (is_row_at_end w row colour ≡ false)
IsFree w row found colour (marks.Number stamp) = Unit {0}
IsFree w row found colour (marks.Fenced why) = ⊥

-- the steps complete the append of so many colours
pub record Completes (w : World) (row : Row) (found : ℕ → Bool) (steps : List Step) : Type 0 where
  pub few : length steps ≤ 2 * length (colours_of w row) + 1
  pub same : (row_of (run_steps w steps) row).node ≡ (row_of w row).node
  pub stands : StandsAsDecided (run_steps w steps) row (row_of (run_steps w steps) row).last
  -- where each colour is free, the node is final
  pub final : ((colour : ℕ) → Contains (colours_of w row) colour
      → IsFree w row found colour ((row_of w row).marks colour))
      → (f : ℕ) × ((row_of (run_steps w steps) row).last ≡ Final f)

-- Any begun append can be completed by anybody, in at most one step to mark each colour, one to decide and one to
-- settle each colour, whether memory is found or not.
abbrev pub CanComplete : World → Type 0
CanComplete w = (by : ℕ) (row : Row) (found : ℕ → Bool) → IsTrue (is_begun w row)
    → Completes w row found (complete_steps w by row found)
