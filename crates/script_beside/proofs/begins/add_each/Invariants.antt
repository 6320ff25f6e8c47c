use Rattle.std.proofs.Common.{◌≡◌, ◌+◌, ◌<◌, ◌≤◌, ℕ, List, length}
use Rattle.std.specs.Prelude.{slice_index}
use Rattle.script_beside.proofs.begins.add_each.Given as goal

-- the first so many counts are added to
pub record AddsFirst (first : ℕ) (more before after : List ℕ) : Type 0 where
  pub many : length after ≡ length before
  pub each : (n : ℕ) → n < first → slice_index after n ≡ slice_index before n + slice_index more n
  pub others : (n : ℕ) → first ≤ n → slice_index after n ≡ slice_index before n

abbrev pub invariant-loop-number : goal.invariant-loop-number
invariant-loop-number l = AddsFirst l.number l.more l.initial.counts.items l.counts.items
