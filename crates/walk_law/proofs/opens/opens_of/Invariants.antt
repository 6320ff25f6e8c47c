use Rattle.std.proofs.Common.{◌≡◌, ◌+◌, ◌≤◌}
use Rattle.walk_law.specs.Twelfth.{opens_to}
use Rattle.walk_law.proofs.OpenLemmas.{open_after}
use Rattle.walk_law.proofs.opens.opens_of.Given as goal

-- those up to the events so far, and how many are open then
pub record invariant-loop-entry (l : goal.Live-loop-entry) : Type 0 where
  pub listed : l.opens ≡ opens_to l.journal (l.entry-index + 1)
  pub counted : l.count ≡ open_after l.journal l.entry-index
  pub few : l.count ≤ l.entry-index
