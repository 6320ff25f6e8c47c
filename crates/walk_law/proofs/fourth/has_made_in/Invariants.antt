use Rattle.std.proofs.Common.{◌≡◌, ◌<◌, ℕ}
use Rattle.col_core.specs.Log.{places_of}
use Rattle.walk_law.specs.Keepings.{made_at}
use Rattle.walk_law.specs.Walking.{journal_walked}
use Rattle.walk_law.proofs.fourth.has_made_in.Given as goal

-- in the columns so far
abbrev pub invariant-loop-colour : goal.invariant-loop-colour
invariant-loop-colour l = (colour : ℕ) → colour < l.colour
    → places_of l.client (journal_walked l.subject l.region colour) ≡ made_at l.keeping l.region colour
