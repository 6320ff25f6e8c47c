-- What is looked up of a report where what a client keeps goes on behind a step.
use Rattle.std.specs.Prelude.{◌≡◌, Bool, true, false, ℕ, ◌<◌, ◌≤◌, List, [], Some, slice_get, map}
use Rattle.log_node.specs.declared.ids.Counts.{Counts}
use Rattle.log_node.specs.declared.ids.Key.{Key}
use Rattle.log_node.specs.declared.node.Head.{Head}
use Rattle.log_node.specs.Outcomes.{greatest}
use Rattle.col_core.specs.Cuts.{chain}
use Rattle.col_core.specs.Keeping.{Kept}
use Rattle.col_core.specs.Log.{first}
use Rattle.col_core.specs.PlayOrder.{nodes_between}
use Rattle.script_text.specs.declared.commands.What.{What}
use Rattle.report_text.specs.declared.report.Answer.{Answer}
use Rattle.report_text.specs.declared.report.ReplyLine.{ReplyLine}
use Rattle.lawful_run.specs.Callers.{caller_of}
use Rattle.run_rules.specs.Told.{Untold}
use Rattle.run_rules.specs.Telling.{replies_to, step_places, untold_told}
use Rattle.walk_law.specs.Keepings.{Counted, IsCell, IsCounted}
use Rattle.walk_law.specs.Walking.{Walked, journal_walked, log_walked, places_printed}

-- the column is one of the shape; or it is none, and has no events
abbrev pub HasColumn : Walked → ℕ → ℕ → Bool → Type 0
HasColumn walked region colour true =
    (region < walked.script.shape.regions) × (colour < walked.script.shape.colours) × IsCell region colour
HasColumn walked region colour false = journal_walked walked region colour ≡ []

-- the places, in a column of a client's region, of its own steps of the id of this count that no reply to it prints
abbrev pub steps_untold : Walked → ℕ → ℕ → ℕ → List ℕ
steps_untold walked client count colour =
    let own = (caller_of walked.script client).own in
    step_places client (record { client = client; count = count }) (places_printed walked client own colour)
    (journal_walked walked own colour)

-- these are left out of the reply to the command that uses the id
abbrev pub LeavesOutSteps : Walked → ℕ → ℕ → Untold → Type 0
LeavesOutSteps walked client count untold = (colour : ℕ) → untold.places colour ≡ steps_untold walked client count colour

-- stamps do not fall from key to key
abbrev pub StampsRise : List Key → Type 0
StampsRise keys = (i j : ℕ) (k l : Key) → i < j → slice_get keys i ≡ Some k → slice_get keys j ≡ Some l → k.stamp ≤ l.stamp

-- the greatest stamp of the nodes of a region's chain that a sync of a colour played, in the column of region own after so
-- many events
abbrev pub greatest_of : Walked → ℕ → ℕ → ℕ → Counts → Counts → ℕ → ℕ
greatest_of walked own colour events from to region =
    greatest (map (λ (h : Head). h.key.stamp)
    (nodes_between (chain own (first (log_walked walked) own colour events)) from to region))

-- The client's command in this place is answered so. What it keeps then is counted, and of what the reply leaves out this is
-- what the report tells.
pub record IsAnswered (walked : Walked) (client place : ℕ) (what : What) (answer : Answer) (kept : Kept) (untold : Untold)
    (counted : Counted) : Type 0 where
  pub reply : (r : ReplyLine) × (slice_get (replies_to walked.report client) place ≡ Some r) × (r.answer ≡ answer)
  pub told : untold ≡ untold_told (log_walked walked) (caller_of walked.script client) (places_printed walked client) kept
      what answer
  pub counts : IsCounted (replies_to walked.report client) kept counted
