-- What a decide does behind its sync: the stamped read, and the append of the decision.
use Rattle.std.specs.Prelude.{◌≡◌, Bool, true, ℕ, List, [], Some}
use Rattle.log_node.specs.declared.ids.Key.{Key}
use Rattle.world_laws.specs.Worlds.{World}
use Rattle.script_text.specs.declared.script.Command.{Command}
use Rattle.report_text.specs.declared.report.Answer.{Answer}
use Rattle.report_text.specs.declared.report.Ended.{Ended}
use Rattle.report_text.specs.declared.report.SyncPiece.{SyncPiece}
use Rattle.script_meaning.specs.States.{State, Grants, answered}
use Rattle.script_meaning.specs.Parts.{decision_ended, decided_by}

-- The append of a decision with this text to a colour leads from one world to the other, and ends so, with some memory for it,
-- whatever is granted besides.
pub record EndsDecision (command : Command) (colour : ℕ) (text : List ℕ) (old new : World) (ended : Ended) : Type 0 where
  pub helps : ℕ → ℕ → Bool
  pub own : Bool
  pub is : (grants : Grants) → grants.helps ≡ helps → grants.own ≡ own → (state : State) (told : Ended → Answer)
      → decision_ended grants state command old colour text told ≡ answered state command new (told ended) []

-- Behind its sync a decide on the transaction with this key, of a map with these colours, leads from one world to the other, with
-- this answer.
pub record DecidesBehind (command : Command) (colours : List ℕ) (sync : SyncPiece) (waits : Key) (old new : World)
    (answer : Answer) : Type 0 where
  pub grants : Grants
  pub begun : grants.start ≡ true
  pub is : (state : State)
      → decided_by grants state command colours sync old (Some waits) ≡ answered state command new answer []
