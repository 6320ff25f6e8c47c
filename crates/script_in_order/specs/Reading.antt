-- What a command reads after an append of its own.
use Rattle.std.specs.Prelude.{◌≡◌, ℕ, Bool, []}
use Rattle.world_laws.specs.Worlds.{World}
use Rattle.script_text.specs.declared.script.Command.{Command}
use Rattle.report_text.specs.declared.report.Answer.{Answer}
use Rattle.report_text.specs.declared.report.PointPiece.{PointPiece}
use Rattle.script_meaning.specs.States.{State, Grants, answered}
use Rattle.script_meaning.specs.Dequeues.{dequeued_at}

-- A dequeue whose node stands under the stamp at the point leads from one world to the other, with this answer, where
-- memory for its fold is granted or not.
pub record ReadsOwn (client stamp : ℕ) (point : PointPiece) (old new : World) (answer : Answer) : Type 0 where
  pub fold : Bool
  pub is : (grants : Grants) → grants.fold ≡ fold → (state : State) (command : Command) → command.client ≡ client
      → dequeued_at grants state command old stamp point ≡ answered state command new answer []
