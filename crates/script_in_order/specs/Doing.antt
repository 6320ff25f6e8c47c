-- What a command does to a world, and what it is answered.
use Rattle.std.specs.Prelude.{◌≡◌, ℕ, ◌<◌, true, List, length, Option, Some, None}
use Rattle.std.specs.List.{All}
use Rattle.log_node.specs.Seen.{PlacedNode}
use Rattle.log_node.specs.declared.node.Shape.{Shape}
use Rattle.world_laws.specs.Worlds.{World}
use Rattle.script_text.specs.declared.script.Command.{Command}
use Rattle.script_text.specs.declared.commands.What.{What}
use Rattle.script_text.specs.declared.script.Object.{Object}
use Rattle.script_text.specs.declared.uses.ReadUse.TheVariants.{Takes, UsesUp}
use Rattle.script_text.specs.declared.uses.Use.{Use}
use Rattle.script_text.specs.declared.uses.Use.TheVariants.{OfObject}
use Rattle.script_text.specs.Commands.{use_of}
use Rattle.script_text.specs.Fitting.{IsWithin, IsKindWithin, UsesObject}
use Rattle.report_text.specs.declared.report.Answer.{Answer}
use Rattle.script_meaning.specs.States.{State, Grants, answered}
use Rattle.script_meaning.specs.Meaning.{done_one, done}

-- the world with what is told so far, which is the replies, and what of reads is kept
abbrev pub with_replies : World → State → State
with_replies w told = record told { world = w }

-- By this meaning the command, which is granted memory before it did anything, leads from one world to the other, with this
-- answer and these nodes.
pub record DoneBy (meaning : Grants → State → State) (command : Command) (old new : World) (answer : Answer)
    (nodes : List PlacedNode) : Type 0 where
  pub grants : Grants
  pub begun : grants.start ≡ true
  pub is : (told : State)
      → meaning grants (with_replies old told) ≡ answered (with_replies old told) command new answer nodes

-- it does so as a command, over these objects
abbrev pub Does : List Object → Command → World → World → Answer → List PlacedNode → Type 0
Does objects command old new answer nodes =
    DoneBy (λ grants state. done objects grants state command) command old new answer nodes

-- it does so as a command that no home refuses
abbrev pub DoesAtHome : List Object → Command → World → World → Answer → List PlacedNode → Type 0
DoesAtHome objects command old new answer nodes =
    DoneBy (λ grants state. done_one objects grants state command command.what) command old new answer nodes

-- the object of a use that lets the last read of it go
abbrev pub transacts : Use → Option ℕ
transacts (OfObject object Takes) = Some object
transacts (OfObject object UsesUp) = Some object
transacts _ = None

-- the object that a read or a commit is of
abbrev pub transaction_of : What → Option ℕ
transaction_of what = transacts (use_of what)

-- the command's client is one of the world's, and it names colours and regions of the world, and objects of these
pub record IsFit (w : World) (objects : List Object) (client : ℕ) (what : What) : Type 0 where
  pub caller : client < length w.shape.homes
  pub within : IsWithin w.shape.regions w.shape.colours what
  pub kinds : All (λ (o : Object). IsKindWithin w.shape.regions w.shape.colours o.kind) objects
  pub uses : UsesObject objects what

-- the objects' homes and colours are some that there are
abbrev pub AreKindsWithin : Shape → List Object → Type 0
AreKindsWithin shape objects = All (λ (o : Object). IsKindWithin shape.regions shape.colours o.kind) objects
