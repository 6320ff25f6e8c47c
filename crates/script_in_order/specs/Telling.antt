-- What a command whose node stands is told of it, by the fold of its object.
use Rattle.std.specs.Prelude.{◌≡◌, ℕ, Bool, List, [], Option, map, unwrap_or}
use Rattle.log_node.specs.declared.ids.Colours.{Colours}
use Rattle.log_node.specs.declared.ids.Key.{Key}
use Rattle.object_fold.specs.Nodes.{ObjectNode}
use Rattle.object_fold.specs.Folds.{told_of}
use Rattle.world_laws.specs.Worlds.{World}
use Rattle.script_text.specs.declared.script.Object.{Object}
use Rattle.script_text.specs.declared.script.Command.{Command}
use Rattle.report_text.specs.declared.report.Answer.{Answer}
use Rattle.report_text.specs.declared.report.PointPiece.{PointPiece}
use Rattle.report_text.specs.declared.report.RaisePiece.{RaisePiece}
use Rattle.report_text.specs.declared.report.SyncPiece.{SyncPiece}
use Rattle.lawful_run.specs.Asks.{object_colours, rising}
use Rattle.script_meaning.specs.States.{State, Grants, answered, kind_in}
use Rattle.script_meaning.specs.Dequeues.{object_node_at}
use Rattle.script_meaning.specs.Stamped.{stamped_read}
use Rattle.script_meaning.specs.Telling.{ReadAnswer, answered_by_read, appended_and_told}
use Rattle.script_in_order.specs.Doing.{DoneBy}

-- all colours of an object, the least first
abbrev pub rising_colours : List Object → ℕ → List ℕ
rising_colours objects object = rising (object_colours (kind_in objects object))

-- what the node with a key is told among the nodes with these keys of a world; as `untold` says where it is told nothing
abbrev pub told_in : {T : Type 0} → (List ObjectNode → ObjectNode → Option T) → (Key → T)
    → World → List Key → Key → T
told_in told untold w keys own = unwrap_or (told_of told (map (object_node_at w) keys) own) (untold own)

-- how a command is answered whose own node is told something by its object: the answer shows that
abbrev pub tells_by : {T : Type 0} → (List ObjectNode → ObjectNode → Option T)
    → (T → Option ℕ → List PointPiece → ℕ → List RaisePiece → List SyncPiece → Answer)
    → (Key → T) → ReadAnswer
tells_by told shown untold w keys own row points at raises syncs =
    shown (told_in told untold w keys own) row points at raises syncs

-- The stamped read behind a command's node, which stands under this key, in the row and at the points, leads from one world
-- to the other, and what the command is told is answered so, with some memory for the read, whatever is granted besides.
pub record TellsAt (tells : ReadAnswer) (client : ℕ) (colours : List ℕ) (own : Key) (row : Option ℕ)
    (points : List PointPiece) (old new : World) (answer : Answer) : Type 0 where
  pub raises : ℕ → Bool
  pub helps : ℕ → ℕ → Bool
  pub items : Bool
  pub is : (grants : Grants) (state : State) (command : Command)
      → (let all : Grants = record grants { raises = raises; read_helps = helps; items = items } in
      let read = stamped_read (record all { helps = helps }) old client colours in
      answered_by_read tells all state command own row points read.world read.ends)
      ≡ answered state command new answer []

-- The command, a node with this text to the set and what it is told of it by whichever object has these colours, leads from
-- one world to the other, with this answer.
abbrev pub AppendsAndTells : ReadAnswer → List ℕ → Command → Colours → List ℕ → World → World → Answer → Type 0
AppendsAndTells tells colours command set text old new answer =
    (objects : List Object) (object : ℕ) → colours ≡ rising_colours objects object
    → DoneBy (λ grants state. appended_and_told tells objects grants state command object set text)
    command old new answer []
