-- What it is to serve a client its commands, one after another.
use Rattle.std.specs.Prelude.{◌≡◌, ◌⊎◌, IsTrue, ℕ, List, [], ◌∷◌, ◌++◌, length, Option, Some, slice_get, slice_index_or}
use Rattle.std.specs.List.{Contains}
use Rattle.log_node.specs.Seen.{PlacedNode}
use Rattle.col_core.specs.Keeping.{Kept}
use Rattle.chain_store.specs.Opening.{size_of}
use Rattle.script_text.specs.Items.{is_stop}
use Rattle.script_text.specs.Commands.{word_of}
use Rattle.script_text.specs.declared.script.Object.{Object}
use Rattle.script_text.specs.declared.commands.What.{What}
use Rattle.script_text.specs.declared.script.Command.{Command}
use Rattle.script_text.specs.declared.script.Script.{Script}
use Rattle.report_text.specs.declared.report.Answer.{Answer}
use Rattle.report_text.specs.declared.report.Answer.TheVariants as answers
use Rattle.report_text.specs.declared.report.ReplyLine.{ReplyLine}
use Rattle.lawful_run.specs.Asks.{home_asked, may_help}
use Rattle.lawful_run.specs.Deeds.{manner_of}
use Rattle.lawful_run.specs.Callers.{commands_of}
use Rattle.lawful_run.specs.Explains.{Explains}
use Rattle.lawful_run.specs.Refusals.{IsAway, IsHomeRefusal, kept_before, kept_behind}
use Rattle.client_law.specs.Kept.{IsKeptBy}
use Rattle.client_law.specs.Knowing.{Rest, log_seen, IsExplainedBy}
use Rattle.script_meaning.specs.States.{kind_in}
use Rattle.log_client.specs.declared.store.Store.{Store}
use Rattle.log_client.specs.declared.client.Client.{Client}
use Rattle.log_client.specs.Fits.{FitsHolds, HaveGoneOn}
use Rattle.log_client.specs.Growing.{HasGrown}
use Rattle.log_client.specs.Clients.{IsClient, Keeps, Finished, Helps, caller_of, holds_of, nodes_of_rows, seen_of}
use Rattle.log_client.specs.Calls.{IsSame}
use Rattle.run_script.specs.declared.serving.opened.Opened.{Opened}
use Rattle.run_script.specs.Opened.{HaveReads, KeepsReadsBut, found_in, kind_opened, versions_in}

-- the answer is that an append stopped
abbrev pub IsStopped : Answer → Type 0
IsStopped answer = (steps : ℕ) × (answer ≡ answers.Stopped steps)

-- The last command was to stop within its append, and so it was answered.
pub record HasStopped (commands : List Command) (replies : List ReplyLine) : Type 0 where
  pub before : List Command
  pub command : Command
  pub asked : commands ≡ before ++ command ∷ []
  pub stops : IsTrue (is_stop command.what)
  pub earlier : List ReplyLine
  pub reply : ReplyLine
  pub replied : replies ≡ earlier ++ reply ∷ []
  pub stopped : IsStopped reply.answer

-- one of the commands may help the appends of others
abbrev pub MayHelp : List Command → Type 0
MayHelp commands = (command : Command) × Contains commands command × IsTrue (may_help (manner_of command.what))

-- as far as what a client knows tells, what it keeps of reads is what those of the objects in its slots found
abbrev pub KnowsReads : Client → List (Option Opened) → Kept → Type 0
KnowsReads c slots kept = (rest : Rest) → FitsHolds (holds_of c) rest → HaveReads slots kept

-- the same of one of the slots, by its number
abbrev pub KnowsSlot : Client → ℕ → Option Opened → Kept → Type 0
KnowsSlot c object slot kept = (rest : Rest) → FitsHolds (holds_of c) rest → kept.reads object ≡ found_in slot

-- the same of an object that is opened
abbrev pub KnowsRead : Client → ℕ → Opened → Kept → Type 0
KnowsRead c object x kept = (rest : Rest) → FitsHolds (holds_of c) rest → kept.reads object ≡ versions_in x

-- A client of the store rests after these commands, to which these are the replies: what it has seen explains them, and it
-- keeps what the reads of its objects found.
pub record Serves (s : Store) (objects : List Object) (c : Client) (xs : List (Option Opened)) (commands : List Command)
    (replies : List ReplyLine) : Type 0 where
  pub rests : IsClient s c
  pub kept : Kept
  pub keeps : Keeps s c objects kept
  pub explained : IsExplainedBy (seen_of c) (FitsHolds (holds_of c)) (caller_of s c objects) commands replies kept
  pub reads : KnowsReads c xs kept
  pub finished : Finished c ⊎ HasStopped commands replies
  pub helps : Helps c → MayHelp commands

-- ONE COMMAND

-- From c to d the client was asked this, of these objects or of none, and gave this answer with these nodes. Whatever it kept
-- of which this was known, it then keeps something with which the log that it has seen explains the answer, and of which this
-- is so, beside whatever fits what it knows.
pub record HasServed (s : Store) (objects : List Object) (c d : Client) (what : What) (answer : Answer)
    (nodes : List PlacedNode) (Known : Kept → Type 0) (Behind : Kept → Kept → Type 0) : Type 0 where
  pub rests : IsClient s d
  pub same : IsSame c d
  pub goes : HaveGoneOn (holds_of c) (holds_of d)
  pub grows : HasGrown c d
  pub explained : (kept : Kept) → Finished c → Keeps s c objects kept → Known kept → (answered : Kept)
      × Keeps s d objects (kept_behind what answered)
      × ((rest : Rest) → FitsHolds (holds_of d) rest
      → Explains (log_seen (seen_of d) rest) (caller_of s d objects) (kept_before what kept) what answer nodes answered
      × Behind kept (kept_behind what answered))
  pub away : IsAway (caller_of s d objects) (home_asked (caller_of s d objects) what) → IsHomeRefusal answer
  pub finished : Finished c → Finished d ⊎ (IsTrue (is_stop what) × IsStopped answer)
  pub helps : Helps d → Helps c ⊎ IsTrue (may_help (manner_of what))

-- the same, where nothing is known of what was kept
abbrev pub GivesOf : Store → List Object → Client → Client → What → Answer → List PlacedNode → Type 0
GivesOf s objects c d what answer nodes =
    HasServed s objects c d what answer nodes (λ kept. Unit {0}) (λ kept after. Unit {0})

-- to a command of no object
pub record ServesLog (s : Store) (c d : Client) (what : What) (answer : Answer) (nodes : List PlacedNode) : Type 0 where
  -- whatever the objects are
  pub of : (objects : List Object) → GivesOf s objects c d what answer nodes

-- to a command of an object, by its number among these, which was opened as x and then is y: of reads the client keeps what it
-- kept, but of this object what was found
abbrev pub ServesObject : Store → List Object → Client → Client → ℕ → Opened → Opened → What → Answer → Type 0
ServesObject s objects c d object x y what answer =
    HasServed s objects c d what answer [] (KnowsRead c object x) (KeepsReadsBut object (versions_in y))

-- the same of whatever object of its kind was asked
pub record GivesTo (s : Store) (c d : Client) (x y : Opened) (asked : ℕ → What) (answer : Answer) : Type 0 where
  pub of : (objects : List Object) (object : ℕ) → kind_in objects object ≡ Some (kind_opened x)
      → ServesObject s objects c d object x y (asked object) answer

-- to a command of an object, by its number among these, whose slot was this and then is that
abbrev pub ServesSlot : Store → List Object → Client → Client → ℕ → Option Opened → Option Opened → What → Answer → Type 0
ServesSlot s objects c d object x y what answer =
    HasServed s objects c d what answer [] (KnowsSlot c object x) (KeepsReadsBut object (found_in y))

-- to a command of a client that had these slots and then has those
abbrev pub GivesAll : Store → List Object → Client → Client → List (Option Opened) → List (Option Opened) → What → Answer
    → List PlacedNode → Type 0
GivesAll s objects c d xs ys what answer nodes =
    HasServed s objects c d what answer nodes (KnowsReads c xs) (λ kept. HaveReads ys)

-- From c to d the client, with these slots and then those, was served the command, and this is the reply.
abbrev pub IsAnswered : Store → List Object → Client → Client → List (Option Opened) → List (Option Opened) → Command → ReplyLine
    → Type 0
IsAnswered s objects c d xs ys command reply =
    (reply.line ≡ command.line) × (reply.word ≡ word_of command.what)
    × GivesAll s objects c d xs ys command.what reply.answer reply.nodes

-- ALL COMMANDS

-- no command comes after a stop
abbrev pub StopsLast : List Command → Type 0
StopsLast commands =
    (before after : List Command) (command : Command) → commands ≡ before ++ command ∷ after
    → IsTrue (is_stop command.what) → after ≡ []

-- A client of the store was served these commands, to which these are the replies: what the end of the store needs of it. It
-- may have forgotten what it played.
pub record WasServed (s : Store) (objects : List Object) (c : Client) (commands : List Command) (replies : List ReplyLine)
    : Type 0 where
  pub rests : IsClient s c
  pub kept : Kept
  pub by : IsKeptBy (seen_of c) (caller_of s c objects) kept
  pub ids : kept.ids ≡ c.count
  pub rows : kept.rows ≡ length (nodes_of_rows c)
  pub explained : IsExplainedBy (seen_of c) (FitsHolds (holds_of c)) (caller_of s c objects) commands replies kept
  pub finished : Finished c ⊎ HasStopped commands replies
  pub helps : Helps c → MayHelp commands

-- Each client of the store was served its commands of the script.
pub record AreServed (script : Script) (s : Store) (clients : List Client) (replies : List (List ReplyLine)) : Type 0 where
  pub size : s.size ≡ size_of script.shape
  pub regions : length s.regions ≡ script.shape.regions
  pub many : length clients ≡ length script.shape.homes
  pub replied : length replies ≡ length script.shape.homes
  pub each : (n : ℕ) (c : Client) → slice_get clients n ≡ Some c
      → (c.number ≡ n) × (slice_get script.shape.homes n ≡ Some c.region)
      × WasServed s script.objects c (commands_of script n) (slice_index_or replies n [])
