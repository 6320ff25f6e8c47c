-- A client before it is served its commands, and after.
use Rattle.std.specs.Prelude.{◌≡◌, ◌≤◌, IsTrue, List, [], length}
use Rattle.std.specs.List.{All}
use Rattle.log_node.specs.declared.limits.TheConstants.{MAX_COLOURS}
use Rattle.script_text.specs.Fitting.{IsWithin, UsesObject}
use Rattle.script_text.specs.declared.script.Object.{Object}
use Rattle.script_text.specs.declared.script.Command.{Command}
use Rattle.script_beside.specs.Dealt.{share_commands}
use Rattle.log_client.specs.declared.store.Store.{Store}
use Rattle.log_client.specs.Clients.{Finished, tracks_of}
use Rattle.log_client.specs.Calls.{IsSame}
use Rattle.run_script.specs.declared.serving.served.Served.{Served}
use Rattle.run_script.specs.Dealing.{AreFewCommands}
use Rattle.run_script.specs.Opened.{AreKept, AreOf, AreOpenable}
use Rattle.run_script.specs.Serving.{Serves, StopsLast, WasServed}

-- a command that a client of the store can be served, where a script has these objects
pub record IsServable (s : Store) (objects : List Object) (command : Command) : Type 0 where
  pub within : IsWithin (length s.regions) s.size.colours command.what
  pub uses : UsesObject objects command.what

-- The client of a script with these objects has been served nothing, and it can be served its commands, which are no more than
-- a script has.
pub record CanServe (s : Store) (objects : List Object) (x : Served) : Type 0 where
  pub serves : Serves s objects x.client x.objects.items [] []
  pub finished : Finished x.client
  pub openable : AreOpenable s objects
  pub of : AreOf objects x.objects.items
  pub kept : AreKept x.client x.objects.items
  pub servable : All (IsServable s objects) (share_commands x.commands.items)
  pub stops : StopsLast (share_commands x.commands.items)
  pub replies : x.replies.items ≡ []
  pub few_commands : AreFewCommands x.commands.items
  pub few : length (tracks_of x.client) ≤ MAX_COLOURS

-- The client was served the commands that it had.
pub record IsServed (s : Store) (objects : List Object) (x y : Served) : Type 0 where
  pub same : IsSame x.client y.client
  pub served : WasServed s objects y.client (share_commands x.commands.items) y.replies.items

-- If it is done afterwards, it was served the commands that it had.
abbrev pub IsServedIfDone : Store → List Object → Served → Served → Type 0
IsServedIfDone s objects x y = IsTrue y.done → IsServed s objects x y
