-- The clients of a script with their shares of the commands, before they are served.
use Rattle.std.specs.Prelude.{◌≡◌, ◌^◌, ◌<◌, List, [], length, map, Vec}
use Rattle.std.specs.Global.{Global}
use Rattle.std.specs.List.{All}
use Rattle.script_text.specs.declared.script.Command.{Command}
use Rattle.script_text.specs.declared.script.Object.{Object}
use Rattle.script_beside.specs.Dealt.{share_commands}
use Rattle.log_client.specs.declared.client.Client.{Client}
use Rattle.run_script.specs.declared.serving.served.Served.{Served}
use Rattle.run_script.specs.Opened.{AreUnopened}

-- The client has opened none of these objects, and has replied nothing.
pub record IsIdle (objects : List Object) (x : Served) : Type 0 where
  pub unopened : AreUnopened objects x.objects.items
  pub replies : x.replies.items ≡ []

-- these clients, each with its share, by number, and all idle
pub record AreIdle (objects : List Object) (clients : List Client) (shares : List (Vec (Vec Command Global) Global))
    (served : List Served) : Type 0 where
  pub clients_are : map (λ (x : Served). x.client) served ≡ clients
  pub shares_are : map (λ (x : Served). x.commands) served ≡ shares
  pub idle : All (IsIdle objects) served

-- no more commands than a script has
abbrev pub AreFewCommands : List (Vec Command Global) → Type 0
AreFewCommands pieces = length (share_commands pieces) < 2 ^ 15
