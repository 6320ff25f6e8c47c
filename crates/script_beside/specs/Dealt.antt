-- What it is to deal a script's commands out to its clients.
use Rattle.std.specs.Prelude.{◌≡◌, ℕ, List, [], length, Some, slice_get, Vec, Result, Ok, Err}
use Rattle.std.specs.Global.{Global}
use Rattle.std.specs.List.{flat_map}
use Rattle.script_text.specs.declared.script.Command.{Command}
use Rattle.script_text.specs.declared.script.Script.{Script}
use Rattle.script_text.specs.declared.reading.ScriptFault.{ScriptFault}
use Rattle.script_text.specs.declared.reading.ScriptFault.TheVariants.{Refused, NoMemory}
use Rattle.script_beside.specs.declared.dealt.DealtScript.{DealtScript}
use Rattle.script_beside.specs.Begins.{own, IsMost}

-- the commands of a share, in order
abbrev pub share_commands : List (Vec Command Global) → List Command
share_commands pieces = flat_map (λ (piece : Vec Command Global). piece.items) pieces

-- The header is the script without its commands, and each client has its own of them, in their order; and no client may begin
-- more rows than is told, and one so many.
pub record IsDealt (script : Script) (d : DealtScript) : Type 0 where
  pub header : script ≡ record d.header { commands = script.commands }
  pub without : d.header.commands ≡ []
  pub many : length d.shares.items ≡ length script.clients
  pub each : (n : ℕ) (share : Vec (Vec Command Global) Global) → slice_get d.shares.items n ≡ Some share
      → share_commands share.items ≡ own n script.commands
  pub begins : IsMost (length script.clients) script.commands d.begins

-- the script was given, dealt out, unless memory ran out
abbrev pub GivesDealt : Result DealtScript ScriptFault → Script → Type 0
GivesDealt (Ok dealt) script = IsDealt script dealt
GivesDealt (Err (Refused line why)) script = ⊥
GivesDealt (Err NoMemory) script = Unit {0}
