-- What a run on threads asks of a script.
use Rattle.std.specs.Prelude.{◌<◌, ◌≤◌}
use Rattle.script_text.specs.declared.script.Script.{Script}
use Rattle.script_text.specs.Versions.{limits_in}
use Rattle.script_text.specs.Fitting.{IsFitting}
use Rattle.script_beside.specs.declared.dealt.DealtScript.{DealtScript}
use Rattle.script_beside.specs.Dealt.{IsDealt}
use Rattle.script_meaning.specs.States.{StopsAreLast}

-- It fits, with a number of rows for each client that its version allows, no client has a command after a stop, and it was
-- dealt out so.
pub record CanRun (script : Script) (dealt : DealtScript) : Type 0 where
  pub is : IsDealt script dealt
  pub fits : IsFitting script
  pub rows : script.shape.rows ≤ (limits_in script.version).rows
  pub some_rows : 0 < script.shape.rows
  pub stops : StopsAreLast script
