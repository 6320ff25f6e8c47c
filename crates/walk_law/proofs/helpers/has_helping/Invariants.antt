use Rattle.std.proofs.Common.{◌≡◌, ◌<◌, ℕ, Some, false}
use Rattle.std.specs.Prelude.{slice_get}
use Rattle.script_text.specs.declared.script.Command.{Command}
use Rattle.lawful_run.specs.Asks.{may_help}
use Rattle.lawful_run.specs.Callers.{commands_of}
use Rattle.lawful_run.specs.Deeds.{manner_of}
use Rattle.walk_law.proofs.helpers.has_helping.Given as goal

-- no command so far may help
abbrev pub invariant-loop-place : goal.invariant-loop-place
invariant-loop-place l = (n : ℕ) (x : Command) → n < l.place → slice_get (commands_of l.subject.script l.client) n ≡ Some x
    → may_help (manner_of x.what) ≡ false
