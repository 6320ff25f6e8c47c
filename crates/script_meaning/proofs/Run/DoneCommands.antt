-- A command, whether or not its object's home refuses it and it is granted memory before it does anything: steps lead to the
-- state behind it, and where it finds memory it does what it does with memory granted everywhere.
use Rattle.std.proofs.Common.{◌≡◌, ℕ, List, [], Option, Some, None, refl}
use Rattle.col_core.proofs.CallerLemmas.{choice}
use Rattle.script_text.specs.declared.script.Object.{Object}
use Rattle.script_text.specs.declared.script.Command.{Command}
use Rattle.report_text.specs.declared.report.Answer.TheVariants as answers
use Rattle.script_meaning.specs.States.{State, Grants, all_granted, answered}
use Rattle.script_meaning.specs.Objects.{caller_in, refusing_home}
use Rattle.script_meaning.proofs.Run.GrantedSteps.{stays_there}
use Rattle.script_meaning.specs.Meaning.{done_from, done}
use Rattle.script_meaning.proofs.Run.CommandRows.{one_command_extends, one_command_exact}
use Rattle.script_meaning.proofs.Run.GrantedCommands.{Extends, HadMemory, answer_goes, by_grant, told_so}

module _ (objects : List Object) (grants : Grants) (state : State) (command : Command) where
  -- the home that refuses it
  abbrev refused_by : Option ℕ
  refused_by = refusing_home (caller_in state.world objects command.client) command.what

  abbrev unserved : State
  unserved = answered state command state.world answers.NoMemory []

  from_extends : (home : Option ℕ) → Extends state (done_from home objects grants state command)
  from_extends None = one_command_extends objects grants state command command.what
  from_extends (Some home) =
      answer_goes state command state.world (answers.NotHome home) [] (stays_there state.world)

  pub done_extends : Extends state (done objects grants state command)
  done_extends =
      choice (Extends state) grants.start (done_from refused_by objects grants state command) unserved
      (λ _. from_extends refused_by)
      (λ _. answer_goes state command state.world answers.NoMemory [] (stays_there state.world))

  from_exact : (home : Option ℕ) → HadMemory command.client (done_from home objects grants state command)
      → done_from home objects grants state command ≡ done_from home objects all_granted state command
  from_exact None = one_command_exact objects grants state command command.what
  from_exact (Some home) = λ _. refl

  pub done_exact : HadMemory command.client (done objects grants state command)
      → done objects grants state command ≡ done objects all_granted state command
  done_exact =
      by_grant grants.start (done_from refused_by objects grants state command) unserved
      (done_from refused_by objects all_granted state command) (from_exact refused_by)
      (told_so objects grants state command state.world)
