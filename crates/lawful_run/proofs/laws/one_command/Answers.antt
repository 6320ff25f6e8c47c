use Rattle.lawful_run.proofs.Clients.{one_command}
use Rattle.lawful_run.proofs.laws.one_command.Goals as goal

pub returns : goal.returns
returns c = one_command
