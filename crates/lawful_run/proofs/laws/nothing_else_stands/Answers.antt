use Rattle.lawful_run.proofs.Lines.{nothing_else_stands}
use Rattle.lawful_run.proofs.laws.nothing_else_stands.Goals as goal

pub returns : goal.returns
returns c = nothing_else_stands
