use Rattle.lawful_run.proofs.Lines.{one_key}
use Rattle.lawful_run.proofs.laws.one_key.Goals as goal

pub returns : goal.returns
returns c = one_key
