use Rattle.lawful_run.proofs.Lines.{one_order}
use Rattle.lawful_run.proofs.laws.one_order.Goals as goal

pub returns : goal.returns
returns c = one_order
