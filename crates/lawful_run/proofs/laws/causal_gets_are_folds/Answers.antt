use Rattle.lawful_run.proofs.CausalGets.{causal_gets_are_folds}
use Rattle.lawful_run.proofs.laws.causal_gets_are_folds.Goals as goal

pub returns : goal.returns
returns c = causal_gets_are_folds
