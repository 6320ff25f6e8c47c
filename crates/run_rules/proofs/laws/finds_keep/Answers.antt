use Rattle.run_rules.proofs.Computed.{finds_agree_too}
use Rattle.run_rules.proofs.laws.finds_keep.Goals as goal

pub returns : goal.returns
returns c = finds_agree_too
