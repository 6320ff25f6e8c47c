use Rattle.std.specs.Prelude.{[]}
use Rattle.lock_fold.proofs.Rises.{rise_on}
use Rattle.lock_fold.proofs.laws.tokens_rise.Goals as goal

pub returns : goal.returns
returns c = rise_on []
