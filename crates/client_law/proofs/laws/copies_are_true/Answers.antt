use Rattle.client_law.proofs.Origins.{copies_are_true}
use Rattle.client_law.proofs.laws.copies_are_true.Goals as goal

pub returns : goal.returns
returns c = copies_are_true
