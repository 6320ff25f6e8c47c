use Rattle.walk_law.proofs.SeventhLaws.{seventh_is_stopping}
use Rattle.walk_law.proofs.seventh.seventh_is_stopping.Goals as goal

pub returns : goal.returns
returns c = seventh_is_stopping
