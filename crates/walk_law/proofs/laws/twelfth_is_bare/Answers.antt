use Rattle.walk_law.proofs.TwelfthLaws.{twelfth_is_bare}
use Rattle.walk_law.proofs.laws.twelfth_is_bare.Goals as goal

pub returns : goal.returns
returns c = twelfth_is_bare c.finds_tell.ensures c.computed_account_agrees.ensures
