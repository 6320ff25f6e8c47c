use Rattle.walk_law.proofs.FifthLaws.{fifth_is_entering}
use Rattle.walk_law.proofs.laws.fifth_is_entering.Goals as goal

pub returns : goal.returns
returns c =
    fifth_is_entering c.nodes_are_told.ensures c.nodes_change_no_step.ensures c.computed_account_agrees.ensures
