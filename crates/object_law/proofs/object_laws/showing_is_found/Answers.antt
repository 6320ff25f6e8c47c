use Rattle.object_law.proofs.ShowingLaws.{showing_is_found}
use Rattle.object_law.proofs.object_laws.showing_is_found.Goals as goal

pub returns : goal.returns
returns c =
    showing_is_found c.found_account_decides.ensures c.finds_tell.ensures c.finds_keep.ensures c.finds_decide.ensures
    c.decisions_are_plain.ensures
