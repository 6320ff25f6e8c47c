use Rattle.object_law.proofs.FourteenthLaws.{fourteenth_is_of_parts}
use Rattle.object_law.proofs.object_laws.fourteenth_is_of_parts.Goals as goal

pub returns : goal.returns
returns c =
    fourteenth_is_of_parts c.finds_tell.ensures c.computed_account_agrees.ensures c.computed_finds_decide.ensures
    c.region_order_is_lawful.ensures c.region_order_is_unique.ensures c.read_items_last.ensures
