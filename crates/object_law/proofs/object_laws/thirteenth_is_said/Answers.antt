use Rattle.object_law.proofs.ThirteenthLaws.{thirteenth_is_said}
use Rattle.object_law.proofs.object_laws.thirteenth_is_said.Goals as goal

pub returns : goal.returns
returns c =
    thirteenth_is_said c.finds_tell.ensures c.computed_account_agrees.ensures c.region_order_is_lawful.ensures
    c.region_order_is_unique.ensures c.read_items_last.ensures
