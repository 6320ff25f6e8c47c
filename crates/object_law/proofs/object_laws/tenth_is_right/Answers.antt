use Rattle.object_law.proofs.TenthLaws.{tenth_is_right}
use Rattle.object_law.proofs.object_laws.tenth_is_right.Goals as goal

pub returns : goal.returns
returns c =
    tenth_is_right c.finds_tell.ensures c.computed_account_agrees.ensures c.region_order_is_lawful.ensures
    c.region_order_is_unique.ensures c.read_items_last.ensures c.shown_finds_are_right.ensures
