use Rattle.object_law.proofs.ReadDecides.{reading_decides}
use Rattle.object_law.proofs.keys_read.reading_decides.Goals as goal

pub returns : goal.returns
returns c = reading_decides c.region_order_is_lawful.ensures c.region_order_is_unique.ensures c.read_items_last.ensures
