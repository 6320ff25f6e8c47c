use Rattle.col_core.proofs.RegionOrders.{same_region_order}
use Rattle.col_core.proofs.laws.region_order_is_unique.Goals as goal

pub returns : goal.returns
returns c = same_region_order
