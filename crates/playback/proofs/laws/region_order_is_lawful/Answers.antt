use Rattle.playback.proofs.Merged.{order_is_merged}
use Rattle.playback.proofs.laws.region_order_is_lawful.Goals as goal

pub returns : goal.returns
returns c = order_is_merged
