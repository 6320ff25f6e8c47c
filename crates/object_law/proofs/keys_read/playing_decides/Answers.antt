use Rattle.object_law.proofs.ReadDecides.{playing_decides}
use Rattle.object_law.proofs.keys_read.playing_decides.Goals as goal

pub returns : goal.returns
returns c = playing_decides
