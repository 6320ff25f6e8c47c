use Rattle.playback.proofs.Playing.{order_is_played}
use Rattle.playback.proofs.laws.play_order_is_lawful.Goals as goal

pub returns : goal.returns
returns c = order_is_played
