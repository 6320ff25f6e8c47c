use Rattle.std.proofs.Common.{subst, sym}
use Rattle.playback.specs.Merging.{AreRising}
use Rattle.object_law.proofs.LineOrder.{line_rising}
use Rattle.object_law.proofs.keys_read.whole_order.Goals as goal

pub with_line-requires : goal.with_line-requires
with_line-requires c =
    let track = c.track-track.result.now in record {
      rising = subst AreRising (sym c.line.ensures) (line_rising track.region track.regions track.journal c.agrees.ensures);
    }
