use Rattle.std.proofs.Common.{sym, subst}
use Rattle.playback.specs.Merging.{AreRising}
use Rattle.world_code.specs.WorldView.{world_of}
use Rattle.world_laws.specs.Worlds.{home_of}
use Rattle.script_meaning.proofs.CallerLemmas.{rising_line}
use Rattle.script_in_order.proofs.StampedSteps.{line_is}
use Rattle.script_in_order.proofs.gets.nodes_up_to.Goals as goal

pub count_up_to-count-requires : goal.count_up_to-count-requires
count_up_to-count-requires c =
    let w = world_of c.args.world.now in record {
      rising = subst AreRising (sym (line_is c.args.world.now c.args.client c.args.colour c.home-region.result
          c.line.result.now c.column.result.now c.home-region.ensures.home c.column.ensures c.line.ensures))
          (rising_line w c.agrees.ensures (home_of w c.args.client) c.args.colour);
    }
