use Rattle.std.proofs.Common.{refl}
use Rattle.world_code.specs.WorldView.{world_of}
use Rattle.world_code.proofs.Completion.{decided_begun, part_completed}
use Rattle.world_code.proofs.world.World.complete_first.Goals as goal

pub settle_first-settles-requires : goal.settle_first-settles-requires
settle_first-settles-requires c =
    decided_begun (world_of c.args.self.now) (world_of c.mark_first-marks.new.self)
    (world_of c.decide_first-decision.new.self) (world_of c.decide_first-decision.new.self) c.args.by c.args.row
    c.args.limit c.requires c.mark_first-marks.result c.decide_first-decision.result c.decide_first-decision.result
    c.mark_first-marks.ensures.taken c.decide_first-decision.ensures.taken

pub returns : goal.returns
returns c =
    part_completed (world_of c.args.self.now) (world_of c.mark_first-marks.new.self)
    (world_of c.decide_first-decision.new.self) (world_of c.settle_first-settles.new.self) c.args.by c.args.row
    c.args.limit c.requires c.mark_first-marks.result c.decide_first-decision.result c.settle_first-settles.result
    c.mark_first-marks.ensures.taken c.decide_first-decision.ensures.taken c.settle_first-settles.ensures.taken _ refl
