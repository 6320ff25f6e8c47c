use Rattle.std.proofs.Common.{◌+◌, subst}
use Rattle.std.specs.Prelude.{◌*◌}
use Rattle.log_node.specs.declared.limits.TheConstants.{MAX_COLOURS}
use Rattle.world_laws.specs.Laws.{CanComplete}
use Rattle.world_laws.proofs.CallerLemmas.{of_reached}
use Rattle.world_code.specs.WorldView.{world_of, IsWhole}
use Rattle.world_code.proofs.Completion.{part_begun, all_completed}
use Rattle.world_code.proofs.world.World.complete.Goals as goal

pub last-requires : goal.last-requires
last-requires c =
    part_begun (world_of c.args.self.now) (world_of c.complete_first-steps.new.self) c.args.by c.args.row
    (2 * MAX_COLOURS + 1) c.complete_first-steps.result c.requires c.complete_first-steps.ensures

pub returns : goal.returns
returns c =
    let w = subst IsWhole c.self.view_is c.self.invariant in
    let now = world_of c.args.self.now in
    all_completed now (world_of c.complete_first-steps.new.self) c.args.by c.args.row c.complete_first-steps.result
    c.last.result c.requires (of_reached CanComplete c.can_complete.ensures now w.reached)
    c.complete_first-steps.ensures c.last.ensures
