use Rattle.std.proofs.Common.{sym, ◌∙◌}
use Rattle.std.proofs.lemmas.Bool.{cond-true}
use Rattle.world_laws.specs.Worlds.{may_fence}
use Rattle.world_code.specs.WorldView.{world_of}
use Rattle.world_code.proofs.world.World.fence.Goals as goal

pub returns-clause-world : goal.returns-clause-world
returns-clause-world c =
    c.add_fence.ensures.world
    ∙ sym (cond-true (may_fence (world_of c.args.self.now) c.args.row c.args.colour c.args.why) _ _
    (sym c.if-not-may_fence.ensures))
