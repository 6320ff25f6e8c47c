use Rattle.std.proofs.Common.{◌≡◌, ◌∙◌, refl, arith}
use Rattle.world_code.specs.WorldView.{world_of}
use Rattle.script_in_order.proofs.HelpsAndClears.{helps_none, helps_more, clears_colour}
use Rattle.script_in_order.proofs.clears.clear.Goals as goal

pub loop-help-init : goal.loop-help-init
loop-help-init c = record { helps = helps_none (world_of c.args.world.now); shape = refl }

pub loop-help-preserved : goal.loop-help-preserved
loop-help-preserved c =
    let was = c.loop-help.invariant in record {
      helps = helps_more c.loop-help.help c.args.by c.args.colour c.args.key (world_of c.args.world.now)
          (world_of c.loop-help.world) (world_of c.help_first.new.world) was.helps c.help_first.ensures.helps;
      shape = c.help_first.ensures.shape ∙ was.shape;
    }

pub returns-clause-helps : goal.returns-clause-helps
returns-clause-helps c =
    let all : c.loop-help.help ≡ c.open_count-count.result =
    omega (arith, c.loop-help-test.false, c.loop-help.auto.help-end) in
    clears_colour c.loop-help.help c.args.by c.args.colour c.args.key (world_of c.args.world.now)
    (world_of c.loop-help.world) (all ∙ c.open_count-count.ensures) c.loop-help.invariant.helps
