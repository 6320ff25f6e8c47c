use Rattle.std.proofs.Common.{ap, sym, ◌∙◌}
use Rattle.world_laws.specs.Worlds.{World, after}
use Rattle.world_code.specs.WorldView.{world_of}
use Rattle.example_orders.specs.Orders.{writer}
use Rattle.example_orders.proofs.Running.{step_more}
use Rattle.example_orders.proofs.orders.write_on.Goals as goal

pub loop-number-preserved : goal.loop-number-preserved
loop-number-preserved c =
    let step = c.in_ok-step.step in
    c.in_ok-_reply.ensures.ok
    ∙ (ap (λ (w : World). after w step) c.loop-number.invariant
    ∙ sym (step_more (world_of c.args.world.now) writer c.args.from c.loop-number.number step c.loop-number.auto.number
    c.in_ok-step.ensures))
