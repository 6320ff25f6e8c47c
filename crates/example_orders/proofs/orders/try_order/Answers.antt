use Rattle.std.proofs.Common.{◌≡◌, take, drop, ap, ◌∙◌}
use Rattle.world_laws.specs.declared.steps.Step.TheVariants.{Play}
use Rattle.world_laws.specs.Worlds.{World, opened, run_steps}
use Rattle.world_laws.proofs.CallerLemmas.{run_grows}
use Rattle.world_code.specs.WorldView.{world_of}
use Rattle.example_orders.specs.Orders.{small, writer, in_order, sight_of}
use Rattle.example_orders.proofs.Running.{in_parts}
use Rattle.example_orders.proofs.orders.try_order.Goals as goal

pub seen_in-requires : goal.seen_in-requires
seen_in-requires c =
    let steps = in_order c.args.first c.args.second in
    let end : world_of c.play-right.new.self ≡ run_steps (opened small) steps =
    in_parts (opened small) (world_of c.in_ok-world.world) (world_of c.write_on.new.world) (world_of c.play-left.new.self)
    (world_of c.write_on-2.new.world) (world_of c.play-right.new.self) (take c.args.first writer)
    (drop c.args.first (take c.args.second writer)) (Play 1 0) (Play 1 1) c.in_ok-world.ensures c.in_ok-write_on.ensures
    c.play-left.ensures.world c.in_ok-write_on-2.ensures c.play-right.ensures.world in
    ap (λ (w : World). w.shape) end ∙ (run_grows (opened small) steps).shape

pub returns : goal.returns
returns c =
    let end = in_parts (opened small) (world_of c.in_ok-world.world) (world_of c.write_on.new.world)
    (world_of c.play-left.new.self) (world_of c.write_on-2.new.world) (world_of c.play-right.new.self)
    (take c.args.first writer) (drop c.args.first (take c.args.second writer)) (Play 1 0) (Play 1 1) c.in_ok-world.ensures
    c.in_ok-write_on.ensures c.play-left.ensures.world c.in_ok-write_on-2.ensures c.play-right.ensures.world in
    c.seen_in.ensures ∙ ap sight_of end
