use Rattle.std.proofs.Common.{◌∙◌, ap, refl, arith}
use Rattle.log_node.specs.declared.node.Shape.{Shape}
use Rattle.log_node.specs.Sets.{members}
use Rattle.world_code.specs.WorldView.{world_of}
use Rattle.script_in_order.proofs.Sets.{low_first, low_next, low_rest}
use Rattle.script_in_order.proofs.HelpsAndClears.{clears_none, clears_next, clears_all}
use Rattle.script_in_order.proofs.clears.clear_all.Goals as goal

pub loop-colour-init : goal.loop-colour-init
loop-colour-init c =
    let left = c.into_iter-colour-iterator.result in
    let all = c.into_iter-colour-iterator.ensures.into_iter_gives ∙ c.members-colour-items.ensures in record {
      clears = clears_none c.args.by c.args.key left (members c.args.colours) (world_of c.args.world.now) all;
      low = low_first c.args.world.now.shape.colours c.args.colours left all c.requires.colours;
      shape = refl;
    }

pub clear-requires-clause-colour : goal.clear-requires-clause-colour
clear-requires-clause-colour c =
    let low = low_next c.args.world.now.shape.colours c.in-Some.colour c.loop-colour.colour-iterator c.next.new.self
    c.in-Some.ensures.steps c.loop-colour.invariant.low in
    let shape = ap (λ (s : Shape). s.colours) c.loop-colour.invariant.shape in
    omega (arith, low, shape)

pub loop-colour-preserved : goal.loop-colour-preserved
loop-colour-preserved c =
    let was = c.loop-colour.invariant in
    let left = c.loop-colour.colour-iterator in
    let steps = c.in-Some.ensures.steps in record {
      clears = clears_next c.args.by c.args.key c.in-Some.colour left c.next.new.self (members c.args.colours)
          (world_of c.args.world.now) (world_of c.loop-colour.world) (world_of c.clear.new.world) steps was.clears
          c.clear.ensures.helps;
      low = low_rest c.args.world.now.shape.colours c.in-Some.colour left c.next.new.self steps was.low;
      shape = c.clear.ensures.shape ∙ was.shape;
    }

pub returns-clause-helps : goal.returns-clause-helps
returns-clause-helps c =
    clears_all c.args.by c.args.key c.loop-colour.colour-iterator (members c.args.colours) (world_of c.args.world.now)
    (world_of c.loop-colour.world) c.in-None.ensures.steps.0 c.loop-colour.invariant.clears
