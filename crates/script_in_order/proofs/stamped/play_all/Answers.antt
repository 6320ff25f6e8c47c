use Rattle.std.proofs.Common.{◌∙◌, ap, sym, refl}
use Rattle.log_node.specs.Sets.{members}
use Rattle.world_code.specs.WorldView.{world_of}
use Rattle.script_meaning.specs.Stamped.{played}
use Rattle.script_in_order.proofs.Sets.{low_first, low_next, low_rest}
use Rattle.script_in_order.proofs.StampedSteps.{is_played, not_played, played_next, played_to, play_shape}
use Rattle.script_in_order.proofs.stamped.play_all.Goals as goal

pub loop-colour-init : goal.loop-colour-init
loop-colour-init c =
    let left = c.into_iter-colour-iterator.result in
    let all = c.into_iter-colour-iterator.ensures.into_iter_gives ∙ c.members-colour-items.ensures in record {
      plays = ap (played c.args.client (world_of c.args.world.now)) all;
      low = low_first c.args.world.now.shape.colours c.args.colours left all c.requires.within;
      shape = refl;
    }

pub returns-then-is_none-clause-plays : goal.returns-then-is_none-clause-plays
returns-then-is_none-clause-plays c =
    let now = world_of c.loop-colour.world in
    played_to now (world_of c.play.new.self) c.args.client c.in-Some.colour c.loop-colour.colour-iterator c.next.new.self
    (played c.args.client (world_of c.args.world.now) (members c.args.colours)) c.in-Some.ensures.steps
    (not_played now c.args.client c.in-Some.colour c.play.result (sym c.if-is_none.ensures) c.play.ensures.reply)
    c.play.ensures.world c.loop-colour.invariant.plays

pub returns-then-is_none-clause-within : goal.returns-then-is_none-clause-within
returns-then-is_none-clause-within c =
    low_next c.args.world.now.shape.colours c.in-Some.colour c.loop-colour.colour-iterator c.next.new.self
    c.in-Some.ensures.steps c.loop-colour.invariant.low

pub returns-then-is_none-clause-shape : goal.returns-then-is_none-clause-shape
returns-then-is_none-clause-shape c =
    play_shape (world_of c.loop-colour.world) (world_of c.play.new.self) c.args.client c.in-Some.colour
    c.play.ensures.world ∙ c.loop-colour.invariant.shape

pub loop-colour-preserved : goal.loop-colour-preserved
loop-colour-preserved c =
    let now = world_of c.loop-colour.world in
    let new = world_of c.play.new.self in
    let left = c.loop-colour.colour-iterator in
    let steps = c.in-Some.ensures.steps in record {
      plays = played_next now new c.args.client c.in-Some.colour left c.next.new.self
          (played c.args.client (world_of c.args.world.now) (members c.args.colours)) steps
          (is_played now c.args.client c.in-Some.colour c.play.result (sym c.if-is_none.ensures) c.play.ensures.reply)
          c.play.ensures.world c.loop-colour.invariant.plays;
      low = low_rest c.args.world.now.shape.colours c.in-Some.colour left c.next.new.self steps c.loop-colour.invariant.low;
      shape = play_shape now new c.args.client c.in-Some.colour c.play.ensures.world ∙ c.loop-colour.invariant.shape;
    }

pub returns-clause-plays : goal.returns-clause-plays
returns-clause-plays c =
    sym c.loop-colour.invariant.plays
    ∙ ap (played c.args.client (world_of c.loop-colour.world)) c.in-None.ensures.steps.0

pub returns-clause-shape : goal.returns-clause-shape
returns-clause-shape c = c.loop-colour.invariant.shape
