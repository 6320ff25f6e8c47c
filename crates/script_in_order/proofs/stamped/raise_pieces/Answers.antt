use Rattle.std.proofs.Common.{◌∙◌, map, refl}
use Rattle.log_node.specs.Sets.{members}
use Rattle.world_code.specs.WorldView.{world_of}
use Rattle.script_meaning.specs.Stamped.{raise_in}
use Rattle.script_in_order.proofs.Sets.{low_first, low_next, low_rest, made_first, made_next, made_all}
use Rattle.script_in_order.proofs.stamped.raise_pieces.Goals as goal

pub loop-colour-init : goal.loop-colour-init
loop-colour-init c =
    let f = raise_in (world_of c.args.world.now) c.args.client c.args.stamp in
    let left = c.into_iter-colour-iterator.result in
    let all = c.into_iter-colour-iterator.ensures.into_iter_gives ∙ c.members-colour-items.ensures in record {
      made = made_first f (map f (members c.args.colours)) c.new-raises.result.items left (members c.args.colours)
          c.new-raises.ensures.items all refl;
      low = low_first c.args.world.now.shape.colours c.args.colours left all c.requires.within;
    }

pub raise_piece-requires-clause-colour : goal.raise_piece-requires-clause-colour
raise_piece-requires-clause-colour c =
    low_next c.args.world.now.shape.colours c.in-Some.colour c.loop-colour.colour-iterator c.next.new.self
    c.in-Some.ensures.steps c.loop-colour.invariant.low

pub loop-colour-preserved : goal.loop-colour-preserved
loop-colour-preserved c =
    let f = raise_in (world_of c.args.world.now) c.args.client c.args.stamp in
    let left = c.loop-colour.colour-iterator in
    let steps = c.in-Some.ensures.steps in record {
      made = made_next f (map f (members c.args.colours)) c.loop-colour.raises.items c.push.new.self.items
          c.raise_piece.result c.in-Some.colour left c.next.new.self steps c.in_ok-push.ensures.items c.raise_piece.ensures
          c.loop-colour.invariant.made;
      low = low_rest c.args.world.now.shape.colours c.in-Some.colour left c.next.new.self steps c.loop-colour.invariant.low;
    }

pub returns : goal.returns
returns c =
    let f = raise_in (world_of c.args.world.now) c.args.client c.args.stamp in
    c.from.ensures ∙ made_all f (map f (members c.args.colours)) c.loop-colour.raises.items c.loop-colour.colour-iterator
    c.in-None.ensures.steps.0 c.loop-colour.invariant.made
