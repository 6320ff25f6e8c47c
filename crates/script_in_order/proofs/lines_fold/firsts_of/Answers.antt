use Rattle.std.proofs.Common.{◌∙◌}
use Rattle.log_node.specs.Sets.{members}
use Rattle.world_code.specs.WorldView.{world_of}
use Rattle.script_in_order.proofs.Sets.{low_first, low_next, low_rest}
use Rattle.script_in_order.proofs.LinesFolds.{no_lines, line_made, all_lines}
use Rattle.script_in_order.proofs.lines_fold.firsts_of.Goals as goal

pub loop-colour-init : goal.loop-colour-init
loop-colour-init c =
    let left = c.into_iter-colour-iterator.result in
    let all = c.into_iter-colour-iterator.ensures.into_iter_gives ∙ c.members-colour-items.ensures in record {
      lines = no_lines (world_of c.args.world.now) c.args.read.client c.args.read.stamp left (members c.args.read.colours)
          c.new-firsts.result.items c.new-firsts.ensures.items all;
      low = low_first c.args.world.now.shape.colours c.args.read.colours left all c.requires.within;
    }

pub nodes_up_to-requires-clause-colour : goal.nodes_up_to-requires-clause-colour
nodes_up_to-requires-clause-colour c =
    low_next c.args.world.now.shape.colours c.in-Some.colour c.loop-colour.colour-iterator c.next.new.self
    c.in-Some.ensures.steps c.loop-colour.invariant.low

pub loop-colour-preserved : goal.loop-colour-preserved
loop-colour-preserved c =
    let left = c.loop-colour.colour-iterator in
    let steps = c.in-Some.ensures.steps in
    let its = c.nodes_up_to.ensures in record {
      lines = line_made (world_of c.args.world.now) c.args.read.client c.args.read.stamp c.in-Some.colour left
          c.next.new.self (members c.args.read.colours) c.loop-colour.firsts.items c.push.new.self.items
          c.nodes_up_to.result steps c.in_ok-push.ensures.items its.there its.region its.colour its.nodes
          c.loop-colour.invariant.lines;
      low = low_rest c.args.world.now.shape.colours c.in-Some.colour left c.next.new.self steps c.loop-colour.invariant.low;
    }

pub returns : goal.returns
returns c =
    all_lines (world_of c.args.world.now) c.args.read.client c.args.read.stamp c.loop-colour.colour-iterator
    (members c.args.read.colours) c.loop-colour.firsts.items c.in-None.ensures.steps.0 c.loop-colour.invariant.lines
