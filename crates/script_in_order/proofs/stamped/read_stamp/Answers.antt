use Rattle.std.proofs.Common.{◌≡◌, ◌≤◌, ◌∙◌, ℕ, ap, sym, subst}
use Rattle.log_node.specs.Sets.{members}
use Rattle.col_core.specs.History.{last_stamp}
use Rattle.world_code.specs.Clients.{ClientView}
use Rattle.world_code.specs.WorldView.{world_of}
use Rattle.script_meaning.specs.Stamped.{read_stamp}
use Rattle.script_meaning.proofs.CallerLemmas.{stamp_low}
use Rattle.script_in_order.proofs.Sets.{low_first, low_next, low_rest}
use Rattle.script_in_order.proofs.StampedSteps.{stamp_first, stamp_next, stamp_all}
use Rattle.script_in_order.proofs.stamped.read_stamp.Goals.{In-None}
use Rattle.script_in_order.proofs.stamped.read_stamp.Goals as goal

pub loop-colour-init : goal.loop-colour-init
loop-colour-init c =
    let left = c.into_iter-colour-iterator.result in
    let all = c.into_iter-colour-iterator.ensures.into_iter_gives ∙ c.members-colour-items.ensures in record {
      stamp = stamp_first (world_of c.args.world.now) c.args.client c.floor-stamp.result left (members c.args.colours)
          (c.floor-stamp.ensures ∙ ap (λ (x : ClientView). x.floor) c.client.ensures) all;
      low = low_first c.args.world.now.shape.colours c.args.colours left all c.requires.within;
    }

pub clock-requires-clause-colour : goal.clock-requires-clause-colour
clock-requires-clause-colour c =
    low_next c.args.world.now.shape.colours c.in-Some.colour c.loop-colour.colour-iterator c.next.new.self
    c.in-Some.ensures.steps c.loop-colour.invariant.low

pub loop-colour-preserved : goal.loop-colour-preserved
loop-colour-preserved c =
    let w = world_of c.args.world.now in
    let left = c.loop-colour.colour-iterator in
    let steps = c.in-Some.ensures.steps in record {
      stamp = stamp_next w c.args.client c.loop-colour.stamp c.max-stamp.result c.clock.result c.in-Some.colour
          (read_stamp w c.args.client (members c.args.colours)) left c.next.new.self steps c.max-stamp.ensures
          c.clock.ensures c.loop-colour.invariant.stamp;
      low = low_rest c.args.world.now.shape.colours c.in-Some.colour left c.next.new.self steps c.loop-colour.invariant.low;
    }

stamp_is : (c : In-None) → c.loop-colour.stamp
    ≡ read_stamp (world_of c.args.world.now) c.args.client (members c.args.colours)
stamp_is c =
    let w = world_of c.args.world.now in
    stamp_all w c.args.client c.loop-colour.stamp (read_stamp w c.args.client (members c.args.colours))
    c.loop-colour.colour-iterator c.in-None.ensures.steps.0 c.loop-colour.invariant.stamp

pub returns-clause-value : goal.returns-clause-value
returns-clause-value c = stamp_is c

pub returns-clause-stamp : goal.returns-clause-stamp
returns-clause-stamp c =
    subst (λ (n : ℕ). n ≤ last_stamp) (sym (stamp_is c))
    (stamp_low (world_of c.args.world.now) c.agrees.ensures c.args.client (members c.args.colours))
