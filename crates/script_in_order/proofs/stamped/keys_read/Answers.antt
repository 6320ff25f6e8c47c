use Rattle.std.proofs.Common.{◌∙◌, List, ap, sym, subst}
use Rattle.log_node.specs.declared.ids.Key.{Key}
use Rattle.log_node.specs.Sets.{members}
use Rattle.playback.specs.Merging.{merged, up_to, AreRising}
use Rattle.world_code.specs.WorldView.{world_of}
use Rattle.world_laws.specs.Worlds.{home_of}
use Rattle.script_meaning.specs.Stamped.{keys_read}
use Rattle.script_meaning.proofs.CallerLemmas.{rising_line}
use Rattle.script_in_order.proofs.Sets.{low_first, low_next, low_rest}
use Rattle.script_in_order.proofs.StampedSteps.{line_is, keys_with, keys_next}
use Rattle.script_in_order.proofs.stamped.keys_read.Goals as goal

pub loop-colour-init : goal.loop-colour-init
loop-colour-init c =
    let w = world_of c.args.world.now in
    let left = c.into_iter-colour-iterator.result in
    let all = c.into_iter-colour-iterator.ensures.into_iter_gives ∙ c.members-colour-items.ensures in record {
      keys = ap (λ (keys : List Key). keys_with w c.args.client c.args.stamp keys left) c.new-keys.ensures.items
          ∙ ap (keys_read w c.args.client c.args.stamp) all;
      low = low_first c.args.world.now.shape.colours c.args.colours left all c.requires.within;
    }

pub column-requires-clause-colour : goal.column-requires-clause-colour
column-requires-clause-colour c =
    low_next c.args.world.now.shape.colours c.in-Some.colour c.loop-colour.colour-iterator c.next.new.self
    c.in-Some.ensures.steps c.loop-colour.invariant.low

pub with_line-requires : goal.with_line-requires
with_line-requires c =
    let w = world_of c.args.world.now in
    let colour = c.in-Some.colour in record {
      rising = subst AreRising (sym (line_is c.args.world.now c.args.client colour c.home.result c.line-line.result.now
          c.column.result.now c.home.ensures.home c.column.ensures c.line-line.ensures))
          (rising_line w c.agrees.ensures (home_of w c.args.client) colour);
    }

pub loop-colour-preserved : goal.loop-colour-preserved
loop-colour-preserved c =
    let w = world_of c.args.world.now in
    let colour = c.in-Some.colour in
    let left = c.loop-colour.colour-iterator in
    let steps = c.in-Some.ensures.steps in record {
      keys = keys_next w c.args.client c.args.stamp colour c.loop-colour.keys.items c.in_ok-keys.keys.items
          c.line-line.result.now (keys_read w c.args.client c.args.stamp (members c.args.colours)) left c.next.new.self steps
          (line_is c.args.world.now c.args.client colour c.home.result c.line-line.result.now c.column.result.now
          c.home.ensures.home c.column.ensures c.line-line.ensures)
          (c.in_ok-keys.ensures
          ∙ ap (λ (l : List Key). merged l (up_to c.args.stamp c.line-line.result.now)) c.as_slice.ensures.value)
          c.loop-colour.invariant.keys;
      low = low_rest c.args.world.now.shape.colours colour left c.next.new.self steps c.loop-colour.invariant.low;
    }

pub returns : goal.returns
returns c =
    ap (keys_with (world_of c.args.world.now) c.args.client c.args.stamp c.loop-colour.keys.items)
    (sym c.in-None.ensures.steps.0) ∙ c.loop-colour.invariant.keys
