use Rattle.std.proofs.Common.{◌∙◌, ap, sym, subst, refl, ◌<◌, length, Some}
use Rattle.log_node.specs.declared.node.Shape.{Shape}
use Rattle.log_node.specs.Sets.{members}
use Rattle.world_code.specs.WorldView.{WorldView, world_of}
use Rattle.world_laws.specs.Worlds.{World}
use Rattle.script_in_order.specs.Stamped.{RaisesColumns}
use Rattle.script_in_order.proofs.StampedSteps.{raised_none, raised_next, raised_all, raised_to}
use Rattle.script_in_order.proofs.stamped.raise_all.Goals as goal

pub loop-colour-init : goal.loop-colour-init
loop-colour-init c = record {
  raises = raised_none (world_of c.args.world.now) c.args.client c.args.stamp c.into_iter-colour-iterator.result
      (members c.args.colours) (c.into_iter-colour-iterator.ensures.into_iter_gives ∙ c.members-colour-items.ensures);
  shape = refl;
}

pub raise-requires : goal.raise-requires
raise-requires c = record {
  client = subst (λ (s : Shape). c.args.client < length s.homes) (sym c.loop-colour.invariant.shape) c.requires.client;
}

pub returns-then-not-raise-clause-raises : goal.returns-then-not-raise-clause-raises
returns-then-not-raise-clause-raises c =
    subst (λ (x : World). RaisesColumns (world_of c.args.world.now) c.args.client c.args.stamp (members c.args.colours) x
    (Some c.in-Some.colour)) (ap (λ (x : WorldView). world_of x) (sym (c.if-not-raise.ensures.err refl)))
    (raised_to (world_of c.args.world.now) (world_of c.loop-colour.world) c.args.client c.args.stamp c.in-Some.colour
    c.loop-colour.colour-iterator c.next.new.self c.args.colours c.in-Some.ensures.steps c.loop-colour.invariant.raises)

pub returns-then-not-raise-clause-shape : goal.returns-then-not-raise-clause-shape
returns-then-not-raise-clause-shape c = c.raise.ensures.shape ∙ c.loop-colour.invariant.shape

pub loop-colour-preserved : goal.loop-colour-preserved
loop-colour-preserved c = record {
  raises = raised_next (world_of c.args.world.now) (world_of c.loop-colour.world) (world_of c.raise.new.world)
      c.args.client c.args.stamp c.in-Some.colour c.loop-colour.colour-iterator c.next.new.self (members c.args.colours)
      c.in-Some.ensures.steps c.loop-colour.invariant.raises (c.if-not-raise.ensures.ok refl);
  shape = c.raise.ensures.shape ∙ c.loop-colour.invariant.shape;
}

pub returns-clause-raises : goal.returns-clause-raises
returns-clause-raises c =
    raised_all (world_of c.args.world.now) (world_of c.loop-colour.world) c.args.client c.args.stamp
    c.loop-colour.colour-iterator (members c.args.colours) c.in-None.ensures.steps.0 c.loop-colour.invariant.raises

pub returns-clause-shape : goal.returns-clause-shape
returns-clause-shape c = c.loop-colour.invariant.shape
