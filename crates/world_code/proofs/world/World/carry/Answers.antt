use Rattle.std.proofs.Common.{◌+◌, sym, subst, ◌∙◌}
use Rattle.std.proofs.lemmas.Bool.{and_parts}
use Rattle.world_laws.specs.Worlds.{are_two_columns}
use Rattle.world_laws.proofs.CallerLemmas.{may_carry_is}
use Rattle.world_code.specs.WorldView.{IsWhole, world_of}
use Rattle.world_code.proofs.MayCarry.{base_below, items_here}
use Rattle.world_code.proofs.world.World.carry.Goals as goal

pub stretch-requires-clause-base : goal.stretch-requires-clause-base
stretch-requires-clause-base c =
    let w = subst IsWhole c.self.view_is c.self.invariant in
    let now = world_of c.args.self.now in
    let ok = sym c.may_carry.ensures ∙ c.if-not-may_carry.false in
    let two = and_parts (are_two_columns now c.args.origin c.args.region c.args.colour) _ ok in
    let may = may_carry_is now c.args.origin c.args.region c.args.colour c.args.start c.args.count ok in
    base_below c.args.self.now w c.args.origin c.args.region c.args.colour c.args.start c.args.count two.0
    c.column.result.now c.column.ensures may.above_base

pub add_carry-requires-clause-given : goal.add_carry-requires-clause-given
add_carry-requires-clause-given c =
    let w = subst IsWhole c.self.view_is c.self.invariant in
    let now = world_of c.args.self.now in
    let ok = sym c.may_carry.ensures ∙ c.if-not-may_carry.false in
    let two = and_parts (are_two_columns now c.args.origin c.args.region c.args.colour) _ ok in
    items_here c.args.self.now w c.args.origin c.args.region c.args.colour c.args.start c.args.count two.0
    c.args.start (c.args.start + c.args.count) c.in_ok-items.items c.column.result.now c.column.ensures
    c.in_ok-items.ensures
