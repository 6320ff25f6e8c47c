use Rattle.std.proofs.Common.{Vec, Global, List, inl}
use Rattle.std.specs.Vec.{with_item}
use Rattle.chain_store.specs.declared.read_view.desk.Desk.{Desk}
use Rattle.chain_store.specs.declared.told.Tag.{Tag}
use Rattle.chain_store.specs.declared.told.Told.{Told}
use Rattle.chain_store.specs.Looking.{ShowsOn}
use Rattle.chain_store.specs.Passes.{SeesMore}
use Rattle.chain_store.proofs.Holding.{holder, desk_there, desks_set}
use Rattle.chain_store.proofs.Passing.{ok_as}
use Rattle.chain_store.proofs.ByColour.{TurnOf, turned_but, of_turned, turned_hold}
use Rattle.chain_store.proofs.region.Region.look_on.Given.{Over}
use Rattle.chain_store.proofs.region.Region.look_on.Goals as goal

pub look_on_shared-requires-clause-pass : goal.look_on_shared-requires-clause-pass
look_on_shared-requires-clause-pass g c =
    holder c.args.self.now c.args.hold.now c.args.colour c.column.result.now c.index_mut-pass.result.now c.requires.hold
    c.requires.colour c.column.ensures c.index_mut-pass.ensures.value

pub look_on_shared-requires-clause-desk : goal.look_on_shared-requires-clause-desk
look_on_shared-requires-clause-desk g c =
    desk_there c.args.self.now.shares.items c.args.hold.now.desks.items c.args.colour c.share.result.now
    c.index_mut-desk.result.now c.requires.hold.desks c.share.ensures.there c.index_mut-desk.ensures.value

turn : (g : Over) (c : goal.After-hold-2-1 g) → TurnOf c.args.self.now c.args.hold.now c.args.colour c.column.result.now
    c.index_mut-pass.result.now c.look_on_shared.new.pass
turn g c = record {
  hold = c.requires.hold;
  inside = c.requires.colour;
  column = c.column.ensures;
  pass = c.index_mut-pass.ensures.value;
}

abbrev desks : (g : Over) → goal.After-hold-2-1 g → Vec Desk Global
desks g c = with_item c.args.hold.now.desks c.args.colour c.look_on_shared.new.desk

pub returns-clause-hold : goal.returns-clause-hold
returns-clause-hold g c =
    turned_hold (turn g c) (desks g c)
    c.look_on_shared.ensures.pass.0 (desks_set c.args.self.now.shares.items c.args.hold.now.desks.items c.args.colour
    c.share.result.now c.look_on_shared.new.desk c.share.ensures.there c.look_on_shared.ensures.desk
    c.requires.hold.desks) (inl c.look_on_shared.ensures.pass.1)

pub returns-clause-others : goal.returns-clause-others
returns-clause-others g c =
    turned_but (turn g c) (desks g c)

pub returns-clause-sees : goal.returns-clause-sees
returns-clause-sees g c =
    of_turned (turn g c) (desks g c)
    (λ (t : Tag) (old new : List Told). SeesMore c.args.hold.now.passes.number old new)
    c.look_on_shared.ensures.pass.1

pub returns-clause-looked : goal.returns-clause-looked
returns-clause-looked g c =
    ok_as c.look_on_shared.result _ _
    (λ looked v. of_turned (turn g c) (desks g c)
    (λ (t : Tag) (old new : List Told). ShowsOn t new c.args.from looked)
    v) c.look_on_shared.ensures.looked
