use Rattle.std.proofs.Common.{◌≢◌, ◌<◌, ℕ, List, sym, subst}
use Rattle.log_node.specs.declared.node.At.{At}
use Rattle.turn_cell.specs.Cells.{seen}
use Rattle.chain_store.specs.declared.told.Tag.{Tag}
use Rattle.chain_store.specs.declared.told.Told.{Told}
use Rattle.chain_store.specs.Passes.{SeesMore}
use Rattle.chain_store.specs.Moves.{GivesAt}
use Rattle.chain_store.proofs.Holding.{holder}
use Rattle.chain_store.proofs.Passing.{ok_as}
use Rattle.chain_store.proofs.ByColour.{TurnOf, gave, or_looked, turned_but, of_turned, turned_hold, client_tagged}
use Rattle.std.specs.Prelude.{OnErr}
use Rattle.chain_store.proofs.region.Region.give.Given.{Over}
use Rattle.chain_store.proofs.region.Region.give.Goals as goal

pub give_in-given-requires-clause-pass : goal.give_in-given-requires-clause-pass
give_in-given-requires-clause-pass g c =
    holder c.args.self.now c.args.hold.now c.args.colour c.column.result.now c.index_mut-pass.result.now c.requires.hold
    c.requires.colour c.column.ensures c.index_mut-pass.ensures.value

pub give_in-given-requires-clause-maker : goal.give_in-given-requires-clause-maker
give_in-given-requires-clause-maker g c =
    client_tagged c.args.self.now c.args.hold.now c.args.colour c.column.result.now c.requires.hold c.column.ensures

pub give_in-given-requires-clause-other : goal.give_in-given-requires-clause-other
give_in-given-requires-clause-other g c =
    subst (λ (t : Tag). c.args.region ≢ t.region) (sym c.column.ensures.tagged) c.requires.other.0

pub give_in-given-requires-clause-region : goal.give_in-given-requires-clause-region
give_in-given-requires-clause-region g c =
    subst (λ (t : Tag). c.args.region < t.regions) (sym c.column.ensures.tagged) c.requires.other.1

turn : (g : Over) (c : goal.After-behind g) → TurnOf c.args.self.now c.args.hold.now c.args.colour c.column.result.now
    c.index_mut-pass.result.now c.give_in-given.new.pass
turn g c = record {
  hold = c.requires.hold;
  inside = c.requires.colour;
  column = c.column.ensures;
  pass = c.index_mut-pass.ensures.value;
}

pub returns-clause-hold : goal.returns-clause-hold
returns-clause-hold g c =
    turned_hold (turn g c) c.behind.new.desks
    c.give_in-given.ensures.pass c.behind.ensures (or_looked c.args.hold.now.passes.number (seen
    c.index_mut-pass.result.now) (seen
    c.give_in-given.new.pass)
    (λ (x : At × ℕ). GivesAt c.args.hold.now.passes.number c.args.region c.args.from
    (seen c.index_mut-pass.result.now) (seen c.give_in-given.new.pass) x.0 x.1)
    c.give_in-given.result (λ (x : At × ℕ). gave c.args.hold.now.passes.number (seen c.index_mut-pass.result.now)
    (seen
    c.give_in-given.new.pass) c.args.region c.args.from x.0 x.1)
    c.give_in-given.ensures.ok c.give_in-given.ensures.err)

pub returns-clause-others : goal.returns-clause-others
returns-clause-others g c =
    turned_but (turn g c) c.behind.new.desks

pub returns-clause-ok : goal.returns-clause-ok
returns-clause-ok g c =
    ok_as c.give_in-given.result _ _
    (λ (x : At × ℕ) y. of_turned (turn g c) c.behind.new.desks
    (λ (t : Tag) (old new : List Told). GivesAt c.args.hold.now.passes.number c.args.region c.args.from old new x.0
    x.1)
    y) c.give_in-given.ensures.ok

pub returns-clause-err : goal.returns-clause-err
returns-clause-err g c =
    of_turned (turn g c) c.behind.new.desks
    (λ (t : Tag) (old new : List Told). OnErr c.give_in-given.result (SeesMore c.args.hold.now.passes.number old new))
    c.give_in-given.ensures.err
