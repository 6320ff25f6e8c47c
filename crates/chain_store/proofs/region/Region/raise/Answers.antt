use Rattle.std.proofs.Common.{List}
use Rattle.log_node.specs.declared.node.At.{At}
use Rattle.turn_cell.specs.Cells.{seen}
use Rattle.chain_store.specs.declared.told.Tag.{Tag}
use Rattle.chain_store.specs.declared.told.Told.{Told}
use Rattle.chain_store.specs.Passes.{SeesMore}
use Rattle.chain_store.specs.Moves.{RaisesAt}
use Rattle.chain_store.proofs.Holding.{holder}
use Rattle.chain_store.proofs.Passing.{ok_as}
use Rattle.chain_store.proofs.ByColour.{TurnOf, raised, or_looked, turned_but, of_turned, turned_hold, client_tagged}
use Rattle.std.specs.Prelude.{OnErr}
use Rattle.chain_store.proofs.region.Region.raise.Given.{Over}
use Rattle.chain_store.proofs.region.Region.raise.Goals as goal

pub raise_in-raised-requires-clause-pass : goal.raise_in-raised-requires-clause-pass
raise_in-raised-requires-clause-pass g c =
    holder c.args.self.now c.args.hold.now c.args.colour c.column.result.now c.index_mut-pass.result.now c.requires.hold
    c.requires.colour c.column.ensures c.index_mut-pass.ensures.value

pub raise_in-raised-requires-clause-maker : goal.raise_in-raised-requires-clause-maker
raise_in-raised-requires-clause-maker g c =
    client_tagged c.args.self.now c.args.hold.now c.args.colour c.column.result.now c.requires.hold c.column.ensures

turn : (g : Over) (c : goal.After-behind g) → TurnOf c.args.self.now c.args.hold.now c.args.colour c.column.result.now
    c.index_mut-pass.result.now c.raise_in-raised.new.pass
turn g c = record {
  hold = c.requires.hold;
  inside = c.requires.colour;
  column = c.column.ensures;
  pass = c.index_mut-pass.ensures.value;
}

pub returns-clause-hold : goal.returns-clause-hold
returns-clause-hold g c =
    turned_hold (turn g c) c.behind.new.desks
    c.raise_in-raised.ensures.pass c.behind.ensures (or_looked c.args.hold.now.passes.number (seen
    c.index_mut-pass.result.now) (seen
    c.raise_in-raised.new.pass)
    (λ (x : At). RaisesAt c.args.hold.now.passes.number c.args.to (seen c.index_mut-pass.result.now) (seen
    c.raise_in-raised.new.pass) x)
    c.raise_in-raised.result (raised c.args.hold.now.passes.number (seen c.index_mut-pass.result.now) (seen
    c.raise_in-raised.new.pass) c.args.to)
    c.raise_in-raised.ensures.ok c.raise_in-raised.ensures.err)

pub returns-clause-others : goal.returns-clause-others
returns-clause-others g c =
    turned_but (turn g c) c.behind.new.desks

pub returns-clause-ok : goal.returns-clause-ok
returns-clause-ok g c =
    ok_as c.raise_in-raised.result _ _
    (λ (x : At) y. of_turned (turn g c) c.behind.new.desks
    (λ (t : Tag) (old new : List Told). RaisesAt c.args.hold.now.passes.number c.args.to old new x)
    y) c.raise_in-raised.ensures.ok

pub returns-clause-err : goal.returns-clause-err
returns-clause-err g c =
    of_turned (turn g c) c.behind.new.desks
    (λ (t : Tag) (old new : List Told). OnErr c.raise_in-raised.result (SeesMore c.args.hold.now.passes.number old new))
    c.raise_in-raised.ensures.err
