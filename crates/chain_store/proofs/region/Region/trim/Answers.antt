use Rattle.std.proofs.Common.{List}
use Rattle.log_node.specs.declared.node.At.{At}
use Rattle.log_node.specs.declared.ids.Counts.{Counts}
use Rattle.turn_cell.specs.Cells.{seen}
use Rattle.chain_store.specs.declared.told.Tag.{Tag}
use Rattle.chain_store.specs.declared.told.Told.{Told}
use Rattle.chain_store.specs.Passes.{SeesMore, tag_in}
use Rattle.chain_store.specs.Moves.{TrimsAt}
use Rattle.chain_store.proofs.Holding.{holder}
use Rattle.chain_store.proofs.Passing.{ok_as}
use Rattle.chain_store.proofs.ByColour.{TurnOf, trimmed, or_looked, turned_but, of_turned, turned_hold, client_tagged}
use Rattle.std.specs.Prelude.{OnErr}
use Rattle.chain_store.proofs.region.Region.trim.Given.{Over}
use Rattle.chain_store.proofs.region.Region.trim.Goals as goal

pub trim_in-trimmed-requires-clause-pass : goal.trim_in-trimmed-requires-clause-pass
trim_in-trimmed-requires-clause-pass g c =
    holder c.args.self.now c.args.hold.now c.args.colour c.column.result.now c.index_mut-pass.result.now c.requires.hold
    c.requires.colour c.column.ensures c.index_mut-pass.ensures.value

pub trim_in-trimmed-requires-clause-maker : goal.trim_in-trimmed-requires-clause-maker
trim_in-trimmed-requires-clause-maker g c =
    client_tagged c.args.self.now c.args.hold.now c.args.colour c.column.result.now c.requires.hold c.column.ensures

turn : (g : Over) (c : goal.After-behind g) → TurnOf c.args.self.now c.args.hold.now c.args.colour c.column.result.now
    c.index_mut-pass.result.now c.trim_in-trimmed.new.pass
turn g c = record {
  hold = c.requires.hold;
  inside = c.requires.colour;
  column = c.column.ensures;
  pass = c.index_mut-pass.ensures.value;
}

pub returns-clause-hold : goal.returns-clause-hold
returns-clause-hold g c =
    turned_hold (turn g c) c.behind.new.desks
    c.trim_in-trimmed.ensures.pass c.behind.ensures (or_looked c.args.hold.now.passes.number (seen
    c.index_mut-pass.result.now) (seen
    c.trim_in-trimmed.new.pass)
    (λ (x : At × Counts). TrimsAt (tag_in c.column.result.now) c.args.hold.now.passes.number c.args.counts (seen
    c.index_mut-pass.result.now) (seen c.trim_in-trimmed.new.pass) x.0 x.1)
    c.trim_in-trimmed.result (λ (x : At × Counts). trimmed c.args.hold.now.passes.number (seen
    c.index_mut-pass.result.now)
    (seen c.trim_in-trimmed.new.pass) (tag_in c.column.result.now) c.args.counts x.0 x.1)
    c.trim_in-trimmed.ensures.ok c.trim_in-trimmed.ensures.err)

pub returns-clause-others : goal.returns-clause-others
returns-clause-others g c =
    turned_but (turn g c) c.behind.new.desks

pub returns-clause-ok : goal.returns-clause-ok
returns-clause-ok g c =
    ok_as c.trim_in-trimmed.result _ _
    (λ (x : At × Counts) y. of_turned (turn g c) c.behind.new.desks
    (λ (t : Tag) (old new : List Told). TrimsAt t c.args.hold.now.passes.number c.args.counts old new x.0 x.1)
    y) c.trim_in-trimmed.ensures.ok

pub returns-clause-err : goal.returns-clause-err
returns-clause-err g c =
    of_turned (turn g c) c.behind.new.desks
    (λ (t : Tag) (old new : List Told). OnErr c.trim_in-trimmed.result (SeesMore c.args.hold.now.passes.number old new))
    c.trim_in-trimmed.ensures.err
