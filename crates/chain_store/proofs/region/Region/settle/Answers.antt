use Rattle.std.proofs.Common.{◌≡◌, ℕ, List, sym, subst, true, None}
use Rattle.col_core.specs.History.{entries}
use Rattle.stamp_board.specs.Seats.{seen as seat_seen}
use Rattle.turn_cell.specs.Cells.{seen}
use Rattle.chain_store.specs.declared.told.Tag.{Tag}
use Rattle.chain_store.specs.declared.told.Told.{Told}
use Rattle.chain_store.specs.Histories.{entries_in}
use Rattle.chain_store.specs.Passes.{MakesOne}
use Rattle.chain_store.specs.Moves.{LooksAt}
use Rattle.chain_store.proofs.Holding.{holder, client_few}
use Rattle.chain_store.proofs.ByColour.{TurnOf, own_row, settled, look_answers, told_but, of_told, told_hold, beside}
use Rattle.chain_store.specs.Steps.{MatchAt}
use Rattle.chain_store.specs.Columns.{told_settle}
use Rattle.chain_store.specs.Rows.{KnowsRow, place_after}
use Rattle.log_node.specs.declared.marks.Outcome.TheVariants.{Final}
use Rattle.col_core.specs.Ids.{IsFinal}
use Rattle.log_node.specs.Sets.{has}
use Rattle.log_node.specs.Standings.{open_entry}
use Rattle.chain_store.proofs.region.Region.settle.Given.{Over}
use Rattle.chain_store.proofs.region.Region.settle.Goals as goal

pub settle_in-settled-requires-clause-cell : goal.settle_in-settled-requires-clause-cell
settle_in-settled-requires-clause-cell g c =
    beside c.args.self.now c.args.colour c.column.result.now c.column.ensures

pub settle_in-settled-requires-clause-pass : goal.settle_in-settled-requires-clause-pass
settle_in-settled-requires-clause-pass g c =
    holder c.args.self.now c.args.hold.now c.args.colour c.column.result.now c.index_mut-pass.result.now c.requires.hold
    c.requires.colour c.column.ensures c.index_mut-pass.ensures.value

pub settle_in-settled-requires-clause-seat : goal.settle_in-settled-requires-clause-seat
settle_in-settled-requires-clause-seat g c =
    c.requires.hold.seat

pub settle_in-settled-requires-clause-client : goal.settle_in-settled-requires-clause-client
settle_in-settled-requires-clause-client g c =
    (client_few c.args.self.now c.args.hold.now c.requires.hold).1

pub settle_in-settled-requires-clause-begun : goal.settle_in-settled-requires-clause-begun
settle_in-settled-requires-clause-begun g c =
    subst (λ (t : Tag). KnowsRow c.args.self.now.board.size t.region (seat_seen c.args.hold.now.seat) c.args.begun.now)
    (sym c.column.ensures.tagged) c.requires.begun.knows

pub settle_in-settled-requires-clause-colour : goal.settle_in-settled-requires-clause-colour
settle_in-settled-requires-clause-colour g c =
    subst (λ (t : Tag). has c.args.begun.now.colours t.colour ≡ true) (sym c.column.ensures.tagged) c.requires.coloured

pub settle_in-settled-requires-clause-outcome : goal.settle_in-settled-requires-clause-outcome
settle_in-settled-requires-clause-outcome g c =
    c.requires.outcome

abbrev turn : (g : Over) (c : goal.After-behind g) → TurnOf c.args.self.now c.args.hold.now c.args.colour
    c.column.result.now
    c.index_mut-pass.result.now c.settle_in-settled.new.pass
turn g c = record {
  hold = c.requires.hold;
  inside = c.requires.colour;
  column = c.column.ensures;
  pass = c.index_mut-pass.ensures.value;
}

pub returns-clause-hold : goal.returns-clause-hold
returns-clause-hold g c =
    told_hold (turn g c) c.settle_in-settled.new.seat c.behind.new.desks
    c.settle_in-settled.ensures.pass c.settle_in-settled.ensures.seat c.behind.ensures
    (settled c.args.hold.now.passes.number c.args.hold.now.seat.used c.args.hold.now.next c.requires.hold.owns.nodes
    c.args.begun.now (seen c.index_mut-pass.result.now) (seen c.settle_in-settled.new.pass)
    (own_row c.args.self.now c.args.hold.now c.args.begun.now c.requires.hold c.requires.begun
    c.settle_in-settled.ensures.one_node)
    c.args.outcome c.settle_in-settled.result.at c.settle_in-settled.ensures.at)

pub returns-clause-others : goal.returns-clause-others
returns-clause-others g c =
    told_but (turn g c) c.settle_in-settled.new.seat c.behind.new.desks

pub returns-clause-at : goal.returns-clause-at
returns-clause-at g c =
    of_told (turn g c) c.settle_in-settled.new.seat c.behind.new.desks
    (λ (t : Tag) (old new : List Told). MatchAt c.settle_in-settled.result.at
    (λ place. MakesOne c.args.hold.now.passes.number (told_settle c.args.hold.now.passes.number c.args.begun.now.id
    c.args.outcome) old new c.settle_in-settled.result.at)
    (λ events. LooksAt c.args.hold.now.passes.number old new c.settle_in-settled.result.at))
    (look_answers c.args.hold.now.passes.number (seen c.index_mut-pass.result.now) (seen c.settle_in-settled.new.pass) _
    c.settle_in-settled.result.at c.settle_in-settled.ensures.at)

pub returns-clause-closed : goal.returns-clause-closed
returns-clause-closed g c =
    of_told (turn g c) c.settle_in-settled.new.seat c.behind.new.desks
    (λ (t : Tag) (old new : List Told). open_entry c.args.begun.now.id (entries (entries_in new)) ≡ None)
    c.settle_in-settled.ensures.closed

pub returns-clause-stands : goal.returns-clause-stands
returns-clause-stands g c =
    of_told (turn g c) c.settle_in-settled.new.seat c.behind.new.desks
    (λ (t : Tag) (old new : List Told). (f : ℕ) → c.args.outcome ≡ Final f → IsFinal (entries_in new)
    c.args.begun.now.id f)
    c.settle_in-settled.ensures.stands

pub returns-clause-position : goal.returns-clause-position
returns-clause-position g c =
    of_told (turn g c) c.settle_in-settled.new.seat c.behind.new.desks
    (λ (t : Tag) (old new : List Told). c.settle_in-settled.result.position ≡ place_after (entries_in new)
    c.args.begun.now.id c.args.outcome)
    c.settle_in-settled.ensures.position
