use Rattle.std.proofs.Common.{◌≡◌, ℕ, List, sym, subst, true}
use Rattle.col_core.specs.History.{IsAtEnd}
use Rattle.stamp_board.specs.Seats.{seen as seat_seen}
use Rattle.turn_cell.specs.Cells.{seen}
use Rattle.chain_store.specs.declared.told.Tag.{Tag}
use Rattle.chain_store.specs.declared.told.Told.{Told}
use Rattle.chain_store.specs.Histories.{entries_in}
use Rattle.chain_store.specs.Passes.{tag_in, MakesOne}
use Rattle.chain_store.specs.Moves.{LooksAt}
use Rattle.chain_store.proofs.Holding.{holder, client_few}
use Rattle.chain_store.proofs.ByColour.{TurnOf, own_row, proposed, look_answers, told_but, of_told, told_hold, beside}
use Rattle.chain_store.specs.Steps.{MatchAt}
use Rattle.stamp_board.specs.Views.{KnowsMark}
use Rattle.chain_store.specs.Marks.{stamps_of, numbers}
use Rattle.chain_store.specs.Columns.{told_propose}
use Rattle.chain_store.specs.Rows.{IsBegunRow, KnowsRow}
use Rattle.log_node.specs.declared.marks.Mark.TheVariants.{Number, Fenced}
use Rattle.log_node.specs.declared.marks.Why.TheVariants.{StampEnd}
use Rattle.log_node.specs.declared.node.Node.{Node}
use Rattle.log_node.specs.Sets.{has}
use Rattle.chain_store.specs.Proposals.{HasProposal}
use Rattle.chain_store.proofs.region.Region.propose.Given.{Over}
use Rattle.chain_store.proofs.region.Region.propose.Goals as goal

pub propose_in-proposed-requires-clause-cell : goal.propose_in-proposed-requires-clause-cell
propose_in-proposed-requires-clause-cell g c =
    beside c.args.self.now c.args.colour c.column.result.now c.column.ensures

pub propose_in-proposed-requires-clause-pass : goal.propose_in-proposed-requires-clause-pass
propose_in-proposed-requires-clause-pass g c =
    holder c.args.self.now c.args.hold.now c.args.colour c.column.result.now c.index_mut-pass.result.now c.requires.hold
    c.requires.colour c.column.ensures c.index_mut-pass.ensures.value

pub propose_in-proposed-requires-clause-seat : goal.propose_in-proposed-requires-clause-seat
propose_in-proposed-requires-clause-seat g c =
    c.requires.hold.seat

pub propose_in-proposed-requires-clause-client : goal.propose_in-proposed-requires-clause-client
propose_in-proposed-requires-clause-client g c =
    (client_few c.args.self.now c.args.hold.now c.requires.hold).1

pub propose_in-proposed-requires-clause-begun : goal.propose_in-proposed-requires-clause-begun
propose_in-proposed-requires-clause-begun g c =
    subst (λ (t : Tag). KnowsRow c.args.self.now.board.size t.region (seat_seen c.args.hold.now.seat) c.args.begun.now)
    (sym c.column.ensures.tagged) c.requires.begun.knows

pub propose_in-proposed-requires-clause-colour : goal.propose_in-proposed-requires-clause-colour
propose_in-proposed-requires-clause-colour g c =
    subst (λ (t : Tag). has c.args.begun.now.colours t.colour ≡ true) (sym c.column.ensures.tagged) c.requires.coloured

abbrev turn : (g : Over) (c : goal.After-behind g) → TurnOf c.args.self.now c.args.hold.now c.args.colour
    c.column.result.now
    c.index_mut-pass.result.now c.propose_in-proposed.new.pass
turn g c = record {
  hold = c.requires.hold;
  inside = c.requires.colour;
  column = c.column.ensures;
  pass = c.index_mut-pass.ensures.value;
}

pub returns-clause-hold : goal.returns-clause-hold
returns-clause-hold g c =
    told_hold (turn g c) c.propose_in-proposed.new.seat c.behind.new.desks
    c.propose_in-proposed.ensures.pass c.propose_in-proposed.ensures.seat c.behind.ensures
    (proposed c.args.hold.now.passes.number c.args.hold.now.seat.used c.args.hold.now.next c.requires.hold.owns.nodes
    c.args.begun.now (seen c.index_mut-pass.result.now) (seen c.propose_in-proposed.new.pass)
    (own_row c.args.self.now c.args.hold.now c.args.begun.now c.requires.hold c.requires.begun
    c.propose_in-proposed.ensures.one_node)
    c.args.self.now.board.size (tag_in c.column.result.now).region (tag_in c.column.result.now).colour (seat_seen
    c.propose_in-proposed.new.seat)
    c.propose_in-proposed.result.mark c.propose_in-proposed.result.at c.propose_in-proposed.ensures.at)

pub returns-clause-others : goal.returns-clause-others
returns-clause-others g c =
    told_but (turn g c) c.propose_in-proposed.new.seat c.behind.new.desks

pub returns-clause-known : goal.returns-clause-known
returns-clause-known g c =
    of_told (turn g c) c.propose_in-proposed.new.seat c.behind.new.desks
    (λ (t : Tag) (old new : List Told). KnowsMark (seat_seen c.propose_in-proposed.new.seat) c.args.begun.now.row
    t.colour
    c.propose_in-proposed.result.mark)
    c.propose_in-proposed.ensures.known

pub returns-clause-agrees : goal.returns-clause-agrees
returns-clause-agrees g c =
    of_told (turn g c) c.propose_in-proposed.new.seat c.behind.new.desks
    (λ (t : Tag) (old new : List Told). stamps_of c.args.begun.now.row new ≡ numbers c.propose_in-proposed.result.mark)
    c.propose_in-proposed.ensures.agrees

pub returns-clause-at : goal.returns-clause-at
returns-clause-at g c =
    of_told (turn g c) c.propose_in-proposed.new.seat c.behind.new.desks
    (λ (t : Tag) (old new : List Told). MatchAt c.propose_in-proposed.result.at
    (λ place. (x : Node) × (s : ℕ) × IsBegunRow c.args.self.now.board.size t.region (seat_seen
    c.propose_in-proposed.new.seat)
    c.args.begun.now x × (c.propose_in-proposed.result.mark ≡ Number s)
    × MakesOne c.args.hold.now.passes.number (told_propose t.colour c.args.hold.now.passes.number x s) old new
    c.propose_in-proposed.result.at)
    (λ events. LooksAt c.args.hold.now.passes.number old new c.propose_in-proposed.result.at))
    (look_answers c.args.hold.now.passes.number (seen c.index_mut-pass.result.now) (seen
    c.propose_in-proposed.new.pass) _
    c.propose_in-proposed.result.at c.propose_in-proposed.ensures.at)

pub returns-clause-ended : goal.returns-clause-ended
returns-clause-ended g c =
    of_told (turn g c) c.propose_in-proposed.new.seat c.behind.new.desks
    (λ (t : Tag) (old new : List Told). c.propose_in-proposed.result.mark ≡ Fenced StampEnd → (x : Node) × IsBegunRow
    c.args.self.now.board.size t.region (seat_seen c.propose_in-proposed.new.seat) c.args.begun.now x
    × IsAtEnd (entries_in new) x.floor)
    c.propose_in-proposed.ensures.ended

pub returns-clause-entered : goal.returns-clause-entered
returns-clause-entered g c =
    of_told (turn g c) c.propose_in-proposed.new.seat c.behind.new.desks
    (λ (t : Tag) (old new : List Told). (n : ℕ) → c.propose_in-proposed.result.mark ≡ Number n → HasProposal
    c.args.self.now.board.size t.region t.colour (seat_seen c.propose_in-proposed.new.seat) c.args.begun.now new n)
    c.propose_in-proposed.ensures.entered
