use Rattle.std.proofs.Common.{◌≡◌, List, inl, ap, length}
use Rattle.std.specs.List.{filter, find}
use Rattle.col_core.specs.History.{entries}
use Rattle.chain_store.specs.declared.told.Tag.{Tag}
use Rattle.chain_store.specs.declared.told.Told.{Told}
use Rattle.chain_store.specs.Histories.{entries_in}
use Rattle.std.specs.Prelude.{IfSome}
use Rattle.stamp_board.specs.Seats.{seen as seat_seen}
use Rattle.chain_store.specs.Holds.{view_of}
use Rattle.chain_store.specs.Moves.{LooksAt}
use Rattle.chain_store.specs.Proposals.{IsMarkedOpen}
use Rattle.chain_store.proofs.Holding.{holder}
use Rattle.chain_store.proofs.ByColour.{TurnOf, knows_first, told_but, of_told, told_hold, beside}
use Rattle.log_node.specs.declared.node.At.TheVariants.{Look}
use Rattle.std.specs.Option.{option_map}
use Rattle.column.specs.Columns.{is_open_below}
use Rattle.log_node.specs.Seen.{BegunAppend}
use Rattle.log_node.specs.Standings.{Standing}
use Rattle.chain_store.proofs.region.Region.below.Given.{Over}
use Rattle.chain_store.proofs.region.Region.below.Goals as goal

pub below_in-requires-clause-cell : goal.below_in-requires-clause-cell
below_in-requires-clause-cell g c =
    beside c.args.self.now c.args.colour c.column.result.now c.column.ensures

pub below_in-requires-clause-pass : goal.below_in-requires-clause-pass
below_in-requires-clause-pass g c =
    holder c.args.self.now c.args.hold.now c.args.colour c.column.result.now c.index_mut-pass.result.now c.requires.hold
    c.requires.colour c.column.ensures c.index_mut-pass.ensures.value

pub below_in-requires-clause-seat : goal.below_in-requires-clause-seat
below_in-requires-clause-seat g c =
    c.requires.hold.seat

abbrev turn : (g : Over) (c : goal.After-hold-1 g) → TurnOf c.args.self.now c.args.hold.now c.args.colour
    c.column.result.now
    c.index_mut-pass.result.now c.below_in.new.pass
turn g c = record {
  hold = c.requires.hold;
  inside = c.requires.colour;
  column = c.column.ensures;
  pass = c.index_mut-pass.ensures.value;
}

pub returns-clause-hold : goal.returns-clause-hold
returns-clause-hold g c =
    told_hold (turn g c) c.below_in.new.seat c.args.hold.now.desks
    c.below_in.ensures.pass c.below_in.ensures.seat c.requires.hold.desks
    (inl c.below_in.ensures.look.0)

pub returns-clause-others : goal.returns-clause-others
returns-clause-others g c =
    told_but (turn g c) c.below_in.new.seat c.args.hold.now.desks

pub returns-clause-look : goal.returns-clause-look
returns-clause-look g c =
    of_told (turn g c) c.below_in.new.seat c.args.hold.now.desks
    (λ (t : Tag) (old new : List Told). LooksAt c.args.hold.now.passes.number old new (Look c.below_in.result.events))
    (c.below_in.ensures.look.0, ap Look c.below_in.ensures.look.1)

pub returns-clause-count : goal.returns-clause-count
returns-clause-count g c =
    of_told (turn g c) c.below_in.new.seat c.args.hold.now.desks
    (λ (t : Tag) (old new : List Told). c.below_in.result.count ≡ length (filter (is_open_below c.args.key) (entries
    (entries_in new))))
    c.below_in.ensures.count

pub returns-clause-first_id : goal.returns-clause-first_id
returns-clause-first_id g c =
    of_told (turn g c) c.below_in.new.seat c.args.hold.now.desks
    (λ (t : Tag) (old new : List Told). option_map (λ (b : BegunAppend). b.id) c.below_in.result.first
    ≡ option_map (λ (e : Standing). e.key.id) (find (is_open_below c.args.key) (entries (entries_in new))))
    c.below_in.ensures.first_id

pub returns-clause-known : goal.returns-clause-known
returns-clause-known g c =
    knows_first c.args.self.now c.args.hold.now c.args.colour c.column.result.now c.below_in.new.pass
    c.below_in.new.seat c.args.hold.now.desks c.requires.hold c.column.ensures
    c.below_in.ensures.seat c.below_in.result.first c.below_in.ensures.known c.below_in.ensures.own

pub returns-clause-marked : goal.returns-clause-marked
returns-clause-marked g c =
    let r = c.args.self.now in
    let h = c.args.hold.now in
    of_told (turn g c) c.below_in.new.seat c.args.hold.now.desks
    (λ (t : Tag) (old new : List Told). IfSome c.below_in.result.first
    (IsMarkedOpen r.board.size t.colour (view_of h) (seat_seen c.below_in.new.seat) new))
    c.below_in.ensures.marked
