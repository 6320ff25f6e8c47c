use Rattle.stamp_board.specs.Seats.{seen, column_seen}
use Rattle.chain_store.proofs.Heard.{learns_told}
use Rattle.chain_store.proofs.Proposals.{stays_later, same_tag}
use Rattle.chain_store.proofs.seated.Seated.learn.Goals as goal

pub returns-clause-tag : goal.returns-clause-tag
returns-clause-tag c =
    let s = c.args.self.now in
    same_tag s.column.region s.column.colour s.column.regions s.seat c.learn.new.seat c.learn.ensures.seat

pub returns-clause-stays : goal.returns-clause-stays
returns-clause-stays c = λ log h.
    stays_later c.args.self.now c.learn.new.seat log c.learn.ensures.seat c.learn.ensures.none h

pub returns-clause-learns : goal.returns-clause-learns
returns-clause-learns c =
    learns_told (seen c.args.seat.now) (column_seen c.learn.new.seat) (seen c.tell-note.result) c.tell-note.ensures.note.1
    c.learn.ensures.learns
