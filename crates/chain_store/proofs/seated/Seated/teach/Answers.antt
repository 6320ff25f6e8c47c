use Rattle.std.proofs.Common.{◌≡◌, sym, subst}
use Rattle.log_node.specs.declared.ids.Row.{Row}
use Rattle.log_node.specs.declared.node.Node.{Node}
use Rattle.stamp_board.specs.declared.view.View.{View}
use Rattle.stamp_board.specs.Views.{KnowsBegun, told}
use Rattle.stamp_board.specs.Seats.{seen, column_seen}
use Rattle.chain_store.proofs.Heard.{learns_told, agree_told, same_marks}
use Rattle.chain_store.proofs.Proposals.{stays_later, same_tag}
use Rattle.chain_store.proofs.seated.Seated.teach.Goals as goal

pub returns-clause-tag : goal.returns-clause-tag
returns-clause-tag c =
    let s = c.args.self.now in
    same_tag s.column.region s.column.colour s.column.regions s.seat c.note-note.new.seat c.note-note.ensures.seat

pub returns-clause-stays : goal.returns-clause-stays
returns-clause-stays c = λ log h.
    let s = c.args.self.now in
    let t = c.note-note.new.seat in
    stays_later s t log c.note-note.ensures.seat (same_marks s.seat t c.note-note.ensures.same c.note-note.ensures.seat.colour) h

pub returns-clause-learns : goal.returns-clause-learns
returns-clause-learns c =
    learns_told (column_seen c.args.self.now.seat) (seen c.hear.new.seat) (seen c.note-note.result) c.note-note.ensures.note.1
    c.hear.ensures.learns

pub returns-clause-agree : goal.returns-clause-agree
returns-clause-agree c =
    agree_told (seen c.args.seat.now) (column_seen c.args.self.now.seat) (seen c.note-note.result) c.note-note.ensures.note.1
    c.hear.ensures.agree

-- a row that is known is known to the note
in_note : (v u : View) (row : Row) (x : Node) → u ≡ told v → KnowsBegun v row x → KnowsBegun u row x
in_note v u row x is h = subst (λ (z : View). KnowsBegun z row x) (sym is) (there h) where
  there : KnowsBegun v row x → KnowsBegun (told v) row x
  there k = k

pub returns-clause-own : goal.returns-clause-own
returns-clause-own c = λ mine j x few known.
    c.hear.ensures.own mine j x few
    (in_note (column_seen c.args.self.now.seat) (seen c.note-note.result)
    (record { client = c.args.seat.now.client; number = j }) x c.note-note.ensures.note.1 known)
