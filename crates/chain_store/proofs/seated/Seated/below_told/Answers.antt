use Rattle.std.proofs.Common.{◌≡◌, ◌≢◌, ℕ, ap, sym, subst, ◌∙◌}
use Rattle.log_node.specs.declared.node.Node.{Node}
use Rattle.log_node.specs.Seen.{BegunAppend}
use Rattle.column.specs.Columns.{ColumnState}
use Rattle.stamp_board.specs.declared.view.View.{View}
use Rattle.stamp_board.specs.Rows.{IsRow}
use Rattle.log_node.specs.declared.marks.Mark.TheVariants as marks
use Rattle.stamp_board.specs.Views.{KnowsBegun, KnowsMark}
use Rattle.stamp_board.specs.Seats.{seen, column_seen, set_mark}
use Rattle.stamp_board.proofs.CallerLemmas.{Learns-from, Learns-trans}
use Rattle.std.proofs.Common.{Option, Some, None}
use Rattle.std.specs.Prelude.{IfSome}
use Rattle.std.specs.List.{find}
use Rattle.skeen_core.specs.Queues.{waiting_entries}
use Rattle.column.specs.Columns.{IsBegunAt, is_waiting_below}
use Rattle.chain_store.specs.Rows.{IsKnownBelow}
use Rattle.chain_store.proofs.Begun.{begun_later}
use Rattle.chain_store.specs.Proposals.{IsMarkedOpen}
use Rattle.chain_store.proofs.Heard.{first_known}
use Rattle.chain_store.proofs.Opened.{first_numbered, marked_first}
use Rattle.chain_store.proofs.seated.Seated.below_told.Goals as goal

some_as : (o : Option BegunAppend) (P Q : BegunAppend → Type 0) → ((b : BegunAppend) → P b → Q b) → IfSome o P → IfSome o Q
some_as None P Q f h = tt
some_as (Some b) P Q f h = f b h

pub teach_first-requires-clause-rows : goal.teach_first-requires-clause-rows
teach_first-requires-clause-rows c =
    let s = c.args.self.now in
    let k = c.args.board.now.size in
    let st = c.requires.stands in
    let first = c.below-below.result.first in
    some_as first (IsKnownBelow k s.column.region s.column.colour (column_seen s.seat)) (λ (b : BegunAppend). IsRow k b.row)
    (λ b h. h.0.1.row)
    (first_known s k c.args.key first c.requires.seats.0.1 c.below-below.ensures.first st.0 st.1)

pub returns-clause-known : goal.returns-clause-known
returns-clause-known c =
    let s = c.args.self.now in
    let k = c.args.board.now.size in
    let q = c.requires.seats in
    let e = c.teach_first.ensures in
    let v = column_seen s.seat in
    let w = column_seen c.teach_first.new.self.seat in
    let u = seen c.teach_first.new.seat in
    let st = c.requires.stands in
    let first = c.below-below.result.first in
    let learns = Learns-trans v w u (Learns-from v w e.later.grows) e.learns in
    some_as first (IsKnownBelow k s.column.region s.column.colour v) (IsKnownBelow k s.column.region s.column.colour u)
    (λ b h. ((h.0.0, begun_later k s.column.region b v u (e.seat.grows.size ∙ q.1.1 ∙ sym q.0.1) learns h.0.0 h.0.1), h.1))
    (first_known s k c.args.key first q.0.1 c.below-below.ensures.first st.0 st.1)

-- the row of an append that is known, named by the client and its number
own_row : (b : BegunAppend) (client : ℕ) (v : View) (x : Node) → b.row.client ≡ client → KnowsBegun v b.row x
    → KnowsBegun v (record { client = client; number = b.row.number }) x
own_row b client v x is h = subst (λ (n : ℕ). KnowsBegun v (record { client = n; number = b.row.number }) x) is h

pub returns-clause-own : goal.returns-clause-own
returns-clause-own c =
    let s = c.args.self.now in
    let k = c.args.board.now.size in
    let q = c.requires.seats in
    let v = column_seen s.seat in
    let st = c.requires.stands in
    let seat = c.args.seat.now in
    let first = c.below-below.result.first in
    some_as first (IsKnownBelow k s.column.region s.column.colour v) _
    (λ b h mine client.
    c.teach_first.ensures.own mine b.row.number h.0.0 h.0.1.row.1 (own_row b seat.client v h.0.0 client h.0.1.knows))
    (first_known s k c.args.key first q.0.1 c.below-below.ensures.first st.0 st.1)

pub returns-clause-marked : goal.returns-clause-marked
returns-clause-marked c = λ log st.
    let s = c.args.self.now in
    let t = c.teach_first.new.self in
    let k = c.args.board.now.size in
    let q = c.requires.seats in
    let e = c.teach_first.ensures in
    let u = seen c.teach_first.new.seat in
    let key = c.args.key in
    let first = c.below-below.result.first in
    let size : (column_seen t.seat).size ≡ k = e.later.grows.size ∙ q.0.1 in
    let colour : t.column.colour ≡ s.column.colour = ap (λ (d : ColumnState). d.colour) e.column in
    let begun = subst (λ (d : ColumnState). IsBegunAt first (find (is_waiting_below key) (waiting_entries d.queue)))
    (sym e.column) c.below-below.ensures.first in
    let shown = subst (λ (n : ℕ). IfSome first (λ (b : BegunAppend). set_mark t.seat b.row ≢ marks.None
    → KnowsMark (column_seen t.seat) b.row n (set_mark t.seat b.row))) (sym colour) e.mark in
    subst (λ (n : ℕ). IfSome first (IsMarkedOpen k n (seen c.args.seat.now) u log)) colour
    (marked_first k t.column.region t.column.colour (seen c.args.seat.now) u t log q.1.1
    (e.seat.grows.size ∙ q.1.1 ∙ sym size) e.learns e.agree first
    (first_known t k key first size begun log st) (first_numbered t key first begun log st) shown)
