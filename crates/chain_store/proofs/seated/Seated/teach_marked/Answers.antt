use Rattle.std.proofs.Common.{◌≡◌, ℕ, sym, subst, ◌∙◌}
use Rattle.log_node.specs.declared.marks.Mark.{Mark}
use Rattle.stamp_board.specs.declared.view.View.{View}
use Rattle.stamp_board.specs.Views.{KnowsMark}
use Rattle.stamp_board.specs.Seats.{column_seen, set_mark}
use Rattle.stamp_board.proofs.CallerLemmas.{Learns-from, begun_learnt}
use Rattle.chain_store.proofs.Heard.{same_marks}
use Rattle.chain_store.proofs.Proposals.{stays_later}
use Rattle.chain_store.proofs.seated.Seated.teach_marked.Goals as goal

pub returns-clause-stays : goal.returns-clause-stays
returns-clause-stays c = λ log h.
    c.teach.ensures.stays log
    (stays_later c.args.self.now c.look.new.seat log c.look.ensures.seat c.look.ensures.none h)

pub returns-clause-own : goal.returns-clause-own
returns-clause-own c = λ mine j x few known.
    let v = column_seen c.args.self.now.seat in
    let w = column_seen c.look.new.seat in
    let g = c.look.ensures.seat.grows in
    c.teach.ensures.own mine j x few
    (begun_learnt v w (record { client = c.args.seat.now.client; number = j }) g.size (Learns-from v w g) x known)

pub returns-clause-mark : goal.returns-clause-mark
returns-clause-mark c = λ ne.
    let s = c.args.self.now in
    let t = c.look.new.seat in
    let u = c.teach.new.self.seat in
    let row = c.args.row in
    let later = c.teach.ensures.later in
    let is : set_mark u row ≡ c.look.result =
    same_marks t u later.1 later.0.colour row ∙ c.look.ensures.none row ∙ sym c.look.ensures.mark in
    let known = c.look.ensures.known (λ none. ne (is ∙ none)) in
    subst (λ (v : View). KnowsMark v row s.column.colour (set_mark u row)) (sym later.1)
    (subst (λ (m : Mark). KnowsMark (column_seen t) row s.column.colour m) (sym is)
    (subst (λ (k : ℕ). KnowsMark (column_seen t) row k c.look.result) s.same known))
