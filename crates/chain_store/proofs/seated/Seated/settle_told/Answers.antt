use Rattle.std.proofs.Common.{◌≡◌, true, ap, sym, subst, ◌∙◌}
use Rattle.log_node.specs.Sets.{has}
use Rattle.log_node.specs.Standings.{open_entry}
use Rattle.skeen_core.specs.Queues.{has_open}
use Rattle.col_core.specs.History.{entries}
use Rattle.column.specs.Columns.{ColumnState}
use Rattle.stamp_board.specs.Seats.{seen, column_seen}
use Rattle.stamp_board.proofs.CallerLemmas.{outcome_learnt}
use Rattle.chain_store.specs.Columns.{told_settle}
use Rattle.chain_store.specs.Rows.{IsBegunRow}
use Rattle.col_core.specs.Ids.{IsFinal}
use Rattle.chain_store.proofs.Begun.{begun_later}
use Rattle.chain_store.proofs.Heard.{gains_between}
use Rattle.chain_store.proofs.seated.Seated.settle_told.Goals as goal

pub settle-requires-clause-board : goal.settle-requires-clause-board
settle-requires-clause-board c =
    let q = c.requires.seats.0 in
    let l = c.learn.ensures.later in
    (l.board ∙ q.0, l.grows.size ∙ q.1)

pub settle-requires-clause-begun : goal.settle-requires-clause-begun
settle-requires-clause-begun c =
    let q = c.requires.seats in
    let l = c.learn.ensures in
    let k = c.args.board.now.size in
    let b = c.args.begun.now in
    let v = column_seen c.learn.new.self.seat in
    let x = c.requires.begun.0 in (
      x,
      subst (λ (d : ColumnState). IsBegunRow k d.region v b x) (sym l.column)
          (begun_later k c.args.self.now.column.region b (seen c.args.seat.now) v
          (l.later.grows.size ∙ q.0.1 ∙ sym q.1.1) l.learns x c.requires.begun.1),
    )

pub settle-requires-clause-colour : goal.settle-requires-clause-colour
settle-requires-clause-colour c =
    subst (λ (d : ColumnState). has c.args.begun.now.colours d.colour ≡ true) (sym c.learn.ensures.column)
    c.requires.colour

pub settle-requires-clause-outcome : goal.settle-requires-clause-outcome
settle-requires-clause-outcome c =
    let q = c.requires.seats in
    let l = c.learn.ensures in (
      c.requires.outcome.0,
      outcome_learnt (seen c.args.seat.now) (column_seen c.learn.new.self.seat) c.args.begun.now.row
          (l.later.grows.size ∙ q.0.1 ∙ sym q.1.1) l.learns c.args.outcome c.requires.outcome.1,
    )

pub settle-requires-clause-stands : goal.settle-requires-clause-stands
settle-requires-clause-stands c = (c.requires.stands.0, c.learn.ensures.stays c.requires.stands.0 c.requires.stands.1)

pub returns-clause-event : goal.returns-clause-event
returns-clause-event c = λ shown.
    let l = c.learn.ensures in
    let e = c.teach.ensures in
    gains_between c.args.self.now c.learn.new.self c.settle.new.self c.teach.new.self
    (told_settle c.args.by c.args.begun.now.id c.args.outcome) l.stays
    (c.settle.ensures.event
    (ap (λ (d : ColumnState). has_open c.args.begun.now.id (entries d.journal)) l.column ∙ shown)) e.column e.stays

pub returns-clause-look : goal.returns-clause-look
returns-clause-look c = λ off log st.
    let l = c.learn.ensures in
    c.teach.ensures.stays log
    (c.settle.ensures.look (ap (λ (d : ColumnState). has_open c.args.begun.now.id (entries d.journal)) l.column ∙ off) log
    (l.stays log st))

pub returns-clause-closed : goal.returns-clause-closed
returns-clause-closed c =
    ap (λ (d : ColumnState). open_entry c.args.begun.now.id (entries d.journal)) c.teach.ensures.column
    ∙ c.settle.ensures.closed

pub returns-clause-stands : goal.returns-clause-stands
returns-clause-stands c = λ f final.
    subst (λ (d : ColumnState). IsFinal d.journal c.args.begun.now.id f) (sym c.teach.ensures.column)
    (c.settle.ensures.stands f final)
