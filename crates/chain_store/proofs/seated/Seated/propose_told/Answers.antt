use Rattle.std.proofs.Common.{◌≡◌, true, Some, ap, sym, subst, ◌∙◌, arith}
use Rattle.log_node.specs.declared.node.Node.{Node}
use Rattle.log_node.specs.Sets.{has}
use Rattle.col_core.specs.History.{IsAtEnd}
use Rattle.column.specs.Columns.{ColumnState}
use Rattle.log_node.specs.declared.marks.Mark.{Mark}
use Rattle.stamp_board.specs.declared.view.Size.{Size}
use Rattle.stamp_board.specs.declared.view.View.{View}
use Rattle.stamp_board.specs.Rows.{IsRow}
use Rattle.stamp_board.specs.Views.{KnowsBegun}
use Rattle.stamp_board.specs.Seats.{seen, column_seen}
use Rattle.stamp_board.proofs.CallerLemmas.{Learns-from, Learns-trans, Grows-trans, begun_learnt}
use Rattle.chain_store.specs.declared.told.Tag.{Tag}
use Rattle.chain_store.specs.declared.told.Told.{Told}
use Rattle.chain_store.specs.Histories.{entries_in}
use Rattle.chain_store.specs.Marks.{numbers}
use Rattle.chain_store.specs.Columns.{Gains, told_propose}
use Rattle.chain_store.specs.Rows.{IsBegunRow}
use Rattle.chain_store.proofs.Begun.{begun_later}
use Rattle.chain_store.proofs.Heard.{gains_between, same_marks}
use Rattle.chain_store.proofs.Places.{contained}
use Rattle.chain_store.proofs.Proposals.{step_after}
use Rattle.chain_store.proofs.Proposers.{proposer, proposal_of}
use Rattle.chain_store.proofs.seated.Seated.propose_told.Goals as goal

pub propose-step-requires-clause-board : goal.propose-step-requires-clause-board
propose-step-requires-clause-board c =
    let q = c.requires.seats.0 in
    let l = c.learn.ensures.later in
    (l.board ∙ q.0, l.grows.size ∙ q.1)

pub propose-step-requires-clause-begun : goal.propose-step-requires-clause-begun
propose-step-requires-clause-begun c =
    let q = c.requires.seats in
    let l = c.learn.ensures in
    let k = c.args.board.now.size in
    let b = c.args.begun.now in
    let v = column_seen c.learn.new.self.seat in
    let x = c.requires.begun.0 in (
      x,
      subst (λ (d : ColumnState). IsBegunRow k d.region v b x) (sym l.column)
          (begun_later k c.args.self.now.column.region b (seen c.args.seat.now) v
          (l.later.grows.size ∙ q.0.1 ∙ sym q.1.1) l.learns x c.requires.begun.1),
    )

pub propose-step-requires-clause-colour : goal.propose-step-requires-clause-colour
propose-step-requires-clause-colour c =
    subst (λ (d : ColumnState). has c.args.begun.now.colours d.colour ≡ true) (sym c.learn.ensures.column)
    c.requires.colour

pub propose-step-requires-clause-maker : goal.propose-step-requires-clause-maker
propose-step-requires-clause-maker c =
    let row = c.requires.begun.1.row.0 in
    let few = c.args.board.now.is_size.few_clients in
    (c.requires.maker, omega (arith, row, few))

pub returns-clause-step : goal.returns-clause-step
returns-clause-step c =
    let s = c.args.self.now in
    let s1 = c.learn.new.self in
    let s2 = c.propose-step.new.self in
    let s3 = c.teach.new.self in
    let k = c.args.board.now.size in
    let b = c.args.begun.now in
    let v1 = column_seen s1.seat in
    let v2 = column_seen s2.seat in
    let u3 = seen c.teach.new.seat in
    let q = c.requires.seats in
    let l = c.learn.ensures in
    let e = c.teach.ensures in
    let sized = e.seat.grows.size ∙ l.seat.0.grows.size ∙ q.1.1 ∙ sym (l.later.grows.size ∙ q.0.1) in
    let learns = Learns-trans v1 v2 u3 (Learns-from v1 v2 c.propose-step.ensures.seat.grows) e.learns in
    step_after c.propose-step.result _ _ _ _
    (λ n h. (
      h.0,
      begun_later k s.column.region b v1 u3 sized learns h.0
          (subst (λ (d : ColumnState). IsBegunRow k d.region v1 b h.0) l.column h.1),
      gains_between s s1 s2 s3 (told_propose s.column.colour c.args.by h.0 n) l.stays
          (subst (λ (d : ColumnState). Gains s1 s2 (told_propose d.colour c.args.by h.0 n)) l.column h.2) e.column e.stays,
    ))
    (λ m h. λ log st. e.stays log (h log (l.stays log st))) c.propose-step.ensures.step

pub returns-clause-ended : goal.returns-clause-ended
returns-clause-ended c = λ log st end.
    let s = c.args.self.now in
    let s2 = c.propose-step.new.self in
    let s3 = c.teach.new.self in
    let k = c.args.board.now.size in
    let b = c.args.begun.now in
    let u0 = seen c.args.seat.now in
    let u1 = seen c.learn.new.seat in
    let u3 = seen c.teach.new.seat in
    let v3 = column_seen s3.seat in
    let q = c.requires.seats in
    let l = c.learn.ensures in
    let e = c.teach.ensures in
    let x = c.requires.begun.0 in
    let h = c.requires.begun.1 in
    let g = Grows-trans u0 u1 u3 l.seat.0.grows e.seat.grows in
    let sized : v3.size ≡ k = e.later.0.grows.size ∙ c.propose-step.ensures.seat.grows.size ∙ l.later.grows.size ∙ q.0.1 in
    let fenced = same_marks s2.seat s3.seat e.later.1 e.later.0.colour b.row ∙ c.propose-step.ensures.mark ∙ end in
    let z = st.1.0.ended b.row (subst (λ (n : Size). IsRow n b.row) (sym sized) h.row) fenced in
    let same = e.agree.node b.row x z.node
    (begun_learnt u0 u1 b.row l.seat.0.grows.size (Learns-from u0 u1 l.seat.0.grows) x h.knows)
    (subst (λ (v : View). KnowsBegun v b.row z.node) e.later.1 z.knows) in (
      x,
      begun_later k s.column.region b u0 u3 g.size (Learns-from u0 u3 g) x h,
      subst (λ (y : Node). IsAtEnd (entries_in log) y.floor) (sym same) z.ends,
    )

pub returns-clause-entered : goal.returns-clause-entered
returns-clause-entered c = λ log st n is.
    let s = c.args.self.now in
    let s2 = c.propose-step.new.self in
    let s3 = c.teach.new.self in
    let k = c.args.board.now.size in
    let b = c.args.begun.now in
    let u0 = seen c.args.seat.now in
    let u1 = seen c.learn.new.seat in
    let u3 = seen c.teach.new.seat in
    let v3 = column_seen s3.seat in
    let q = c.requires.seats in
    let l = c.learn.ensures in
    let e = c.teach.ensures in
    let x = c.requires.begun.0 in
    let h = c.requires.begun.1 in
    let g = Grows-trans u0 u1 u3 l.seat.0.grows e.seat.grows in
    let sized : v3.size ≡ k = e.later.0.grows.size ∙ c.propose-step.ensures.seat.grows.size ∙ l.later.grows.size ∙ q.0.1 in
    let marked = same_marks s2.seat s3.seat e.later.1 e.later.0.colour b.row ∙ c.propose-step.ensures.mark ∙ is in
    let stamps = st.1.0.numbered b.row (subst (λ (z : Size). IsRow z b.row) (sym sized) h.row)
    ∙ ap (λ (m : Mark). numbers m) marked in
    let p = proposer b.row log n stamps in
    let t = p.1 in
    let w = proposal_of v3 s3.column.region s3.column.colour b.row t.entry.by n t.entry.event t.entry.stamp t.nodes p.3
    p.4 (st.0.brings p.0 t p.2) (st.1.0.backs p.0 t p.2) in
    let same : x ≡ w.0 = e.agree.node b.row x w.0
    (begun_learnt u0 u1 b.row l.seat.0.grows.size (Learns-from u0 u1 l.seat.0.grows) x h.knows)
    (subst (λ (v : View). KnowsBegun v b.row w.0) e.later.1 w.1) in
    let colour : s3.column.colour ≡ s.column.colour = ap (λ (d : ColumnState). d.colour) e.column
    ∙ ap (λ (z : Tag). z.colour) c.propose-step.ensures.tag ∙ ap (λ (d : ColumnState). d.colour) l.column in
    let told : t ≡ told_propose s.column.colour t.entry.by x n =
    w.2 ∙ (λ i. told_propose (colour i) t.entry.by (sym same i) n) in (
      t.entry.by,
      x,
      begun_later k s.column.region b u0 u3 g.size (Learns-from u0 u3 g) x h,
      contained log p.0 (told_propose s.column.colour t.entry.by x n) (p.2 ∙ ap (λ (z : Told). Some z) told),
    )
