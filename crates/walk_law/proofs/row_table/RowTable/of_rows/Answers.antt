use Rattle.std.proofs.Common.{◌∙◌, ap, sym, subst, arith, take, List, Some, cond, ◌≡◌}
use Rattle.std.specs.Prelude.{is_none}
use Rattle.std.proofs.lemmas.List.{length-take-le}
use Rattle.log_node.specs.declared.ids.Id.{Id}
use Rattle.log_node.specs.Order.{same_id}
use Rattle.report_text.specs.declared.report.RowReport.{RowReport}
use Rattle.walk_law.specs.RowsBeside.{AreRowsAt, row_in}
use Rattle.walk_law.proofs.TableLemmas.{next_row, none_at, row_more, row_twice}
use Rattle.walk_law.proofs.row_table.RowTable.of_rows.Goals as goal

pub loop-at-init : goal.loop-at-init
loop-at-init c = none_at c.new-table.result c.new-table.ensures

pub returns-then-not-branch : goal.returns-then-not-branch
returns-then-not-branch c =
    row_twice c.args.rows.now c.loop-at.at c.index-rows-at.result c.loop-at.table c.loop-at-test.true c.index-rows-at.is
    (ap (λ (x : RowReport). is_none (row_in c.loop-at.table x.id)) c.index-rows-at.is
    ∙ (sym c.in_ok-add.ensures.fresh ∙ c.if-not-branch.true)) c.loop-at.invariant

pub loop-at-preserved : goal.loop-at-preserved
loop-at-preserved c =
    let rows = c.args.rows.now in
    let at = c.loop-at.at in
    let r = c.index-rows-at.result in
    let lt = c.loop-at-test.true in
    let long = length-take-le at rows (omega (arith, lt)) in
    subst (λ (l : List RowReport). AreRowsAt l c.add.new.self) (sym (next_row rows at r lt c.index-rows-at.is))
    (row_more (take at rows) r c.loop-at.table c.add.new.self at (sym long)
    (ap (λ (x : RowReport). is_none (row_in c.loop-at.table x.id)) c.index-rows-at.is
    ∙ (sym c.in_ok-add.ensures.fresh ∙ c.if-not-branch.false))
    (subst (λ (x : RowReport). (other : Id) → row_in c.add.new.self other
    ≡ cond (same_id other x.id) (Some at) (row_in c.loop-at.table other)) (sym c.index-rows-at.is) c.in_ok-add.ensures.added)
    c.loop-at.invariant)
