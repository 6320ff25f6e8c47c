use Rattle.std.proofs.Common.{◌<◌, ◌+◌, length, subst, sym, take, drop, set, get_or, List, refl}
use Rattle.std.proofs.lemmas.List.{take_all}
use Rattle.report_text.specs.declared.report.RowReport.{RowReport}
use Rattle.walk_law.specs.RowsBeside.{AreCounted, AreInOrder}
use Rattle.walk_law.proofs.OrderLemmas.{counted_all, counted_more, counted_none, miscounted, split_row}
use Rattle.walk_law.proofs.TableLemmas.{next_row}
use Rattle.walk_law.proofs.rows.are_counted.Goals as goal

pub loop-row-init : goal.loop-row-init
loop-row-init c = counted_none (length c.args.counts.now) c.args.counts.now c.requires.none

pub loop-row-preserved : goal.loop-row-preserved
loop-row-preserved c =
    let r = c.row-item.result in
    let rows = c.args.rows.now in
    let i = c.loop-row.row-index in
    let lt = subst (λ (x : RowReport). x.row.client < length c.args.counts.now) (sym c.row-item.is) (c.requires.clients i r c.loop-row-test.true) in
    subst (λ (l : List RowReport). AreCounted (length c.args.counts.now) l
    (set c.loop-row.counts r.row.client (get_or c.loop-row.counts r.row.client 0 + 1))) (sym (next_row rows i r c.loop-row-test.true c.row-item.is))
    (counted_more (length c.args.counts.now) (take i rows) c.loop-row.counts r c.loop-row.invariant lt
    (get_or c.loop-row.counts r.row.client 0) refl c.if-row-count.false)

pub returns-then-row-count : goal.returns-then-row-count
returns-then-row-count c = λ ordered.
    let r = c.row-item.result in
    let rows = c.args.rows.now in
    let i = c.loop-row.row-index in
    let lt = subst (λ (x : RowReport). x.row.client < length c.args.counts.now) (sym c.row-item.is) (c.requires.clients i r c.loop-row-test.true) in
    miscounted (length c.args.counts.now) (take i rows) c.loop-row.counts r c.loop-row.invariant lt (drop (i + 1) rows)
    (get_or c.loop-row.counts r.row.client 0) refl c.if-row-count.true
    (subst AreInOrder (split_row rows i r c.loop-row-test.true c.row-item.is) ordered)

pub returns : goal.returns
returns c =
    counted_all (length c.args.counts.now) c.args.rows.now c.loop-row.counts c.requires.clients
    (subst (λ (l : List RowReport). AreCounted (length c.args.counts.now) l c.loop-row.counts)
    (take_all c.loop-row.row-index c.args.rows.now c.loop-row-test.false) c.loop-row.invariant)
