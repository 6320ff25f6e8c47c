use Rattle.std.proofs.Common.{◌∙◌, ap, sym, arith}
use Rattle.log_node.specs.declared.ids.Row.{Row}
use Rattle.log_node.specs.declared.node.Node.{Node}
use Rattle.log_node.specs.declared.node.Shape.{Shape}
use Rattle.world_laws.specs.Laws.{IsBounded}
use Rattle.world_laws.proofs.CallerLemmas.{of_reached}
use Rattle.world_code.specs.WorldView.{world_of}
use Rattle.script_in_order.proofs.RowsShown.{rows_all, not_begun, begun_below, rows_more, shown_as, node_of_row}
use Rattle.script_in_order.proofs.RowsShown.{colours_within}
use Rattle.script_in_order.proofs.rows.push_client_rows.Goals as goal

pub returns-in_default : goal.returns-in_default
returns-in_default c =
    let row : Row = record { client = c.args.client; number = c.loop-number.number } in
    rows_all (world_of c.args.world.now) c.args.region c.args.client c.loop-number.number c.args.reports.now
    c.loop-number.reports c.loop-number.invariant.few
    (not_begun (world_of c.args.world.now) row (c.row_node.ensures.none c.in_default.is)) c.loop-number.invariant.rows

pub marks_of-requires-clause-colours : goal.marks_of-requires-clause-colours
marks_of-requires-clause-colours c =
    let row : Row = record { client = c.args.client; number = c.loop-number.number } in
    ap (λ (n : Node). n.colours) (c.deref-in-loop-number.ensures
    ∙ sym (node_of_row c.args.world.now row c.in-Some.node.now.value c.in-Some.ensures.some.1))

pub marks_of-requires-clause-within : goal.marks_of-requires-clause-within
marks_of-requires-clause-within c =
    colours_within c.args.world.now c.args.client c.loop-number.number c.in-Some.node.now.value
    c.deref-in-loop-number.result.now.colours c.is_whole.ensures c.in-Some.ensures.some.1
    (ap (λ (n : Node). n.colours) c.deref-in-loop-number.ensures)

pub loop-number-preserved : goal.loop-number-preserved
loop-number-preserved c =
    let w = world_of c.args.world.now in
    let row : Row = record { client = c.args.client; number = c.loop-number.number } in
    let begun = begun_below w row c.in-Some.ensures.some.0 in
    let node_is = node_of_row c.args.world.now row c.in-Some.node.now.value c.in-Some.ensures.some.1 in
    record {
      few = omega (arith, begun);
      rows = rows_more w c.args.region c.args.client c.loop-number.number c.args.reports.now c.loop-number.reports
          c.push.new.self _ c.loop-number.invariant.rows c.in_ok-push.ensures.ok
          (shown_as w c.args.region row _ c.in_ok-marks_of.field-0 c.last.result
          (ap (λ (n : Node). n.id) (c.deref.ensures ∙ sym node_is)) c.in_ok-marks_of.ensures c.last.ensures);
    }

pub returns : goal.returns
returns c =
    let bound = (of_reached IsBounded c.is_lawful.ensures.bounds (world_of c.args.world.now)
    c.is_whole.ensures.reached).used c.args.client in
    rows_all (world_of c.args.world.now) c.args.region c.args.client c.loop-number.number c.args.reports.now
    c.loop-number.reports c.loop-number.invariant.few
    (omega (arith, bound, c.loop-number-test.false, ap (λ (s : Shape). s.rows) c.shape.ensures))
    c.loop-number.invariant.rows
