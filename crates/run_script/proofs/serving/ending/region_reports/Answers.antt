use Rattle.std.proofs.Common.{◌∙◌, ap, sym, subst, arith, List, ◌++◌, length, map}
use Rattle.std.specs.List.{All, flat_map, enumerate_from}
use Rattle.std.proofs.lemmas.List.{length_push, map-id}
use Rattle.std.proofs.lemmas.Iterator.Adapters.{YieldsList-from_vec}
use Rattle.std.proofs.lemmas.Iterator.Consumers.{YieldsList-end}
use Rattle.chain_store.specs.declared.closed.ClosedRegion.{ClosedRegion}
use Rattle.column.specs.Columns.{ColumnState}
use Rattle.report_text.specs.declared.report.RowReport.{RowReport}
use Rattle.closing_report.specs.Columns.{HasNames, column_shown}
use Rattle.run_script.specs.EndReports.{nodes_in, row_shown, rows_shown}
use Rattle.run_script.proofs.ByPlace.{all_flat, map_flat}
use Rattle.run_script.proofs.EndsShown.{flat_more, numbered_more, rows_at}
use Rattle.run_script.proofs.serving.ending.region_reports.Goals as goal

pub loop-end-preserved : goal.loop-end-preserved
loop-end-preserved g c =
    let yielded = c.loop-end.yielded in
    let end = c.in-Some.end in
    let nodes = nodes_in c.args.nodes.now in
    let was = c.loop-end.invariant in
    let long = length_push yielded end in
    let place = was.place in
    record {
      place = omega (arith, place, long);
      rows_are = c.in_ok-push_rows.ensures
          ∙ (ap (λ (l : List RowReport). l ++ map (row_shown nodes c.loop-end.region) end.rows) was.rows_are
          ∙ (ap (λ (l : List RowReport). flat_map (rows_shown nodes) (enumerate_from 0 yielded) ++ l)
          (rows_at nodes c.loop-end.region (length yielded) end place)
          ∙ sym (numbered_more (rows_shown nodes) yielded end)));
      columns_are = c.in_ok-append.ensures.items
          ∙ (ap (λ (l : List ColumnState). l ++ c.into_vec.result.items) was.columns_are
          ∙ (ap (λ (l : List ColumnState). flat_map (λ (e : ClosedRegion). e.columns) yielded ++ l) c.into_vec.ensures
          ∙ sym (flat_more (λ (e : ClosedRegion). e.columns) yielded end)));
    }

pub columns_beside-requires-after_bounds : goal.columns_beside-requires-after_bounds
columns_beside-requires-after_bounds g c κs within =
    let items = c.args.ends in
    let yielded = c.loop-end.yielded in
    let gives = c.into_iter-end-iterator.ensures.into_iter_gives in
    let all = YieldsList-from_vec {s = c.into_iter-end-iterator.result} items.items gives.0 (gives.1 ∙ items.ok.0) in
    let end = YieldsList-end all yielded _ c.loop-end.yielded_by _ c.next.new.self c.in-None.is c.next.ensures.steps in
    let named = HasNames c.args.regions.now c.args.colours.now in
    subst (All named) (sym (c.loop-end.invariant.columns_are
    ∙ ap (flat_map (λ (e : ClosedRegion). e.columns)) (sym (map-id yielded) ∙ end.0)))
    (all_flat named (λ (e : ClosedRegion). e.columns) items.items c.requires.columns)

pub returns-clause-columns : goal.returns-clause-columns
returns-clause-columns g c =
    let items = c.args.ends in
    let yielded = c.loop-end.yielded in
    let gives = c.into_iter-end-iterator.ensures.into_iter_gives in
    let all = YieldsList-from_vec {s = c.into_iter-end-iterator.result} items.items gives.0 (gives.1 ∙ items.ok.0) in
    let end = YieldsList-end all yielded _ c.loop-end.yielded_by _ c.next.new.self c.in-None.is c.next.ensures.steps in
    let shown = column_shown c.args.regions.now c.args.colours.now in
    c.in_ok-columns.ensures
    ∙ (ap (map shown) (c.loop-end.invariant.columns_are
    ∙ ap (flat_map (λ (e : ClosedRegion). e.columns)) (sym (map-id yielded) ∙ end.0))
    ∙ map_flat shown (λ (e : ClosedRegion). e.columns) items.items)
