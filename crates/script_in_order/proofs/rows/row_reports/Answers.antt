use Rattle.std.proofs.Common.{◌∙◌, ap, sym, List, ◌++◌}
use Rattle.world_code.specs.WorldView.{world_of}
use Rattle.report_text.specs.declared.report.RowReport.{RowReport}
use Rattle.script_in_order.specs.Reports.{region_rows_shown}
use Rattle.script_in_order.proofs.ListsShown.{flat_map_range_more}
use Rattle.script_in_order.proofs.rows.row_reports.Goals as goal

pub loop-region-preserved : goal.loop-region-preserved
loop-region-preserved c =
    let f = region_rows_shown (world_of c.args.world.now) in
    c.in_ok-push_region_rows.ensures
    ∙ (ap (λ (l : List RowReport). l ++ f c.loop-region.region) c.loop-region.invariant
    ∙ sym (flat_map_range_more f c.loop-region.region))
