use Rattle.std.proofs.Common.{◌∙◌, ap, ℕ, List, map}
use Rattle.std.specs.List.{enumerate_from}
use Rattle.column.specs.Columns.{ColumnState}
use Rattle.script_in_order.specs.Runs.{RunView}
use Rattle.script_in_order.specs.Reports.{client_shown, columns_shown}
use Rattle.script_in_order.proofs.ColumnsShown.{report_is}
use Rattle.script_in_order.proofs.reports.report.Goals as goal

pub returns : goal.returns
returns c =
    let script = c.args.script.now in
    let code : RunView = record { world = c.args.world; replies = c.args.replies.items } in
    report_is script code c.in_ok-client_reports.field-0 c.rows.inside.items.items c.in_ok-column_reports.field-0
    c.is_whole.ensures c.requires.shape
    (c.in_ok-client_reports.ensures
    ∙ ap (λ (names : List (List ℕ)). map (client_shown c.args.replies.items) (enumerate_from 0 names)) c.as_list.ensures)
    (c.rows.view_is ∙ c.in_ok-rows.ensures)
    (c.in_ok-column_reports.ensures ∙ ap (λ (l : List (List ColumnState)). columns_shown script l)
    c.into_columns.ensures)
