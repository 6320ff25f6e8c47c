use Rattle.std.proofs.lemmas.Result.{err_from_is_err_and}
use Rattle.report_reading.proofs.ErrorLemmas.{lacks_columns}
use Rattle.report_reading.proofs.report.behind_clients.Goals as goal

pub returns-in_err-columns : goal.returns-in_err-columns
returns-in_err-columns c =
    let p = err_from_is_err_and c.from_residual-in_err-columns.result c.from_residual-in_err-columns.ensures.1 in
    rw (p.1, p.2) (lacks_columns c.args.setting.now c.args.clients c.args.bytes.now c.in_ok-rows.rows c.in_ok-rows.rest.now c.in_err-columns.field-0.0 c.in_ok-rows.ensures c.in_err-columns.ensures)
