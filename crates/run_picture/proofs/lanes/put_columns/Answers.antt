use Rattle.report_text.proofs.CallerLemmas.{adds_then}
use Rattle.run_picture.specs.Lanes.{column_text}
use Rattle.run_picture.proofs.Enumerated.{items_more}
use Rattle.run_picture.proofs.lanes.put_columns.Goals as goal

pub loop-column-preserved : goal.loop-column-preserved
loop-column-preserved g c =
    rw (items_more (column_text c.args.script.now c.args.report.now c.args.last) c.args.columns.now c.loop-column.column-index c.column-item.result c.loop-column-test.true c.column-item.is)
    (adds_then _ _ _ _ _ c.loop-column.invariant c.put_column.ensures)
