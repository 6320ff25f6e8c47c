use Rattle.report_text.proofs.Outputs.{adds_then}
use Rattle.report_text.proofs.Places.{places_more}
use Rattle.report_text.specs.Columns.{journal_line}
use Rattle.report_text.proofs.columns.print_journal.Goals as goal

pub loop-place-preserved : goal.loop-place-preserved
loop-place-preserved g c =
    rw (places_more (journal_line c.args.names.now) c.args.journal.now c.loop-place.place c.index-journal-place.result c.loop-place-test.true c.index-journal-place.is)
    (adds_then _ _ _ _ _ c.loop-place.invariant c.print_entry.ensures)
