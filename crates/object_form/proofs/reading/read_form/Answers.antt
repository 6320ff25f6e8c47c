use Rattle.object_form.proofs.FormLaws.{reads_ok}
use Rattle.object_form.proofs.reading.read_form.Goals as goal

pub returns-clause-reading : goal.returns-clause-reading
returns-clause-reading c = rw (← c.as_bytes.ensures) (reads_ok c.as_bytes.result.now c.form_in.result c.form_in.ensures)
