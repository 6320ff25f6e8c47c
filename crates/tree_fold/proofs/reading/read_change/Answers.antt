use Rattle.tree_fold.proofs.ChangeLaws.{reads_ok}
use Rattle.tree_fold.proofs.reading.read_change.Goals as goal

pub returns-clause-reading : goal.returns-clause-reading
returns-clause-reading c = rw (← c.as_bytes.ensures) (reads_ok c.as_bytes.result.now c.change_in.result c.change_in.ensures)
