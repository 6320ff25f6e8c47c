use Rattle.report_text.proofs.CallerLemmas.{adds_then}
use Rattle.run_picture.proofs.answers.put_based.Goals as goal

pub returns : goal.returns
returns g c =
    adds_then _ _ _ _ _ c.put_all.ensures (rw c.as_slice.ensures at c.put_base.ensures)
