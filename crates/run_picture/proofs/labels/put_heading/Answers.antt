use Rattle.report_text.proofs.CallerLemmas.{adds_then}
use Rattle.run_picture.proofs.labels.put_heading.Goals as goal

pub returns : goal.returns
returns g c =
    adds_then _ _ _ _ _ c.put_word.ensures c.put_subject.ensures
