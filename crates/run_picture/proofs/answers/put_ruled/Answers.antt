use Rattle.report_text.proofs.CallerLemmas.{adds_then}
use Rattle.run_picture.proofs.answers.put_ruled.Goals as goal

pub returns : goal.returns
returns g c =
    adds_then _ _ _ _ _ c.put_id.ensures c.put_verdict.ensures
