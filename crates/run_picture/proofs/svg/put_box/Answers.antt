use Rattle.report_text.proofs.CallerLemmas.{adds_then}
use Rattle.run_picture.proofs.svg.put_box.Goals as goal

pub returns : goal.returns
returns g c =
    adds_then _ _ _ _ _ (adds_then _ _ _ _ _ c.put_box_start.ensures c.put_said.ensures) c.put_helper.ensures
