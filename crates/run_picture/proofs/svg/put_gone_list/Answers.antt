use Rattle.report_text.proofs.CallerLemmas.{adds_then}
use Rattle.run_picture.proofs.svg.put_gone_list.Goals as goal

pub returns : goal.returns
returns g c =
    adds_then _ _ _ _ _ (adds_then _ _ _ _ _ c.put_all.ensures (rw c.as_slice.ensures at c.put_gone_rows.ensures)) c.put_all-2.ensures
