use Rattle.report_text.proofs.CallerLemmas.{adds_then}
use Rattle.run_picture.proofs.svg.put_parts.Goals as goal

pub returns : goal.returns
returns g c =
    adds_then _ _ _ _ _ (adds_then _ _ _ _ _ (adds_then _ _ _ _ _ (adds_then _ _ _ _ _ (adds_then _ _ _ _ _ (adds_then _ _ _ _ _ c.put_head.ensures c.put_stamps.ensures) (rw c.as_slice.ensures at c.put_columns.ensures)) c.put_links.ensures) c.put_boxes.ensures) c.put_bottom.ensures) c.put_all.ensures
