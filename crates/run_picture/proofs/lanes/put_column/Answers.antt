use Rattle.report_text.proofs.CallerLemmas.{adds_then}
use Rattle.run_picture.proofs.lanes.put_column.Goals as goal

pub returns : goal.returns
returns g c =
    adds_then _ _ _ _ _ (adds_then _ _ _ _ _ c.put_lane_start.ensures c.put_hidden.ensures) (rw c.as_slice.ensures at c.put_holdings.ensures)
