use Rattle.report_text.proofs.CallerLemmas.{adds_then}
use Rattle.run_picture.proofs.timeline.put_parts.Goals as goal

pub returns : goal.returns
returns g c =
    adds_then _ _ _ _ _ (adds_then _ _ _ _ _ (adds_then _ _ _ _ _ (adds_then _ _ _ _ _ (adds_then _ _ _ _ _ c.put_head.ensures c.put_lines.ensures) c.put_clients.ensures) c.put_arrows.ensures) c.put_points.ensures) c.put_tail.ensures
