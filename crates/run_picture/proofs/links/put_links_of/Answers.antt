use Rattle.report_text.proofs.CallerLemmas.{adds_then}
use Rattle.run_picture.proofs.links.put_links_of.Goals as goal

pub returns : goal.returns
returns g c =
    adds_then _ _ _ _ _ (adds_then _ _ _ _ _ c.put_band.ensures c.put_chain.ensures) c.put_edges.ensures
