use Rattle.region_fold.proofs.ReadAnswers.{none_kept}
use Rattle.region_fold.proofs.fold.RegionFold.open.Goals as goal

pub returns-clause-kept : goal.returns-clause-kept
returns-clause-kept g c client colours =
    none_kept g.F.NodeFold.Holds client colours c.open.result c.open.ensures.last c.open.ensures.state
