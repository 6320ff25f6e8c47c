use Rattle.std.proofs.Common.{subst, sym, ◌∙◌}
use Rattle.run_picture.specs.Labels.{IsOfLog}
use Rattle.run_picture.proofs.labels.put_subject.Goals as goal

pub put_named-requires : goal.put_named-requires
put_named-requires g c = subst IsOfLog (sym c.in-OfLog.is ∙ c.use_of.ensures) tt
