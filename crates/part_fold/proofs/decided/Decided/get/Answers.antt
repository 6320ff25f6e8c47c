use Rattle.std.proofs.Common.{◌∙◌}
use Rattle.part_fold.proofs.DecidedLemmas.{found}
use Rattle.part_fold.proofs.decided.Decided.get.Goals as goal

pub returns : goal.returns
returns c = c.copied.ensures ∙ c.get.ensures.value ∙ found c.args.key c.args.self.now.outcomes.entries
