use Rattle.part_fold.proofs.AgreementLemmas.{parts_are_shards}
use Rattle.part_fold.proofs.laws.parts_are_shards.Goals as goal

pub returns : goal.returns
returns c = parts_are_shards
