use Rattle.part_fold.proofs.AgreementLemmas.{parts_agree}
use Rattle.part_fold.proofs.laws.parts_agree.Goals as goal

pub returns : goal.returns
returns c = parts_agree
