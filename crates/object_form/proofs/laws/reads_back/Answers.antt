use Rattle.object_form.proofs.FormLaws.{reads_back}
use Rattle.object_form.proofs.laws.reads_back.Goals as goal

pub returns : goal.returns
returns c = reads_back
