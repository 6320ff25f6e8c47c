use Rattle.object_form.proofs.FormLaws.{reads_as_one}
use Rattle.object_form.proofs.laws.reads_as_one.Goals as goal

pub returns : goal.returns
returns c = reads_as_one
