use Rattle.object_form.proofs.FormLaws.{texts_differ}
use Rattle.object_form.proofs.laws.texts_differ.Goals as goal

pub returns : goal.returns
returns c = texts_differ
