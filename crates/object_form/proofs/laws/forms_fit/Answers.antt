use Rattle.object_form.proofs.LengthLaws.{forms_fit}
use Rattle.object_form.proofs.laws.forms_fit.Goals as goal

pub returns : goal.returns
returns c = forms_fit
