use Rattle.lawful_run.proofs.Shown.{shown_as_appended}
use Rattle.lawful_run.proofs.laws.shown_as_appended.Goals as goal

pub returns : goal.returns
returns c = shown_as_appended
