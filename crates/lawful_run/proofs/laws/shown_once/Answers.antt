use Rattle.lawful_run.proofs.Once.{shown_once}
use Rattle.lawful_run.proofs.laws.shown_once.Goals as goal

pub returns : goal.returns
returns c = shown_once
