use Rattle.lawful_run.proofs.Folds.{scans_are_whole}
use Rattle.lawful_run.proofs.laws.scans_are_whole.Goals as goal

pub returns : goal.returns
returns c = scans_are_whole
