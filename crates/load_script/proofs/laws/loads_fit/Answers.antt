use Rattle.load_script.proofs.Loads.{load_fits, load_plain}
use Rattle.load_script.proofs.laws.loads_fit.Goals as goal

pub returns : goal.returns
returns g count small = (load_fits count small, load_plain count small)
