use Rattle.std.specs.Fmt.{digits}
use Rattle.std.proofs.Common.{refl}
use Rattle.load_script.proofs.Eights.{loads_of_eights}
use Rattle.load_script.proofs.laws.loads_are_so_large.Goals as goal

pub returns : goal.returns
unfolding digits
returns g = record { one = refl; eights = loads_of_eights }
