use Rattle.name_law.proofs.NamesApart.{scripts_name_apart}
use Rattle.name_law.proofs.laws.scripts_name_apart.Goals as goal

pub returns : goal.returns
returns c = scripts_name_apart
