use Rattle.world_laws.proofs.Runs.{held}
use Rattle.world_laws.proofs.Agreement.{each_line_rises, ordered_alike}
use Rattle.world_laws.proofs.laws.ordered_alike.Goals as goal

pub returns : goal.returns
returns c = record {
  rise = λ shape steps. each_line_rises _ (held shape steps);
  alike = λ shape steps. ordered_alike _ (held shape steps);
}
