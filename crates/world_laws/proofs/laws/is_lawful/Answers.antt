use Rattle.world_laws.proofs.Runs.{held}
use Rattle.world_laws.proofs.Telling.{told}
use Rattle.world_laws.proofs.LawfulRows.{have_lawful_histories, have_lawful_rows, is_bounded}
use Rattle.world_laws.proofs.laws.is_lawful.Goals as goal

pub returns : goal.returns
returns c = record {
  histories = λ shape steps. have_lawful_histories _ (held shape steps);
  rows = λ shape steps. have_lawful_rows _ (held shape steps) (told shape steps);
  bounds = λ shape steps. is_bounded _ (held shape steps) (told shape steps);
}
