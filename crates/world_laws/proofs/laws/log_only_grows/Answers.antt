use Rattle.world_laws.proofs.Runs.{held}
use Rattle.world_laws.proofs.Telling.{told}
use Rattle.world_laws.proofs.Growing.{each_line_grows, rows_stay}
use Rattle.world_laws.proofs.LaterLogs.{log_grows}
use Rattle.world_laws.proofs.laws.log_only_grows.Goals as goal

pub returns : goal.returns
returns c = record {
  lines = λ shape steps. each_line_grows _ (held shape steps);
  log = λ shape steps. log_grows _ (held shape steps) (told shape steps);
  rows = λ shape steps. rows_stay _;
}
