use Rattle.lawful_run.proofs.Lines.{closing_lines_rise}
use Rattle.lawful_run.proofs.laws.closing_lines_rise.Goals as goal

pub returns : goal.returns
returns c = closing_lines_rise
