use Rattle.script_text.proofs.RowLaws.{rows_are_within_limits}
use Rattle.script_text.proofs.laws.rows_are_within_limits.Goals as goal

pub returns : goal.returns
returns c = rows_are_within_limits
