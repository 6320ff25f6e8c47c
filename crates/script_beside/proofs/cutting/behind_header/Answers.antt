use Rattle.std.proofs.Common.{take, ◌∙◌}
use Rattle.script_beside.proofs.PartLemmas.{up_to}
use Rattle.script_beside.proofs.cutting.behind_header.Goals as goal

pub returns-in-Some-clause-ends : goal.returns-in-Some-clause-ends
returns-in-Some-clause-ends c = (take c.in-Some.at c.args.bytes.now, c.split_at.ensures.front ∙ up_to c.args.bytes.now _ c.in-Some.at c.in-Some.ensures.1)
