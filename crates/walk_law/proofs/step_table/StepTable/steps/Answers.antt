use Rattle.std.proofs.Common.{◌∙◌, ap}
use Rattle.walk_law.proofs.PlaceLemmas.{listed, steps_found}
use Rattle.walk_law.proofs.step_table.StepTable.steps.Goals as goal

pub returns-in-Some : goal.returns-in-Some
returns-in-Some c = c.as_slice.ensures ∙ (ap listed c.in-Some.ensures.value ∙ steps_found c.args.id c.args.self.now.by_id.entries)

pub returns-in-None : goal.returns-in-None
returns-in-None c = ap listed c.in-None.ensures.value ∙ steps_found c.args.id c.args.self.now.by_id.entries
