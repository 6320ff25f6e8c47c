use Rattle.walk_law.proofs.SayingLemmas.{said_by_steps}
use Rattle.walk_law.proofs.could_say.keeps_said.Goals as goal

pub returns : goal.returns
returns c = said_by_steps c.args.subject.now c.args.texts.now c.each_step.result c.requires c.each_step.ensures
