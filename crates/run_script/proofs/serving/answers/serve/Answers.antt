use Rattle.std.proofs.Common.{refl}
use Rattle.run_script.proofs.serving.answers.serve.Goals as goal

pub returns-clause-answered : goal.returns-clause-answered
returns-clause-answered g c = (refl, c.word-word.ensures, c.answer-answer.ensures.gives)
